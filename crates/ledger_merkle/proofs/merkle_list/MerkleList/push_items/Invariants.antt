use Rattle.std.proofs.Common.{◌≡◌, ◌++◌, take, map}
use Rattle.ledger_merkle.specs.Leaves.{leaves_from, list_size}
use Rattle.ledger_merkle.proofs.merkle_list.MerkleList.push_items.Given as goal

abbrev pub invariant-loop-item : goal.invariant-loop-item
invariant-loop-item g l = record {
  front : l.self.front ≡ l.initial.self.front;
  pinned : l.self.pinned ≡ l.initial.self.pinned;
  leaves : l.self.leaves ≡ l.initial.self.leaves ++ leaves_from g.H.Hasher.digest (list_size l.initial.self) (map g.T.Leaf.spelling (take l.item-index l.items));
}
