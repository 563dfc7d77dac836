use Rattle.std.proofs.Common.{◌≡◌, ◌+◌, length, take, map}
use Rattle.std.specs.Int.RustNames.{count_ones}
use Rattle.ledger_merkle.specs.Tree.{grow}
use Rattle.ledger_merkle.proofs.binding.walk.Given as goal

abbrev pub invariant-loop-index : goal.invariant-loop-index
invariant-loop-index g l = record {
  at : l.at ≡ l.fn.a.start + l.index;
  left : l.left ≡ grow g.H.Hasher.digest l.fn.a.start l.fn.a.pinned (map g.T.Leaf.spelling (take l.index l.fn.a.ops));
  right : l.right ≡ grow g.H.Hasher.digest l.fn.a.start l.fn.b.pinned (map g.T.Leaf.spelling (take l.index l.fn.b.ops));
  lefts : length l.left ≡ count_ones l.at;
  rights : length l.right ≡ count_ones l.at;
  same : l.left ≡ l.right → (l.fn.a.pinned ≡ l.fn.b.pinned) × (take l.index l.fn.a.ops ≡ take l.index l.fn.b.ops);
}
