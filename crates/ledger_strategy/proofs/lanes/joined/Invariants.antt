use Rattle.std.proofs.Common.{◌≡◌, ◌++◌}
use Rattle.std.specs.List.{All}
use Rattle.std.specs.Vec.Iter.{into_iter_items}
use Rattle.ledger_strategy.specs.Parts.{pieces, IsPiece, HasFault}
use Rattle.ledger_strategy.proofs.lanes.joined.Given as goal

abbrev pub invariant-loop-list : goal.invariant-loop-list
invariant-loop-list g l = record {
  all : All IsPiece (into_iter_items l.list-iterator) → All IsPiece l.fn.lists.items;
  refused : (fault : g.row.E.Denot) → HasFault (into_iter_items l.list-iterator) fault → HasFault l.fn.lists.items fault;
  whole : l.whole.items ++ pieces (into_iter_items l.list-iterator) ≡ pieces l.fn.lists.items;
}
