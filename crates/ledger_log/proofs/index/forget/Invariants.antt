use Rattle.std.proofs.Common.{◌≡◌, ℕ, List}
use Rattle.ledger_log.specs.Index.{end_at, retained}
use Rattle.ledger_log.proofs.index.forget.Given as goal

abbrev pub invariant-loop-op : goal.invariant-loop-op
invariant-loop-op g l = (k : List ℕ) → retained l.fn.front (end_at l.index k) ≡ retained l.fn.front (end_at l.initial.index k)
