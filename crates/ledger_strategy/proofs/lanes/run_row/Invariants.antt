use Rattle.ledger_strategy.specs.Parts.{AreResultsFrom}
use Rattle.ledger_strategy.proofs.lanes.run_row.Given as goal

abbrev pub invariant-loop-part : goal.invariant-loop-part
invariant-loop-part g l = AreResultsFrom (goal.F-post g l.work) l.from l.part l.answers.items
