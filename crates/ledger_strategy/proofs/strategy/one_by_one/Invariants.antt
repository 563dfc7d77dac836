use Rattle.ledger_strategy.specs.Parts.{AreResults}
use Rattle.ledger_strategy.proofs.strategy.one_by_one.Given as goal

abbrev pub invariant-loop-part : goal.invariant-loop-part
invariant-loop-part g l = AreResults (goal.F-post g l.work) l.part l.answers.items
