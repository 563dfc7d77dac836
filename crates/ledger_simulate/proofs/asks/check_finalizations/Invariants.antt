use Rattle.std.proofs.Common.{◌≡◌, All, None, take}
use Rattle.ledger_simulate.proofs.asks.check_finalizations.Given as goal

abbrev pub invariant-loop-property : goal.invariant-loop-property
invariant-loop-property g l = All (λ p. (goal.FinalizationProperty-dyn g (p.vtable, p.value)).finalization_complaint p.value l.states ≡ None) (take l.property-index l.properties)
