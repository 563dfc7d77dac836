use Rattle.std.proofs.Common.{◌≡◌, All, None, take}
use Rattle.ledger_simulate.proofs.asks.check_properties.Given as goal

abbrev pub invariant-loop-property : goal.invariant-loop-property
invariant-loop-property g l = All (λ p. (goal.Property-dyn g (p.vtable, p.value)).property_complaint p.value l.tracker l.states ≡ None) (take l.property-index l.properties)
