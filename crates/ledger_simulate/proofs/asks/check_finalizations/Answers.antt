use Rattle.std.proofs.Common.{◌≡◌, None}
use Rattle.ledger_simulate.proofs.Answering.{complaint_at}
use Rattle.ledger_simulate.proofs.Each.{All_more, All_whole}
use Rattle.ledger_simulate.proofs.asks.check_finalizations.Goals as goal

pub loop-property-preserved : goal.loop-property-preserved
loop-property-preserved g c =
    All_more (λ p. (goal.FinalizationProperty-dyn g (p.vtable, p.value)).finalization_complaint p.value c.args.states.now ≡ None) c.args.properties.now c.loop-property.property-index
    c.property-item.result c.loop-property-test.true c.property-item.is c.loop-property.invariant c.in-Ok.ensures.ok

pub returns-clause-ok : goal.returns-clause-ok
returns-clause-ok g c =
    All_whole (λ p. (goal.FinalizationProperty-dyn g (p.vtable, p.value)).finalization_complaint p.value c.args.states.now ≡ None) c.args.properties.now c.loop-property.property-index
    c.loop-property-test.false c.loop-property.invariant

pub returns-in-Err-clause-complains : goal.returns-in-Err-clause-complains
returns-in-Err-clause-complains g c =
    complaint_at (λ p. (goal.FinalizationProperty-dyn g (p.vtable, p.value)).finalization_name p.value) (λ p. (goal.FinalizationProperty-dyn g (p.vtable, p.value)).finalization_complaint p.value) c.args.properties.now c.args.states.now
    c.loop-property.property-index c.property-item.result c.in-Err.stop c.loop-property-test.true c.property-item.is c.in-Err.ensures.err
