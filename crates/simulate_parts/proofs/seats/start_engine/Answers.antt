use Rattle.std.proofs.Common.{rules, refl, ap, ◌∙◌}
use Rattle.simulate_parts.specs.Seats.{starts_in}
use Rattle.simulate_parts.proofs.Starting.{made_same}
use Rattle.simulate_parts.proofs.seats.start_engine.Goals as goal

pub returns-clause-ok : goal.returns-clause-ok
returns-clause-ok g c = record {
  running = record { birth = c.args.start.birth; engine = c.in_ok-engine.engine; state = c.in_ok-engine.state };
  put = search rules;
  birth = refl;
  peer = c.in_ok-engine.ensures.peer;
  made_of =
      made_same (g.D.EngineDefinition.made c.args.definition.now) c.args.start c.starts_of-restart.result _ c.in_ok-copy_items.field-0 c.args.participants.now (c.in_ok-engine.engine, c.in_ok-engine.state)
      (c.starts_of-restart.ensures ∙ ap starts_in c.get.ensures.value) c.in_ok-copy_items.ensures c.in_ok-engine.ensures.made_of;
  told = c.in_ok-engine.ensures.told;
}
