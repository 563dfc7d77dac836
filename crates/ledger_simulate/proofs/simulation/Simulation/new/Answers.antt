use Rattle.std.proofs.Common.{rules, refl, ap, ◌∙◌}
use Rattle.ledger_simulate.specs.Queue.{empty_queue, queued_all}
use Rattle.ledger_simulate.proofs.Beginning.{seated_first}
use Rattle.ledger_simulate.proofs.Delaying.{some_map}
use Rattle.ledger_simulate.proofs.simulation.Simulation.new.Goals as goal

pub returns-clause-opens : goal.returns-clause-opens
returns-clause-opens g c =
    let kept = c.in_ok-open.ensures.changes_alone.changes.rules in
    record {
      seed_is = refl;
      handled = refl;
      updates = search rules;
      words = search rules;
      common = search rules;
      unchanged = search rules;
      queue = search rules;
      waits = search rules;
      counts = search rules;
      max_size = some_map (g.D.EngineDefinition.carried_size c.args.plan.now.engine) (λ told is. ap (λ r. r.max_size) kept ∙ is) c.in_ok-world.ensures.rules.0;
      channels = some_map (g.D.EngineDefinition.carried_on c.args.plan.now.engine) (λ told is. ap (λ r. r.channels.items) kept ∙ is) c.in_ok-world.ensures.rules.1;
      seated =
          seated_first (g.D.EngineDefinition.peer_of c.args.plan.now.engine) c.new-agenda.result c.open.new.agenda c.in_ok-world.world c.open.new.world c.add_all.new.self
          c.new-agenda.ensures c.in_ok-open.ensures.changes_alone c.in_ok-world.ensures.seats (c.in_ok-add_all.ensures ∙ ap (λ q. queued_all q 0 c.into_events.result.items) c.new-queue.ensures ∙ ap (queued_all empty_queue 0) c.into_events.ensures);
    }
