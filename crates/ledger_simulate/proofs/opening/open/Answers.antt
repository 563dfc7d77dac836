use Rattle.std.proofs.Common.{refl, ap, ◌∙◌, ◌++◌}
use Rattle.std.specs.List.{flat_map}
use Rattle.ledger_simulate.specs.Opening.{actions_of, first_poll, first_tick}
use Rattle.ledger_simulate.proofs.Beginning.{adds_failures}
use Rattle.ledger_simulate.proofs.Changing.{changes_alone_still, changes_alone_then}
use Rattle.ledger_simulate.proofs.opening.open.Goals as goal

pub returns-clause-changes_alone : goal.returns-clause-changes_alone
returns-clause-changes_alone g c =
    let peer_of = g.D.EngineDefinition.peer_of c.args.plan.now.engine in
    changes_alone_then peer_of c.args.agenda.now c.start_prompt.new.agenda c.set_failures.new.agenda c.args.world.now c.start_prompt.new.world c.start_prompt.new.world c.in_ok-start_prompt.ensures.changes_alone
    (changes_alone_still peer_of c.start_prompt.new.agenda c.set_failures.new.agenda c.start_prompt.new.world c.start_prompt.new.world
    (adds_failures c.start_prompt.new.agenda c.set_failures.new.agenda c.args.plan.now.crashes c.args.polls (c.in_ok-set_failures.ensures ∙ ap (λ cs. record c.start_prompt.new.agenda { events = c.start_prompt.new.agenda.events ++ flat_map actions_of cs ++ flat_map first_tick cs ++ first_poll c.args.polls }) c.as_slice.ensures)) refl refl refl refl)
