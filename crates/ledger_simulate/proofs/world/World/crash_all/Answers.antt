use Rattle.std.proofs.Common.{◌≡◌, [], sym, ap, ◌∙◌, arith}
use Rattle.std.proofs.lemmas.Grind.{common_steps}
use Rattle.std.specs.Vec.Iter.{into_iter_items}
use Rattle.ledger_simulate.specs.Failures.{crashed_all, standing_of}
use Rattle.ledger_simulate.proofs.Changing.{changes_then}
use Rattle.ledger_simulate.proofs.world.World.crash_all.Goals as goal

pub loop-pk-preserved : goal.loop-pk-preserved
loop-pk-preserved g c = record {
  changes = λ peer_of.
      changes_then peer_of c.args.agenda.now c.loop-pk.agenda c.crash_for.new.agenda c.args.self.now c.loop-pk.self c.crash_for.new.self
      (c.loop-pk.invariant.changes peer_of) (c.in_ok-crash_for.ensures.changes_alone peer_of).changes;
  standing =
      ap (λ s. crashed_all s (into_iter_items c.next.new.self)) c.in_ok-crash_for.ensures.standing
      ∙ ap (crashed_all (standing_of c.loop-pk.self)) (sym c.in-Some.ensures.steps.0)
      ∙ c.loop-pk.invariant.standing;
  started = c.in_ok-crash_for.ensures.started ∙ c.loop-pk.invariant.started;
}

pub returns-clause-standing : goal.returns-clause-standing
returns-clause-standing g c =
    let none : into_iter_items c.loop-pk.pk-iterator ≡ [] = grind (arith, common_steps) in
    ap (crashed_all (standing_of c.loop-pk.self)) (sym none) ∙ c.loop-pk.invariant.standing
