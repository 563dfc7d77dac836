use Rattle.std.proofs.Common.{◌+◌, length, slice_get, sym, ap, subst, ◌∙◌}
use Rattle.std.proofs.lemmas.Option.{slice_get-get_or}
use Rattle.std.proofs.lemmas.List.{length_push}
use Rattle.ledger_settling.specs.Slots.{AreFound}
use Rattle.ledger_settling.proofs.RoundLemmas.{AreFound-push}
use Rattle.ledger_settling.proofs.rounds.slots_at.Goals as goal

pub loop-place-preserved : goal.loop-place-preserved
loop-place-preserved g c =
    let same = g.A.PartialEq.eq in
    let slots = c.args.slots.now in
    let places = c.args.places.now in
    let found = c.loop-place.found.items in
    let n = c.loop-place.invariant.count in
    record {
      count = ap length c.in_ok-push.ensures.items ∙ length_push found c.in_ok-slot.slot ∙ ap (λ k. k + 1) n;
      each = subst (AreFound same slots places) (sym c.in_ok-push.ensures.items)
          (AreFound-push same slots places found _ c.in_ok-slot.slot c.loop-place.invariant.each (ap (slice_get places) n ∙ slice_get-get_or places c.loop-place.place-index _ c.loop-place-test.true) c.in_ok-slot.ensures);
    }
