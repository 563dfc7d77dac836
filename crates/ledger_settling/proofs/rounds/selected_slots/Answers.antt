use Rattle.std.proofs.Common.{◌∙◌, List, ℕ, sym, ap, subst, length}
use Rattle.std.proofs.lemmas.List.{length-map}
use Rattle.ledger_transfers.specs.declared.held.Held.{Held}
use Rattle.ledger_strategy.proofs.PartsLemmas.{if_ok_both}
use Rattle.ledger_settling.specs.Slots.{AreFound}
use Rattle.ledger_settling.proofs.RoundLemmas.{slots_taken}
use Rattle.ledger_settling.proofs.rounds.selected_slots.Goals as goal

pub settle-requires-after_bounds : goal.settle-requires-after_bounds
settle-requires-after_bounds g c κs within = sym (length-map c.args.selection.1 (λ (e : List ℕ × Held g.row.A.Denot). e.0)) ∙ ap length c.requires.all

pub returns : goal.returns
returns g c = if_ok_both c.slots_at.result _ _ _ (λ found many each ts stands first.
    let same = g.A.PartialEq.eq in
    let account = g.A.Account.rules in
    let eq = g.met.A.Eq g.world.𝓛 g.world.𝓜 g.world.𝓡 ((λ s x. x), (λ x. x), (λ x. x), λ x. x) in
    let laws = g.met.A.Account g.world.𝓛 g.world.𝓜 g.world.𝓡 ((λ s x. x), (λ x. x), (λ x. x), λ x. x) in
    let sel = c.args.selection in
    slots_taken same eq.laws account laws.laws c.args.accounts.now sel.0 sel.1 c.requires ts c.in_ok-slots.slots.items c.args.keys.now c.deref-2.result.now found.items stands
    (c.in_ok-slots.ensures.slots ts stands) first (c.deref-2.ensures.value ∙ c.in_ok-places.ensures) many (subst (λ ss. AreFound same ss c.deref-2.result.now found.items) c.deref.ensures.value each)) c.slots_at.ensures.all c.slots_at.ensures.each
