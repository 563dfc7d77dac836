use Rattle.std.proofs.Common.{◌≡◌, sym, ap, subst, ◌∙◌, length, bytes_eq}
use Rattle.std.specs.Map.{keys_of}
use Rattle.std.proofs.lemmas.List.{length-map}
use Rattle.std.proofs.lemmas.Result.{err_from_is_err_and}
use Rattle.ledger_transfers.specs.Touches.{touches}
use Rattle.ledger_transfers.specs.Registering.{AreSettled}
use Rattle.ledger_settling.specs.Slots.{AreReads, opening_of}
use Rattle.ledger_settling.proofs.SlotLemmas.{slots_fail, slots_of_plan}
use Rattle.ledger_settling.proofs.OutcomeLemmas.{touched_is}
use Rattle.ledger_settling.proofs.slots.body_slots.Goals as goal

pub returns-in_err-slots-clause-fails : goal.returns-in_err-slots-clause-fails
returns-in_err-slots-clause-fails g c =
    let same = g.A.PartialEq.eq in
    let account = g.A.Account.rules in
    let eq = g.met.A.Eq g.world.𝓛 g.world.𝓜 g.world.𝓡 ((λ s x. x), (λ x. x), (λ x. x), λ x. x) in
    let laws = g.met.A.Account g.world.𝓛 g.world.𝓜 g.world.𝓡 ((λ s x. x), (λ x. x), (λ x. x), λ x. x) in
    let accounts = c.args.accounts.now in
    let plan = c.in_ok-plan.plan in
    let ts = touches g.T.Transfer.changes_of c.args.batch.now in
    let reads : AreReads same accounts (keys_of plan) c.deref.result.now =
    subst (AreReads same accounts (keys_of plan)) (sym c.deref.ensures.value) (subst (λ ks. AreReads same accounts ks c.in_ok-reads.reads.items) c.keys.ensures c.in_ok-reads.ensures.each) in
    let p = err_from_is_err_and c.from_residual-in_err-slots.result c.from_residual-in_err-slots.ensures.1 in
    rw (p.1, p.2) (slots_fail same eq.laws account laws.laws accounts ts plan c.in_ok-plan.ensures.plan c.deref.result.now c.in_err-slots.field-0.0 c.in_ok-plan.ensures.within reads c.in_err-slots.ensures.fails)

pub returns-clause-slots : goal.returns-clause-slots
returns-clause-slots g c =
    let same = g.A.PartialEq.eq in
    let account = g.A.Account.rules in
    let eq = g.met.A.Eq g.world.𝓛 g.world.𝓜 g.world.𝓡 ((λ s x. x), (λ x. x), (λ x. x), λ x. x) in
    let laws = g.met.A.Account g.world.𝓛 g.world.𝓜 g.world.𝓡 ((λ s x. x), (λ x. x), (λ x. x), λ x. x) in
    let accounts = c.args.accounts.now in
    let plan = c.in_ok-plan.plan in
    let ts = touches g.T.Transfer.changes_of c.args.batch.now in
    let reads : AreReads same accounts (keys_of plan) c.deref.result.now =
    subst (AreReads same accounts (keys_of plan)) (sym c.deref.ensures.value) (subst (λ ks. AreReads same accounts ks c.in_ok-reads.reads.items) c.keys.ensures c.in_ok-reads.ensures.each) in
    let many : length c.deref.result.now ≡ length plan = ap length c.deref.ensures.value ∙ c.in_ok-reads.ensures.all ∙ ap length c.keys.ensures ∙ length-map plan (λ e. e.0) in
    subst (λ ks. AreSettled bytes_eq same account ks (opening_of account accounts) ts c.in_ok-slots.slots.items) (sym (c.in_ok-keys.ensures ∙ c.keys-2.ensures))
    (slots_of_plan same eq.laws account laws.laws accounts ts plan c.in_ok-plan.ensures.plan c.deref.result.now c.in_ok-slots.slots.items many reads c.in_ok-slots.ensures.settled)

pub returns-clause-order : goal.returns-clause-order
returns-clause-order g c = c.in_ok-keys.ensures ∙ c.keys-2.ensures ∙ c.in_ok-plan.ensures.order ∙ touched_is (touches g.T.Transfer.changes_of c.args.batch.now)
