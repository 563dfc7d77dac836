use Rattle.std.proofs.Common.{◌≡◌, ◌∙◌, ap, sym, subst, refl}
use Rattle.ledger_transfers.specs.Touches.{touches}
use Rattle.ledger_settling.specs.Blocks.{meaning, IsOffence}
use Rattle.std.specs.Prelude.{IfErr, OnOk}
use Rattle.ledger_settling.specs.Slots.{Changes, SlotsFail, AppendFails, opening_of, with_slots}
use Rattle.ledger_settling.proofs.ApplyLemmas.{slots_change, slots_make}
use Rattle.ledger_settling.proofs.ProperLemmas.{on_ok_use, settled_proper}
use Rattle.ledger_settling.proofs.SlotLemmas.{settled_by_slots, offends_replay, on_ok, body_fails}
use Rattle.ledger_settling.proofs.settle.settle_body.Goals as goal

pub returns-in-Err-Rejected-clause-fails : goal.returns-in-Err-Rejected-clause-fails
returns-in-Err-Rejected-clause-fails g c =
    let eq = g.met.A.Eq g.world.𝓛 g.world.𝓜 g.world.𝓡 ((λ s x. x), (λ x. x), (λ x. x), λ x. x) in
    let laws = g.met.A.Account g.world.𝓛 g.world.𝓜 g.world.𝓡 ((λ s x. x), (λ x. x), (λ x. x), λ x. x) in
    let account = g.A.Account.rules in
    let ts = touches g.T.Transfer.changes_of c.args.batch.now in
    let ops = c.args.log.now.ops in
    let r = c.in-Err-Rejected.rejection in
    let fails = subst (SlotsFail account (opening_of account c.args.accounts.now) ts) c.in-Err-Rejected.field-0-is c.in-Err-Rejected.ensures.fails in
    let offends = offends_replay g.A.PartialEq.eq eq.laws account laws.laws g.A.AccountValue.values c.args.accounts.now ops c.requires ts r fails in
    (refl, subst (IsOffence (meaning g.T.Transfer.changes_of g.A.PartialEq.eq account g.A.AccountValue.values) ops c.args.batch.now) (sym c.in-Err-Rejected.rejection-is) offends)

pub returns-clause-settled : goal.returns-clause-settled
returns-clause-settled g c =
    let eq = g.met.A.Eq g.world.𝓛 g.world.𝓜 g.world.𝓡 ((λ s x. x), (λ x. x), (λ x. x), λ x. x) in
    let laws = g.met.A.Account g.world.𝓛 g.world.𝓜 g.world.𝓡 ((λ s x. x), (λ x. x), (λ x. x), λ x. x) in
    let ts = touches g.T.Transfer.changes_of c.args.batch.now in
    on_ok c.apply_slots.result _
    (settled_by_slots g.A.PartialEq.eq eq.laws g.A.Account.rules laws.laws g.A.AccountValue.values c.args.accounts.now c.args.log.now.ops c.requires ts c.in-Ok.planned.keys.items c.in-Ok.planned.slots.items c.in-Ok.ensures.order c.in-Ok.ensures.slots)

pub returns-clause-grown : goal.returns-clause-grown
returns-clause-grown g c =
    let eq = g.met.A.Eq g.world.𝓛 g.world.𝓜 g.world.𝓡 ((λ s x. x), (λ x. x), (λ x. x), λ x. x) in
    let laws = g.met.A.Account g.world.𝓛 g.world.𝓜 g.world.𝓡 ((λ s x. x), (λ x. x), (λ x. x), λ x. x) in
    let value = g.met.A.AccountValue g.world.𝓛 g.world.𝓜 g.world.𝓡 ((λ s x. x), (λ x. x), (λ x. x), λ x. x) in
    let log = c.args.log.now in
    let ts = touches g.T.Transfer.changes_of c.args.batch.now in
    let made = ap (λ ks. with_slots g.A.AccountValue.values log ks c.in-Ok.planned.slots.items) c.as_slice-keys.ensures.value
    ∙ slots_make g.A.PartialEq.eq eq.laws g.A.Account.rules laws.laws g.A.AccountValue.sound g.A.AccountValue.values value.value_laws c.args.accounts.now log c.requires ts c.in-Ok.planned.keys.items c.in-Ok.planned.slots.items c.in-Ok.ensures.order c.in-Ok.ensures.slots in
    subst (λ all. OnOk c.apply_slots.result (c.apply_slots.new.log ≡ record { front = log.front; pinned = log.pinned; ops = all })) made c.apply_slots.ensures.grown

pub returns-clause-fails : goal.returns-clause-fails
returns-clause-fails g c =
    let eq = g.met.A.Eq g.world.𝓛 g.world.𝓜 g.world.𝓡 ((λ s x. x), (λ x. x), (λ x. x), λ x. x) in
    let laws = g.met.A.Account g.world.𝓛 g.world.𝓜 g.world.𝓡 ((λ s x. x), (λ x. x), (λ x. x), λ x. x) in
    let value = g.met.A.AccountValue g.world.𝓛 g.world.𝓜 g.world.𝓡 ((λ s x. x), (λ x. x), (λ x. x), λ x. x) in
    let log = c.args.log.now in
    let ts = touches g.T.Transfer.changes_of c.args.batch.now in
    let made = ap (λ ks. with_slots g.A.AccountValue.values log ks c.in-Ok.planned.slots.items) c.as_slice-keys.ensures.value
    ∙ slots_make g.A.PartialEq.eq eq.laws g.A.Account.rules laws.laws g.A.AccountValue.sound g.A.AccountValue.values value.value_laws c.args.accounts.now log c.requires ts c.in-Ok.planned.keys.items c.in-Ok.planned.slots.items c.in-Ok.ensures.order c.in-Ok.ensures.slots in
    body_fails (meaning g.T.Transfer.changes_of g.A.PartialEq.eq g.A.Account.rules g.A.AccountValue.values) log c.args.block c.args.batch.now c.apply_slots.result
    (settled_by_slots g.A.PartialEq.eq eq.laws g.A.Account.rules laws.laws g.A.AccountValue.values c.args.accounts.now log.ops c.requires ts c.in-Ok.planned.keys.items c.in-Ok.planned.slots.items c.in-Ok.ensures.order c.in-Ok.ensures.slots)
    (subst (λ all. IfErr c.apply_slots.result (AppendFails log c.args.block all)) made c.apply_slots.ensures.fails)

pub returns-clause-initial : goal.returns-clause-initial
returns-clause-initial g c =
    let eq = g.met.A.Eq g.world.𝓛 g.world.𝓜 g.world.𝓡 ((λ s x. x), (λ x. x), (λ x. x), λ x. x) in
    let ts = touches g.T.Transfer.changes_of c.args.batch.now in
    let proper = settled_proper g.A.PartialEq.eq g.A.Account.rules eq.laws c.in-Ok.planned.keys.items (opening_of g.A.Account.rules c.args.accounts.now) ts c.in-Ok.planned.slots.items c.in-Ok.ensures.slots in
    on_ok_use c.apply_slots.result _ _ proper c.apply_slots.ensures.initial

pub apply_slots-requires-clause-changes : goal.apply_slots-requires-clause-changes
apply_slots-requires-clause-changes g c κs within =
    let eq = g.met.A.Eq g.world.𝓛 g.world.𝓜 g.world.𝓡 ((λ s x. x), (λ x. x), (λ x. x), λ x. x) in
    let laws = g.met.A.Account g.world.𝓛 g.world.𝓜 g.world.𝓡 ((λ s x. x), (λ x. x), (λ x. x), λ x. x) in
    let value = g.met.A.AccountValue g.world.𝓛 g.world.𝓜 g.world.𝓡 ((λ s x. x), (λ x. x), (λ x. x), λ x. x) in
    let log = c.args.log.now in
    let ts = touches g.T.Transfer.changes_of c.args.batch.now in
    subst (λ ks. Changes g.A.AccountValue.values log ks c.in-Ok.planned.slots.items) (sym c.as_slice-keys.ensures.value)
    (slots_change g.A.PartialEq.eq eq.laws g.A.Account.rules laws.laws g.A.AccountValue.sound g.A.AccountValue.values value.value_laws c.args.accounts.now log c.requires ts c.in-Ok.planned.keys.items c.in-Ok.planned.slots.items c.in-Ok.ensures.order c.in-Ok.ensures.slots)
