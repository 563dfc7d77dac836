use Rattle.std.proofs.Common.{◌≡◌, ◌∙◌, ◌++◌, [], List, ℕ, sym, ap, subst, filter, not}
use Rattle.std.specs.List.{flat_map}
use Rattle.std.proofs.lemmas.Result.{err_from_is_err_and}
use Rattle.ledger_job.specs.declared.block.Block.TheVariants.{Rounds}
use Rattle.ledger_job.specs.declared.block.BlockVerdicts.TheVariants.{Rounds as Verdicts}
use Rattle.ledger_transfers.specs.Changes.{is_empty_change}
use Rattle.ledger_transfers.specs.Greedy.{taken}
use Rattle.ledger_transfers.specs.Touches.{touches}
use Rattle.ledger_transfers.specs.declared.change.Change.{Change}
use Rattle.ledger_transfers.specs.declared.held.Held.{Held}
use Rattle.ledger_settling.specs.Blocks.{meaning, joined, Settles, with_touches}
use Rattle.ledger_settling.specs.Rounds.{AreOpened}
use Rattle.ledger_settling.specs.Slots.{AppendFails, opening_of, touched_first}
use Rattle.ledger_settling.proofs.ApplyLemmas.{slots_change, slots_make}
use Rattle.ledger_settling.proofs.ProperLemmas.{settled_proper}
use Rattle.ledger_settling.proofs.OpenLemmas.{opened_none}
use Rattle.ledger_settling.proofs.RoundLemmas.{rounds_settle, rounds_fail}
use Rattle.ledger_settling.proofs.rounds.settle_rounds.Goals as goal

pub choose_rounds-requires-clause-opened : goal.choose_rounds-requires-clause-opened
choose_rounds-requires-clause-opened g c κs within =
    subst (λ (p : List (List ℕ) × List (List ℕ × Held g.row.A.Denot)). AreOpened g.A.PartialEq.eq c.args.accounts.now p.0 p.1) (sym c.new-selection.ensures.empty) (opened_none g.A.PartialEq.eq c.args.accounts.now)

pub returns-in-Ok-clause-settles : goal.returns-in-Ok-clause-settles
returns-in-Ok-clause-settles g c =
    let same = g.A.PartialEq.eq in
    let account = g.A.Account.rules in
    let eq = g.met.A.Eq g.world.𝓛 g.world.𝓜 g.world.𝓡 ((λ s x. x), (λ x. x), (λ x. x), λ x. x) in
    let laws = g.met.A.Account g.world.𝓛 g.world.𝓜 g.world.𝓡 ((λ s x. x), (λ x. x), (λ x. x), λ x. x) in
    let m = meaning g.T.Transfer.changes_of same account g.A.AccountValue.values in
    let chose = c.in_ok-chosen.ensures.chosen [] c.new-selection.ensures.stands in
    subst (λ vs. Settles m c.args.log.now.ops (Rounds c.args.rounds.now) (Verdicts vs)) (sym c.from_vec.ensures)
    (rounds_settle m eq.laws laws.laws c.args.accounts.now c.args.log.now.ops c.requires c.args.rounds.now c.in_ok-chosen.chosen.verdicts.items chose.0 c.in_ok-chosen.ensures.cut)

pub returns-in-Ok-clause-grown : goal.returns-in-Ok-clause-grown
returns-in-Ok-clause-grown g c =
    let same = g.A.PartialEq.eq in
    let account = g.A.Account.rules in
    let values = g.A.AccountValue.values in
    let eq = g.met.A.Eq g.world.𝓛 g.world.𝓜 g.world.𝓡 ((λ s x. x), (λ x. x), (λ x. x), λ x. x) in
    let laws = g.met.A.Account g.world.𝓛 g.world.𝓜 g.world.𝓡 ((λ s x. x), (λ x. x), (λ x. x), λ x. x) in
    let value = g.met.A.AccountValue g.world.𝓛 g.world.𝓜 g.world.𝓡 ((λ s x. x), (λ x. x), (λ x. x), λ x. x) in
    let f = g.T.Transfer.changes_of in
    let log = c.args.log.now in
    let rounds = c.args.rounds.now in
    let vs = c.in_ok-chosen.chosen.verdicts.items in
    let batch = taken (joined rounds) (joined vs) in
    let chose = c.in_ok-chosen.ensures.chosen [] c.new-selection.ensures.stands in
    let keys : c.as_slice-keys.result.now ≡ touched_first (touches f batch) = c.as_slice-keys.ensures.keys ∙ c.in_ok-order.ensures
    ∙ ap (λ us. touched_first (filter (λ (t : List ℕ × Change g.row.A-Effect.Denot). not (is_empty_change t.1)) us)) (c.in_ok-chosen.ensures.changes ∙ ap (λ us. us ++ flat_map f batch) c.new-changes.ensures.items) in
    let made = slots_make same eq.laws account laws.laws g.A.AccountValue.sound values value.value_laws c.args.accounts.now log c.requires (touches f batch) c.as_slice-keys.result.now c.in_ok-slots.slots.items keys
    (c.in_ok-slots.ensures (touches f batch) chose.1 keys) in
    c.in-Ok.ensures.grown
    ∙ ap (λ all. record { front = log.front; pinned = log.pinned; ops = all }) (made ∙ ap (λ ws. with_touches same account values log.front log.ops (touches f (taken (joined rounds) (joined ws)))) (sym c.from_vec.ensures))

pub returns-in-Err-clause-fails : goal.returns-in-Err-clause-fails
returns-in-Err-clause-fails g c =
    let same = g.A.PartialEq.eq in
    let account = g.A.Account.rules in
    let values = g.A.AccountValue.values in
    let eq = g.met.A.Eq g.world.𝓛 g.world.𝓜 g.world.𝓡 ((λ s x. x), (λ x. x), (λ x. x), λ x. x) in
    let laws = g.met.A.Account g.world.𝓛 g.world.𝓜 g.world.𝓡 ((λ s x. x), (λ x. x), (λ x. x), λ x. x) in
    let value = g.met.A.AccountValue g.world.𝓛 g.world.𝓜 g.world.𝓡 ((λ s x. x), (λ x. x), (λ x. x), λ x. x) in
    let f = g.T.Transfer.changes_of in
    let log = c.args.log.now in
    let rounds = c.args.rounds.now in
    let vs = c.in_ok-chosen.chosen.verdicts.items in
    let batch = taken (joined rounds) (joined vs) in
    let chose = c.in_ok-chosen.ensures.chosen [] c.new-selection.ensures.stands in
    let keys : c.as_slice-keys.result.now ≡ touched_first (touches f batch) = c.as_slice-keys.ensures.keys ∙ c.in_ok-order.ensures
    ∙ ap (λ us. touched_first (filter (λ (t : List ℕ × Change g.row.A-Effect.Denot). not (is_empty_change t.1)) us)) (c.in_ok-chosen.ensures.changes ∙ ap (λ us. us ++ flat_map f batch) c.new-changes.ensures.items) in
    let made = slots_make same eq.laws account laws.laws g.A.AccountValue.sound values value.value_laws c.args.accounts.now log c.requires (touches f batch) c.as_slice-keys.result.now c.in_ok-slots.slots.items keys
    (c.in_ok-slots.ensures (touches f batch) chose.1 keys) in
    let m = meaning f same account values in
    rounds_fail m log c.args.place rounds vs c.in-Err.fault
    (rounds_settle m eq.laws laws.laws c.args.accounts.now log.ops c.requires rounds vs chose.0 c.in_ok-chosen.ensures.cut)
    (subst (λ all. AppendFails log c.args.place all c.in-Err.fault) made c.in-Err.ensures.fails)

pub returns-in_err-slots-clause-fails : goal.returns-in_err-slots-clause-fails
returns-in_err-slots-clause-fails g c =
    let p = err_from_is_err_and c.from_residual-in_err-slots.result c.from_residual-in_err-slots.ensures.1 in
    rw (p.1, p.2) tt

pub apply_slots-requires-clause-changes : goal.apply_slots-requires-clause-changes
apply_slots-requires-clause-changes g c κs within =
    let same = g.A.PartialEq.eq in
    let account = g.A.Account.rules in
    let values = g.A.AccountValue.values in
    let eq = g.met.A.Eq g.world.𝓛 g.world.𝓜 g.world.𝓡 ((λ s x. x), (λ x. x), (λ x. x), λ x. x) in
    let laws = g.met.A.Account g.world.𝓛 g.world.𝓜 g.world.𝓡 ((λ s x. x), (λ x. x), (λ x. x), λ x. x) in
    let value = g.met.A.AccountValue g.world.𝓛 g.world.𝓜 g.world.𝓡 ((λ s x. x), (λ x. x), (λ x. x), λ x. x) in
    let f = g.T.Transfer.changes_of in
    let batch = taken (joined c.args.rounds.now) (joined c.in_ok-chosen.chosen.verdicts.items) in
    let chose = c.in_ok-chosen.ensures.chosen [] c.new-selection.ensures.stands in
    let keys : c.as_slice-keys.result.now ≡ touched_first (touches f batch) = c.as_slice-keys.ensures.keys ∙ c.in_ok-order.ensures
    ∙ ap (λ us. touched_first (filter (λ (t : List ℕ × Change g.row.A-Effect.Denot). not (is_empty_change t.1)) us)) (c.in_ok-chosen.ensures.changes ∙ ap (λ us. us ++ flat_map f batch) c.new-changes.ensures.items) in
    slots_change same eq.laws account laws.laws g.A.AccountValue.sound values value.value_laws c.args.accounts.now c.args.log.now c.requires (touches f batch) c.as_slice-keys.result.now c.in_ok-slots.slots.items keys
    (c.in_ok-slots.ensures (touches f batch) chose.1 keys)

pub returns-in-Ok-clause-initial : goal.returns-in-Ok-clause-initial
returns-in-Ok-clause-initial g c =
    let same = g.A.PartialEq.eq in
    let account = g.A.Account.rules in
    let eq = g.met.A.Eq g.world.𝓛 g.world.𝓜 g.world.𝓡 ((λ s x. x), (λ x. x), (λ x. x), λ x. x) in
    let f = g.T.Transfer.changes_of in
    let batch = taken (joined c.args.rounds.now) (joined c.in_ok-chosen.chosen.verdicts.items) in
    let chose = c.in_ok-chosen.ensures.chosen [] c.new-selection.ensures.stands in
    let keys : c.as_slice-keys.result.now ≡ touched_first (touches f batch) = c.as_slice-keys.ensures.keys ∙ c.in_ok-order.ensures
    ∙ ap (λ us. touched_first (filter (λ (t : List ℕ × Change g.row.A-Effect.Denot). not (is_empty_change t.1)) us)) (c.in_ok-chosen.ensures.changes ∙ ap (λ us. us ++ flat_map f batch) c.new-changes.ensures.items) in
    c.in-Ok.ensures.initial
    (settled_proper same account eq.laws c.as_slice-keys.result.now (opening_of account c.args.accounts.now) (touches f batch) c.in_ok-slots.slots.items (c.in_ok-slots.ensures (touches f batch) chose.1 keys))
