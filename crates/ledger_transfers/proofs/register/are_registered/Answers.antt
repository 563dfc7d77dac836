use Rattle.std.proofs.Common.{◌≡◌, true, false, sym, subst, refl, ◌∙◌, true≢false, take}
use Rattle.std.specs.Prelude.{IsSome, is_some}
use Rattle.std.specs.Map.{lookup}
use Rattle.std.proofs.lemmas.List.{take_all}
use Rattle.std.proofs.lemmas.List.Elements.{All-more, All-get_or, All-same}
use Rattle.ledger_transfers.specs.declared.change.Change.{Change}
use Rattle.ledger_transfers.proofs.register.are_registered.Goals as goal

pub returns-then-not-contains_key : goal.returns-then-not-contains_key
returns-then-not-contains_key g c =
    let eq = g.K.PartialEq.eq in
    let P = λ (t : g.row.K.Denot × Change g.row.A-Effect.Denot). IsSome (lookup (eq t.0) c.args.table.now.entries) in
    let t = c.loop-key-item.result in (
      (λ h. absurd (true≢false (sym h))),
      λ all.
          let there : is_some (lookup (eq t.0) c.args.table.now.entries) ≡ true = subst P (sym c.loop-key-item.is) (All-get_or P c.args.all.now c.loop-key.key-index t c.loop-key-test.true all) in
          let gone : is_some (lookup (eq t.0) c.args.table.now.entries) ≡ false = cc in
          absurd (true≢false (sym there ∙ gone)),
    )

pub loop-key-preserved : goal.loop-key-preserved
loop-key-preserved g c =
    let eq = g.K.PartialEq.eq in
    let P = λ (t : g.row.K.Denot × Change g.row.A-Effect.Denot). IsSome (lookup (eq t.0) c.args.table.now.entries) in
    let t = c.loop-key-item.result in
    let there : is_some (lookup (eq t.0) c.args.table.now.entries) ≡ true = cc in
    All-more P c.args.all.now c.loop-key.key-index t c.loop-key-test.true c.loop-key.invariant (subst P c.loop-key-item.is there)

pub returns : goal.returns
returns g c =
    let eq = g.K.PartialEq.eq in
    let P = λ (t : g.row.K.Denot × Change g.row.A-Effect.Denot). IsSome (lookup (eq t.0) c.args.table.now.entries) in
    ((λ h. All-same P c.args.all.now (take c.loop-key.key-index c.args.all.now) (sym (take_all c.loop-key.key-index c.args.all.now c.loop-key-test.false)) c.loop-key.invariant), λ all. refl)
