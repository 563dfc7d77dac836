use Rattle.std.proofs.Common.{◌≡◌, ◌∙◌, ◌++◌, map, ap, sym, subst}
use Rattle.ledger_log.specs.View.{LogView}
use Rattle.ledger_log.specs.declared.any.AnyOp.{AnyOp}
use Rattle.ledger_settling.specs.Reports.{IsReplay}
use Rattle.ledger_settling.specs.Slots.{AppendFails, SealFails, changes_on, op_of, raised_on, with_slots, writes_of}
use Rattle.ledger_settling.proofs.ApplyLemmas.{replay_raised, seal_appends, written_entries}
use Rattle.ledger_settling.proofs.applying.apply_slots.Goals as goal

pub returns-in-Err-clause-fails : goal.returns-in-Err-clause-fails
returns-in-Err-clause-fails g c =
    let values = g.A.AccountValue.values in
    let log = c.args.log.now in
    let keys = c.args.keys.now in
    let slots = c.args.slots.items in
    let made : raised_on log (changes_on log c.in_ok-writes.writes.items) ≡ raised_on log (writes_of values keys slots) =
    ap (λ ws. raised_on log (changes_on log ws)) c.in_ok-writes.ensures.writes ∙ ap (raised_on log) c.requires.changes in
    let fails : SealFails log (raised_on log (writes_of values keys slots)) c.in-Err.fault = subst (λ b. SealFails log b c.in-Err.fault) made c.in-Err.ensures.fails in
    subst (AppendFails log c.args.block (with_slots values log keys slots)) (sym c.seal_fault.ensures) (seal_appends log c.args.block (raised_on log (writes_of values keys slots)) c.in-Err.fault fails)

pub returns-clause-accounts : goal.returns-clause-accounts
returns-clause-accounts g c =
    let same = g.A.PartialEq.eq in
    let values = g.A.AccountValue.values in
    let log = c.args.log.now in
    let accounts = c.write_slots.new.accounts in
    let writes = c.in_ok-writes.writes.items in
    let ops : map op_of writes ≡ changes_on log writes =
    ap (map op_of) c.in_ok-writes.ensures.writes ∙ written_entries values c.args.keys.now c.args.slots.items ∙ sym c.requires.changes ∙ ap (changes_on log) (sym c.in_ok-writes.ensures.writes) in
    let changed : IsReplay same values accounts (log.ops ++ changes_on log writes) =
    subst (λ us. IsReplay same values accounts (log.ops ++ us)) ops (c.in_ok-writes.ensures.replay log.ops c.requires.replayed) in
    let raised : IsReplay same values accounts (log.ops ++ c.in-Ok.batch.own.ops) = replay_raised same values accounts log (changes_on log writes) c.in-Ok.batch.own.ops c.in-Ok.ensures.law changed in
    subst (IsReplay same values accounts) (sym (ap (λ (l : LogView AnyOp). l.ops) c.in_ok-apply_sealed.ensures)) raised
