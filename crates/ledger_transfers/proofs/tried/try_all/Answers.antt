use Rattle.std.proofs.Common.{◌≡◌, ℕ, true, subst, List, MatchBool}
use Rattle.std.specs.List.{All}
use Rattle.ledger_transfers.specs.declared.revise.Revision.{Revision}
use Rattle.ledger_transfers.specs.Trying.{AreAdded, IsRefused, SettlesAt, HasFailing}
use Rattle.ledger_transfers.proofs.WholeLemmas.{tried_whole}
use Rattle.ledger_transfers.proofs.tried.try_all.Goals as goal

pub returns-clause-taken : goal.returns-clause-taken
returns-clause-taken g c =
    let eq = g.K.PartialEq.eq in
    let same = g.A.PartialEq.eq in
    let rules = g.A.Account.rules in
    let old = c.args.table.now.entries in
    let new = c.add_all.new.table.entries in
    let cs = c.args.all.now in
    let log = c.add_all.new.log.items in
    let yes : c.in_ok-add_all.field-0 ≡ true = cc in
    let added : AreAdded eq same rules old new cs log = subst (λ b. MatchBool b (AreAdded eq same rules old new cs log) (IsRefused eq same rules old cs)) yes c.in_ok-add_all.ensures.added in
    let settle = subst (λ (us : List (ℕ × Revision g.row.A.Denot)). MatchBool c.all_settle.result (All (λ (b : ℕ × Revision g.row.A.Denot). SettlesAt same rules new b.0) us) (HasFailing same rules new us)) c.as_slice.ensures.value c.all_settle.ensures in
    tried_whole eq g.met.K.Eq.laws same rules old new cs log c.add_all.ensures.same_reads added c.all_settle.result settle c.requires.registered
