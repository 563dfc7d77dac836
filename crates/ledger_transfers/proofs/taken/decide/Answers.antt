use Rattle.std.proofs.Common.{◌≡◌, ◌∷◌, [], true, false, sym, subst, ◌∙◌, MatchBool}
use Rattle.ledger_transfers.specs.Touches.{touches}
use Rattle.ledger_transfers.specs.Selecting.{StandsFor}
use Rattle.ledger_transfers.specs.Trying.{IsTaken, IsRefused}
use Rattle.ledger_transfers.proofs.taken.decide.Goals as goal

pub returns-then-taken-clause-decided : goal.returns-then-taken-clause-decided
returns-then-taken-clause-decided g c =
    let eq = g.K.PartialEq.eq in
    let same = g.A.PartialEq.eq in
    let rules = g.A.Account.rules in
    let old = c.args.table.now.entries in
    let new = c.try_all.new.table.entries in
    let cs = touches g.T.Transfer.changes_of (c.args.candidate.now ∷ []) in
    let us = c.as_slice.result.now in
    let all : us ≡ cs = c.as_slice.ensures.value ∙ c.in_ok-touches_into.ensures in
    let yes : c.in-Ok.taken ≡ true = cc in
    let taken : IsTaken eq same rules old new us = subst (λ b. MatchBool b (IsTaken eq same rules old new us) (IsRefused eq same rules old us)) yes c.in-Ok.ensures.taken in
    subst (IsTaken eq same rules old new) all taken

pub returns-clause-decided : goal.returns-clause-decided
returns-clause-decided g c ts stands =
    let eq = g.K.PartialEq.eq in
    let same = g.A.PartialEq.eq in
    let rules = g.A.Account.rules in
    let old = c.args.table.now.entries in
    let new = c.try_all.new.table.entries in
    let cs = touches g.T.Transfer.changes_of (c.args.candidate.now ∷ []) in
    let us = c.as_slice.result.now in
    let all : us ≡ cs = c.as_slice.ensures.value ∙ c.in_ok-touches_into.ensures in
    let dropped : c.in-Ok.taken ≡ false = cc in
    let refused : IsRefused eq same rules old us = subst (λ b. MatchBool b (IsTaken eq same rules old new us) (IsRefused eq same rules old us)) dropped c.in-Ok.ensures.taken in
    let back : c.undo_all-2.new.table.entries ≡ old = c.undo_all-2.ensures ∙ c.in-Ok.ensures.undo in (
      subst (IsRefused eq same rules old) all refused ts (record { amounts = stands.amounts; each = stands.each }),
      subst (λ es. StandsFor eq same rules es ts) (sym back) stands,
    )
