use Rattle.std.proofs.Common.{◌≡◌, ◌++◌, ◌+◌, ◌∙◌, Err, ap, sym, subst, true, false}
use Rattle.serve_parts.specs.Accounts.{is_account_line, account_in, listed, accounts_of}
use Rattle.serve_parts.proofs.Strays.{Here, here_stray, here_last}
use Rattle.serve_parts.proofs.accounts.parse_accounts.Goals as goal

pub returns-then-not-is_account_line-clause-bad : goal.returns-then-not-is_account_line-clause-bad
returns-then-not-is_account_line-clause-bad c = λ n h.
    let here = subst (λ left. Here c.args.text.now left c.each.number c.each.accounts.items) c.in-Some.is c.each.invariant in
    let stray = here_stray c.args.text.now c.in-Some.rest c.cut.result.1 _ c.each.number c.each.accounts.items here c.cut.ensures.parts (ap is_account_line (sym c.parse_line-line.ensures) ∙ sym c.if-not-is_account_line.ensures) in
    subst (λ k. accounts_of c.args.text.now ≡ Err k) (cc) stray

pub returns-clause-accounts : goal.returns-clause-accounts
returns-clause-accounts c = here_last c.args.text.now c.each.number c.each.accounts.items (subst (λ left. Here c.args.text.now left c.each.number c.each.accounts.items) c.in_default.is c.each.invariant)
