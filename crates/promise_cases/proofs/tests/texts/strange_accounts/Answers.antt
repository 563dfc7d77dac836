use Rattle.std.proofs.Common.{refl}
use Rattle.promise_cases.proofs.Texts.{strange_opens}
use Rattle.promise_cases.proofs.tests.texts.strange_accounts.Goals as goal

pub returns : goal.returns
returns c = strange_opens (λ v. v.items) _ c.parse_accounts.result refl c.parse_accounts.ensures.accounts c.parse_accounts.ensures.bad
