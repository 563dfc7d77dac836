use Rattle.ledger_generate.proofs.Making.{within_opens, key_found}
use Rattle.ledger_generate.proofs.job.key_of.Goals as goal

pub bounds-accounts-number : goal.bounds-accounts-number
bounds-accounts-number c = within_opens c.args.sizes c.args.accounts.now c.args.number c.requires.all c.requires.within

pub returns : goal.returns
returns c = key_found c.args.sizes c.args.accounts.now c.args.number _ c.requires.all c.requires.within
