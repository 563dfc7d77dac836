use Rattle.ledger_sync.proofs.Reading.{database_is}
use Rattle.ledger_sync.proofs.options.family_read.Goals as goal

pub returns : goal.returns
returns c = database_is c.args.text.now c.parse.result c.parse.ensures
