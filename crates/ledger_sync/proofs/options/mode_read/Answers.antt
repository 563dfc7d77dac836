use Rattle.ledger_sync.proofs.Reading.{mode_is}
use Rattle.ledger_sync.proofs.options.mode_read.Goals as goal

pub returns : goal.returns
returns c = mode_is c.args.text.now c.parse.result c.parse.ensures
