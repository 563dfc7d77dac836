use Rattle.serve_parts.proofs.Reading.{storage_is}
use Rattle.serve_parts.proofs.options.storage_read.Goals as goal

pub returns : goal.returns
returns c = storage_is c.args.text.now c.parse.result c.parse.ensures
