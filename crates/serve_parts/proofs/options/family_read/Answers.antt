use Rattle.serve_parts.proofs.Reading.{database_is}
use Rattle.serve_parts.proofs.options.family_read.Goals as goal

pub returns : goal.returns
returns c = database_is c.args.text.now c.parse.result c.parse.ensures
