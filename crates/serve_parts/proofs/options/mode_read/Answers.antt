use Rattle.serve_parts.proofs.Reading.{mode_is}
use Rattle.serve_parts.proofs.options.mode_read.Goals as goal

pub returns : goal.returns
returns c = mode_is c.args.text.now c.parse.result c.parse.ensures
