use Rattle.std.proofs.Common.{◌++◌, length, ap}
use Rattle.std.proofs.lemmas.List.{drop-replicate}
use Rattle.ledger_job.specs.Keys.{filled}
use Rattle.ledger_job.proofs.key.filled.Goals as goal

pub returns : goal.returns
unfolding filled
returns c = rw (c.copy_from_slice.ensures.after) (ap (λ l. c.args.name.now ++ l) (drop-replicate (length c.args.name.now) 32 0))
