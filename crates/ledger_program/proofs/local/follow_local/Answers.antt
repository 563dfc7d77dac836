use Rattle.std.proofs.Common.{refl}
use Rattle.ledger_program.proofs.local.follow_local.Goals as goal

pub returns-in-Ok-clause-reports : goal.returns-in-Ok-clause-reports
returns-in-Ok-clause-reports g c = c.in-Ok.ensures.reports c.args.job refl refl

pub returns-clause-fails : goal.returns-clause-fails
returns-clause-fails g c = c.in-Err.ensures.fails c.args.job refl refl
