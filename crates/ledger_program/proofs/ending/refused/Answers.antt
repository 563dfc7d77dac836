use Rattle.ledger_program.proofs.Fronts.{early_line}
use Rattle.ledger_program.proofs.ending.refused.Goals as goal

pub returns-clause-line : goal.returns-clause-line
returns-clause-line g c = early_line _ _ _ _ _ c.args.fault c.requires c.write_line.ensures.whole
