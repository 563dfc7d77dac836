use Rattle.ledger_program.proofs.Fronts.{wrote_late, late_line}
use Rattle.ledger_program.proofs.ending.printed.Goals as goal

pub returns-clause-wrote : goal.returns-clause-wrote
returns-clause-wrote g c = wrote_late _ _ _ c.args.text.now c.in-Err.fault _ _ c.in-Err.ensures.fails c.write_line.ensures.front

pub returns-clause-line : goal.returns-clause-line
returns-clause-line g c = late_line _ _ _ _ _ _ _ c.args.text.now c.in-Err.fault c.in-Err.ensures.fails c.in-Err.ensures.later c.write_line.ensures.whole
