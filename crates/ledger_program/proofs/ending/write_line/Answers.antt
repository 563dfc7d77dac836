use Rattle.ledger_program.proofs.Fronts.{front_of_line, line_went}
use Rattle.ledger_program.proofs.ending.write_line.Goals as goal

pub returns-clause-front : goal.returns-clause-front
returns-clause-front g c = front_of_line _ _ _ _ _ c.error_line-written.result c.error_line-written.ensures

pub returns-clause-whole : goal.returns-clause-whole
returns-clause-whole g c = line_went _ _ _ _ _ c.error_line-written.result c.error_line-written.ensures
