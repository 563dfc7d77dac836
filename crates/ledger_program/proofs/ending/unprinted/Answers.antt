use Rattle.ledger_program.proofs.Fronts.{unwritten, unwritten_line}
use Rattle.ledger_program.proofs.ending.unprinted.Goals as goal

pub returns-clause-wrote : goal.returns-clause-wrote
returns-clause-wrote g c = λ text. unwritten _ _ text c.write_line.ensures.front

pub returns-clause-line : goal.returns-clause-line
returns-clause-line g c = λ text. unwritten_line _ _ _ _ _ text c.write_line.ensures.whole
