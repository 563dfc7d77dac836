use Rattle.ledger_program.proofs.error_line.follow_line.Goals as goal

pub returns-in-TooManyStrays : goal.returns-in-TooManyStrays
returns-in-TooManyStrays g c = rw c.in-TooManyStrays.is c.write_all-in-TooManyStrays.ensures
