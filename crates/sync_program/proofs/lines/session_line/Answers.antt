use Rattle.sync_program.proofs.lines.session_line.Goals as goal

pub returns-in-TooManyStrays : goal.returns-in-TooManyStrays
returns-in-TooManyStrays g c = rw c.in-TooManyStrays.is c.write_all-in-TooManyStrays.ensures
