use Rattle.sync_program.proofs.lines.refusal_line.Goals as goal

pub returns-in-Dial : goal.returns-in-Dial
returns-in-Dial g c = rw c.in-Dial.is c.write_all-in-Dial.ensures
