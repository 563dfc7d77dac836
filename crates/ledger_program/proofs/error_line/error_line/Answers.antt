use Rattle.ledger_program.proofs.error_line.error_line.Goals as goal

pub returns-in-JobTooLarge : goal.returns-in-JobTooLarge
returns-in-JobTooLarge g c = rw c.in-JobTooLarge.is c.write_all-in-JobTooLarge.ensures

pub returns-in-Dial : goal.returns-in-Dial
returns-in-Dial g c = rw c.in-Dial.is c.write_all-in-Dial.ensures
