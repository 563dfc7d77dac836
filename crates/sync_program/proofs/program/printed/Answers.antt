use Rattle.std.proofs.Common.{Some, None, refl}
use Rattle.sync_program.proofs.Endings.{late_ends}
use Rattle.sync_program.proofs.program.printed.Goals as goal

pub returns-in-Ok : goal.returns-in-Ok
returns-in-Ok g c = (None, refl, c.in-Ok.ensures.prints)

pub returns-in-Err : goal.returns-in-Err
returns-in-Err g c = (Some c.in-Err.refusal, c.outcome_of.ensures, late_ends _ _ _ _ _ _ _ c.args.synced.now c.in-Err.refusal c.in-Err.ensures.prints c.write_line.ensures.front c.write_line.ensures.later)
