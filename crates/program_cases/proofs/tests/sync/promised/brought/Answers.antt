use Rattle.std.proofs.Common.{refl}
use Rattle.ledger_log.specs.Any.{any_floor, any_spelling}
use Rattle.sync_net.specs.Core.{data_of}
use Rattle.sync_program.specs.Fresh.{fresh_any}
use Rattle.sync_program.proofs.Serves.{fresh_stands}
use Rattle.program_cases.proofs.tests.sync.promised.brought.Goals as goal

pub returns : goal.returns
returns c = c.in-Err.ensures.serving refl (data_of any_spelling any_floor fresh_any, fresh_stands, c.in-Some.ensures.serves)
