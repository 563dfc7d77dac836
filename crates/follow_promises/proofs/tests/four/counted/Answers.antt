use Rattle.ledger_log.specs.Any.{any_floor, any_spelling}
use Rattle.ledger_program.proofs.Links.{foretold, serves_whole}
use Rattle.sync_net.specs.Core.{data_of}
use Rattle.follow_promises.specs.Four.{four, four_log}
use Rattle.follow_promises.proofs.Fours.{four_sound}
use Rattle.follow_promises.proofs.tests.four.counted.Goals as goal

pub returns-in-Ok-clause-rests : goal.returns-in-Ok-clause-rests
returns-in-Ok-clause-rests g c =
    let target = c.args.target.now in
    c.in-Ok.ensures.rests (data_of any_spelling any_floor four_log) target (serves_whole four target four_sound c.requires.most c.requires.spans) c.requires.serves (foretold four target)
