use Rattle.ledger_program.proofs.Names.{name_step}
use Rattle.ledger_program.proofs.key_text.name_text.Goals as goal

pub bytes-preserved : goal.bytes-preserved
bytes-preserved c = name_step _ _ c.args.name.now _ c.bytes.byte-index _ c.bytes-test.true c.requires c.from.ensures c.in_ok-push.ensures.bytes c.in_ok-push.ensures.ascii c.bytes.invariant
