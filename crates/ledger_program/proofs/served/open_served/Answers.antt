use Rattle.ledger_program.proofs.Locals.{served_fails}
use Rattle.ledger_program.proofs.served.open_served.Goals as goal

pub wanting-requires : goal.wanting-requires
wanting-requires c = served_fails c.from_parts.result c.in-Err.fault c.args.ops.items c.new.result.items c.requires c.new.ensures.items c.in-Err.is c.from_parts.ensures.refusal
