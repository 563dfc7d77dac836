use Rattle.ledger_program.proofs.Completeness.{completes}
use Rattle.ledger_program.proofs.program.run.Goals as goal

pub returns-clause-complete : goal.returns-clause-complete
returns-clause-complete g c = completes _ _ _ _ _ _ _ _ _ c.act.result.fault _ c.act.ensures.status c.act.ensures.caused
