use Rattle.ledger_serve.proofs.Causing.{usage_of, complete_of}
use Rattle.ledger_serve.proofs.serve.run_serve.Goals as goal

pub returns-clause-usage : goal.returns-clause-usage
returns-clause-usage g c = usage_of _ _ _ _ _ _ _ _ _ _ _ _ _ _ _ c.act.ensures.ends.fault _ c.act.ensures.ends.status_is c.act.ensures.ends.by

pub returns-clause-complete : goal.returns-clause-complete
returns-clause-complete g c = complete_of _ _ _ _ _ _ _ _ _ _ _ _ _ _ _ c.act.ensures.ends.fault _ c.act.ensures.ends.status_is c.act.ensures.ends.by
