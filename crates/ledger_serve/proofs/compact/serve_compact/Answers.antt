use Rattle.ledger_serve.proofs.Texts.{unannounced, unfinished, served_all}
use Rattle.ledger_serve.proofs.compact.serve_compact.Goals as goal

pub returns-in-Err-clause-leaves : goal.returns-in-Err-clause-leaves
returns-in-Err-clause-leaves g c = unannounced c.args.count _ _ _ _ c.in-Err.fault c.in-Err.ensures.fails

pub returns-in-Ok-finish-clause-served : goal.returns-in-Ok-finish-clause-served
returns-in-Ok-finish-clause-served g c =
    served_all c.args.count _ _ _ _ _ _ _ c.start_all-started.result c.in-Ok-finish.ensures.all c.start_all-started.ensures.took c.in-Ok-finish.ensures.started c.in-Ok-finish.ensures.joined c.in-Ok.ensures.wrote c.in-Ok-finish.ensures.wrote

pub returns-clause-leaves : goal.returns-clause-leaves
returns-clause-leaves g c = unfinished c.args.count _ _ _ c.in-Ok.ensures.wrote c.start_all-started.result _ _ _ _ c.in-Err-finish.fault c.start_all-started.ensures.fails c.in-Err-finish.ensures.fails
