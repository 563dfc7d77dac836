use Rattle.std.proofs.Common.{refl}
use Rattle.ledger_sync.proofs.Counts.{no_network}
use Rattle.sync_databases.proofs.tests.calm.Goals as goal

pub returns : goal.returns
returns g c = no_network c.sync_db.result _ _ (c.sync_db.ensures.steady c.requires).1
