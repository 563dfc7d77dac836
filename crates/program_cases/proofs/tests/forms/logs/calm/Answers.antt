use Rattle.std.proofs.Common.{refl}
use Rattle.ledger_sync.proofs.Counts.{no_network}
use Rattle.program_cases.proofs.tests.forms.logs.calm.Goals as goal

pub returns : goal.returns
returns c = no_network c.fetch_log.result _ _ (c.fetch_log.ensures.steady refl).1
