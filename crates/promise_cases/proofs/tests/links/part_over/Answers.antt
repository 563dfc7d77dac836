use Rattle.promise_cases.proofs.Fetches.{no_network}
use Rattle.promise_cases.proofs.tests.links.part_over.Goals as goal

pub returns-clause-calm : goal.returns-clause-calm
returns-clause-calm c = no_network c.sync_full.result _ _ (c.sync_full.ensures.steady c.requires).1
