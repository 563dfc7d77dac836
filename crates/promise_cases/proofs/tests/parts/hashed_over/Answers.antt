use Rattle.promise_cases.proofs.Fetches.{no_network}
use Rattle.promise_cases.proofs.tests.parts.hashed_over.Goals as goal

pub returns-clause-calm : goal.returns-clause-calm
returns-clause-calm c = no_network c.sync_hashed.result _ _ (c.sync_hashed.ensures.steady c.requires).1
