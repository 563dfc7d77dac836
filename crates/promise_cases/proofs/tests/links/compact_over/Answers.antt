use Rattle.promise_cases.proofs.Fetches.{no_network}
use Rattle.promise_cases.proofs.tests.links.compact_over.Goals as goal

pub returns-clause-calm : goal.returns-clause-calm
returns-clause-calm c = no_network c.fetch_compact_target.result _ _ (c.fetch_compact_target.ensures.steady c.requires).1
