use Rattle.promise_cases.proofs.Fetches.{no_network_for_a_state}
use Rattle.promise_cases.proofs.tests.links.state_over.Goals as goal

pub returns-clause-calm : goal.returns-clause-calm
returns-clause-calm c = no_network_for_a_state c.fetch_compact.result _ _ (c.fetch_compact.ensures.steady c.requires).1
