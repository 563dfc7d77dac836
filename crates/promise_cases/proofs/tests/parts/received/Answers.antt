use Rattle.promise_cases.proofs.Fetches.{no_network}
use Rattle.promise_cases.proofs.tests.parts.received.Goals as goal

pub returns-clause-calm : goal.returns-clause-calm
returns-clause-calm c = no_network c.receive.result _ _ (c.receive.ensures.steady c.requires).1
