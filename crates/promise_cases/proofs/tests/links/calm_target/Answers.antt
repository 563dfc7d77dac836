use Rattle.promise_cases.proofs.Fetches.{no_network}
use Rattle.promise_cases.proofs.tests.links.calm_target.Goals as goal

pub returns : goal.returns
returns c = no_network c.fetch_target.result _ _ (c.fetch_target.ensures.steady c.tape-link.ensures.failing).1
