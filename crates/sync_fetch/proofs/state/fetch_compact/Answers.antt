use Rattle.sync_fetch.proofs.States.{nothing_refuses, this_refuses}
use Rattle.sync_fetch.proofs.state.fetch_compact.Goals as goal

pub returns-in-Ok-from_state-clause-fetched : goal.returns-in-Ok-from_state-clause-fetched
returns-in-Ok-from_state-clause-fetched g c =
    (c.in-Ok.state, c.in-Ok.ensures.fetched, nothing_refuses _ c.from_state.result c.in-Ok-from_state.log c.from_state.ensures.refusal c.in-Ok-from_state.is, c.in-Ok-from_state.ensures.ok)

pub returns-in-Err-from_state-clause-fetched : goal.returns-in-Err-from_state-clause-fetched
returns-in-Err-from_state-clause-fetched g c =
    (c.in-Ok.state, c.in-Ok.ensures.fetched, this_refuses _ c.from_state.result c.in-Err-from_state.fault c.from_state.ensures.refusal c.in-Err-from_state.is)
