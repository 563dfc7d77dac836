use Rattle.std.proofs.Common.{sym, ap, ◌∙◌, false, option_map, unwrap_or}
use Rattle.simulate_parts.specs.Tracker.{finalized_rounds}
use Rattle.ledger_simulate.specs.Delays.{delay_round, reaches}
use Rattle.ledger_simulate.proofs.Delaying.{any_reached}
use Rattle.ledger_simulate.proofs.world.any_reaches.Goals as goal

pub returns : goal.returns
returns c =
    c.is_reached.ensures ∙ ap (λ d. unwrap_or (option_map (reaches d) c.max_round.result) false) c.delay_of.ensures
    ∙ sym (any_reached (delay_round c.args.crashes.now) (finalized_rounds c.args.tracker.now) c.max_round.result c.max_round.ensures)
