use Rattle.std.proofs.Common.{◌∙◌, ap}
use Rattle.ledger_settling.specs.Slots.{touched_first}
use Rattle.ledger_settling.proofs.rounds.taken_keys.Goals as goal

pub returns : goal.returns
returns g c = c.in_ok-set.ensures ∙ ap touched_first (c.deref.ensures.value ∙ c.drop_empty.ensures)
