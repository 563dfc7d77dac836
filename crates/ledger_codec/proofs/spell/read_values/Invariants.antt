use Rattle.std.proofs.Common.{◌≡◌, ◌-◌}
use Rattle.ledger_codec.specs.Sequences.{items_at}
use Rattle.ledger_codec.proofs.Repeating.{with_front}
use Rattle.ledger_codec.proofs.spell.read_values.Given as goal

abbrev pub invariant-loop : goal.invariant-loop
invariant-loop g l = with_front l.values.items (items_at g.T.Spell.reading (l.count - l.counter) l.from) ≡ items_at g.T.Spell.reading l.count l.fn.from
