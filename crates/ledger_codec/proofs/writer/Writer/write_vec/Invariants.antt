use Rattle.std.proofs.Common.{◌≡◌, ◌++◌, length, take}
use Rattle.std.specs.List.{flat_map}
use Rattle.ledger_codec.specs.Numbers.{varint}
use Rattle.ledger_codec.proofs.writer.Writer.write_vec.Given as goal

abbrev pub invariant-loop-value : goal.invariant-loop-value
invariant-loop-value g l = l.self ≡ (l.fn.self ++ varint (length l.values)) ++ flat_map g.T.Spell.written (take l.value-index l.values)
