use Rattle.std.proofs.Common.{arith}
use Rattle.ledger_codec.proofs.Alone.{is_alone}
use Rattle.ledger_codec.proofs.spell.decode.Goals as goal

pub returns-clause-alone : goal.returns-clause-alone
returns-clause-alone g c = is_alone g.T.Spell.reading c.new-from.result c.args.bytes.now c.in_ok-value.value c.read.new.from g.met.T.Spell.laws.local c.new-from.ensures c.in_ok-value.ensures (omega arith)
