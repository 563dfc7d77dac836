use Rattle.std.proofs.lemmas.Result.{err_from_is_err_and}
use Rattle.ledger_codec.specs.Sequences.{items_at}
use Rattle.ledger_codec.proofs.Repeating.{goes_on, ends, is_done}
use Rattle.ledger_codec.proofs.spell.read_values.Goals as goal

pub returns-in_err-read : goal.returns-in_err-read
returns-in_err-read g c =
    let p = err_from_is_err_and c.from_residual.result c.from_residual.ensures.1 in
    rw (p.1, p.2) (ends g.T.Spell.reading c.in_err-read.field-0.0 c.loop.values.items c.args.count c.loop.counter c.loop.from (items_at g.T.Spell.reading c.args.count c.args.from.now) c.loop-test.true c.in_err-read.ensures.1 c.loop.invariant)

pub loop-preserved : goal.loop-preserved
loop-preserved g c =
    rw c.in_ok-push.ensures.items (goes_on g.T.Spell.reading c.loop.values.items c.args.count c.loop.counter c.loop.from c.in_ok-read.field-0 c.read.new.from (items_at g.T.Spell.reading c.args.count c.args.from.now) c.loop-test.true c.in_ok-read.ensures c.loop.invariant)

pub returns : goal.returns
returns g c = is_done g.T.Spell.reading c.loop.values.items c.args.count c.loop.counter c.loop.from (items_at g.T.Spell.reading c.args.count c.args.from.now) c.loop-test.false c.loop.invariant
