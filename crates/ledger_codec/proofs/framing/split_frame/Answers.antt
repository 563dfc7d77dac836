use Rattle.std.proofs.Common.{ℕ, List, drop, ap, sym, ◌∙◌, arith, length}
use Rattle.ledger_codec.proofs.Tails.{reading_tail, tail_more}
use Rattle.ledger_codec.specs.Numbers.{varint32_at}
use Rattle.ledger_codec.specs.Laws.{varint32_local}
use Rattle.ledger_codec.proofs.framing.split_frame.Goals as goal

pub returns-else-rest-size-clause-tail : goal.returns-else-rest-size-clause-tail
returns-else-rest-size-clause-tail c =
    let read = ap varint32_at (sym c.new-from.ensures) ∙ c.in-Ok.ensures.exact in
    let t = reading_tail varint32_at c.args.bytes.now c.in-Ok.size c.read_varint32.new.self varint32_local read in
    let left = c.left-rest.ensures in
    tail_more c.args.bytes.now c.read_varint32.new.self _ c.in-Ok.size t (omega (arith, ap length left, c.if-rest-size.false)) (c.split_at.ensures.back ∙ ap (λ (x : List ℕ). drop c.in-Ok.size x) left)
