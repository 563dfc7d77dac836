use Rattle.std.proofs.Common.{◌≡◌, suc, ◌+◌, ◌-◌, ◌%◌, ◌<◌, ◌++◌, take, ap, ◌∙◌, arith}
use Rattle.std.proofs.Math.ListN.{length-set}
use Rattle.ledger_codec.specs.Numbers.{varint, varint_within}
use Rattle.ledger_log.proofs.Varints.{seven_fewer, varint_more, needs_two, fits_ten}
use Rattle.ledger_log.proofs.bytes.put_varint.Goals as goal

pub loop-rest-init : goal.loop-rest-init
unfolding varint
loop-rest-init c =
    let ten : c.args.at + 10 - c.args.at ≡ 10 = omega arith in
    record {
      long = c.told-out;
      from = omega arith;
      within = omega arith;
      small = rw ten (fits_ten c.args.value (omega arith));
      bytes = ap (λ k. take c.args.at c.args.out.now ++ varint_within k c.args.value) ten;
    }

pub loop-rest-preserved : goal.loop-rest-preserved
loop-rest-preserved c =
    let at = c.args.at in
    let end = c.loop-rest.end in
    let rest = c.loop-rest.rest in
    let inv = c.loop-rest.invariant in
    let two : 1 < at + 10 - end = needs_two (at + 10 - end) rest inv.small (omega arith) (omega arith) in
    let e : at + 10 - end ≡ suc (at + 10 - (end + 1)) = omega arith in
    record {
      long = length-set c.loop-rest.out end (rest % 128 + 128) ∙ inv.long;
      from = omega (arith, inv.from);
      within = omega arith;
      small = seven_fewer (at + 10 - end) (at + 10 - (end + 1)) rest e inv.small;
      bytes = varint_more c.loop-rest.out end (at + 10 - end) (at + 10 - (end + 1)) rest e (omega (arith, inv.long)) (omega arith) ∙ inv.bytes;
    }
