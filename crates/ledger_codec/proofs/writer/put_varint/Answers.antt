use Rattle.std.proofs.Common.{◌≡◌, suc, ◌+◌, ◌-◌, ◌%◌, ◌<◌, ◌∙◌, refl, arith}
use Rattle.std.proofs.Math.ListN.{length-set}
use Rattle.ledger_codec.specs.Numbers.{varint}
use Rattle.ledger_codec.proofs.Varints.{seven_fewer, varint_more, needs_two, fits_ten}
use Rattle.ledger_codec.proofs.writer.put_varint.Goals as goal

pub loop-rest-init : goal.loop-rest-init
unfolding varint
loop-rest-init c =
    record {
      long = c.told-out;
      within = omega arith;
      small = fits_ten c.args.value (omega arith);
      bytes = refl;
    }

pub loop-rest-preserved : goal.loop-rest-preserved
loop-rest-preserved c =
    let end = c.loop-rest.end in
    let rest = c.loop-rest.rest in
    let inv = c.loop-rest.invariant in
    let two : 1 < 10 - end = needs_two (10 - end) rest inv.small (omega arith) (omega arith) in
    let e : 10 - end ≡ suc (10 - (end + 1)) = omega arith in
    record {
      long = length-set c.loop-rest.out end (rest % 128 + 128) ∙ inv.long;
      within = omega arith;
      small = seven_fewer (10 - end) (10 - (end + 1)) rest e inv.small;
      bytes = varint_more c.loop-rest.out end (10 - end) (10 - (end + 1)) rest e (omega (arith, inv.long)) (omega arith) ∙ inv.bytes;
    }
