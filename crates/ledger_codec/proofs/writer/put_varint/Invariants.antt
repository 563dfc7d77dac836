use Rattle.std.proofs.Common.{◌-◌, ◌≡◌, ◌≤◌, ◌<◌, ◌^◌, ◌++◌, length, take}
use Rattle.ledger_codec.specs.Numbers.{varint, varint_within}
use Rattle.ledger_codec.proofs.writer.put_varint.Given as goal

abbrev pub invariant-loop-rest : goal.invariant-loop-rest
invariant-loop-rest l = record {
  long : length l.out ≡ 10;
  within : l.end ≤ 9;
  small : l.rest < 128 ^ (10 - l.end);
  bytes : take l.end l.out ++ varint_within (10 - l.end) l.rest ≡ varint l.fn.value;
}

abbrev pub decreases-loop-rest : goal.decreases-loop-rest
decreases-loop-rest l = l.rest
