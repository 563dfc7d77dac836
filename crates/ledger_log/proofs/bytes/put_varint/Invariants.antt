use Rattle.std.proofs.Common.{◌+◌, ◌-◌, ◌≡◌, ◌≤◌, ◌^◌, ◌++◌, length, take, ◌<◌}
use Rattle.ledger_codec.specs.Numbers.{varint, varint_within}
use Rattle.ledger_log.proofs.bytes.put_varint.Given as goal

abbrev pub invariant-loop-rest : goal.invariant-loop-rest
invariant-loop-rest l = record {
  long : length l.out ≡ 96;
  from : l.fn.at ≤ l.end;
  within : l.end ≤ l.fn.at + 9;
  small : l.rest < 128 ^ (l.fn.at + 10 - l.end);
  bytes : take l.end l.out ++ varint_within (l.fn.at + 10 - l.end) l.rest ≡ take l.fn.at l.fn.out ++ varint l.fn.value;
}

abbrev pub decreases-loop-rest : goal.decreases-loop-rest
decreases-loop-rest l = l.rest
