use Rattle.std.proofs.Common.{rules, ◌≡◌, length, take, drop, Bool, true, false, not, bytes_eq}
use Rattle.ledger_managed.specs.Spelled.{padding}
use Rattle.ledger_managed.specs.SpelledProofs.{reads_as}
use Rattle.ledger_managed.proofs.value.SequencedAccountValue.from_value.Goals as goal

told : (b r : Bool) → r ≡ not b → r ≡ false → b ≡ true
told true r e h = cc
told false r e h = absurd cc

pub returns : goal.returns
returns c =
    let v = c.args.value.now in
    let same : bytes_eq (take 16 (drop 16 v)) padding ≡ true = told (bytes_eq (take 16 (drop 16 v)) padding) c.ne.result c.ne.ensures c.if-ne.false in
    let long : length v ≡ 32 = search rules in
    reads_as v c.copy_from_slice.new.self c.copy_from_slice-2.new.self c.from_be_bytes.result c.from_be_bytes-2.result long same c.copy_from_slice.ensures.after c.copy_from_slice-2.ensures.after c.from_be_bytes.ensures c.from_be_bytes-2.ensures
