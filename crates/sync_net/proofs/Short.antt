-- Requests are far shorter than a frame may be.
use Rattle.std.proofs.Common.{◌≡◌, ℕ, zero, suc, ◌+◌, ◌≤◌, ◌/◌, ◌%◌, Bool, true, false, cond, nat_lt, List, [], ◌∷◌, ◌++◌, length, refl, arith, length-append}
use Rattle.ledger_codec.specs.Numbers.{varint_within, varint}
use Rattle.ledger_log.specs.Spellings.{compact_target_written}
use Rattle.sync_net.specs.declared.ask.Ask.{Ask}
use Rattle.sync_net.specs.declared.ask.Ask.TheVariants as asks
use Rattle.sync_net.specs.Fields.{flag_written}
use Rattle.sync_net.specs.Messages.{number_written, message_written}
use Rattle.sync_net.specs.Asks.{request_of, IsSoundAsk}

either_short : (b : Bool) (n k : ℕ) (more : List ℕ) → length more ≤ k → length (cond b (n ∷ []) ((n % 128 + 128) ∷ more)) ≤ suc k
either_short true n k more h = omega arith
either_short false n k more h = omega arith

within_short : (k n : ℕ) → length (varint_within k n) ≤ k
within_short zero n = omega arith
within_short (suc k) n = either_short (nat_lt n 128) n k (varint_within k (n / 128)) (within_short k (n / 128))

varint_short : (n : ℕ) → length (varint n) ≤ 10
unfolding varint
varint_short n = within_short 10 n

flag_short : (set : Bool) → length (flag_written set) ≡ 1
flag_short set = refl

pub request_short : {Op : Type 0} (op : Op → List ℕ) (number : ℕ) (ask : Ask) → IsSoundAsk ask → length (message_written op (request_of number ask)) ≤ 10485760
request_short op number (asks.Operations op_count start_loc max_ops pinned) sound =
    let a : length (number_written number) ≡ 8 = refl in
    let b : length (number_written max_ops.value) ≡ 8 = refl in
    let one = length-append (number_written number) (varint op_count) in
    let two = length-append (number_written number ++ varint op_count) (varint start_loc) in
    let three = length-append ((number_written number ++ varint op_count) ++ varint start_loc) (number_written max_ops.value) in
    let four = length-append (((number_written number ++ varint op_count) ++ varint start_loc) ++ number_written max_ops.value) (flag_written pinned) in
    omega (arith, varint_short op_count, varint_short start_loc, flag_short pinned, one, two, three, four)
request_short op number asks.SyncTarget sound = omega arith
request_short op number asks.CompactTarget sound = omega arith
request_short op number (asks.CompactState target) sound =
    let a : length (number_written number) ≡ 8 = refl in
    let one = length-append target.root (varint target.leaf_count) in
    let two = length-append (number_written number) (compact_target_written target) in
    omega (arith, varint_short target.leaf_count, sound, one, two)
