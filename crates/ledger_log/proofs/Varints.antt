use Rattle.std.proofs.Common.{◌≡◌, ℕ, zero, suc, ◌+◌, ◌*◌, ◌/◌, ◌%◌, ◌^◌, ◌<◌, ◌≤◌, List, [], ◌∷◌, ◌++◌, length, take, refl, ap, ◌∙◌, arith, true, false, nat_lt, lit≤}
use Rattle.std.proofs.lemmas.Bool.Decides.{nat_tests}
use Rattle.std.proofs.lemmas.List.{append_assoc, take_more_set}
use Rattle.std.proofs.Math.Nat.{pow-suc}
use Rattle.std.proofs.Math.ListN.{set}
use Rattle.ledger_codec.specs.Numbers.{varint_within}

pub varint_step : (k j n : ℕ) → k ≡ suc j → 128 ≤ n → varint_within k n ≡ (n % 128 + 128) ∷ varint_within j (n / 128)
varint_step k j n e h = rw e (let t : nat_lt n 128 ≡ false = grind (arith, nat_tests) in rw t refl)

pub varint_last : (k n : ℕ) → 0 < k → n < 128 → varint_within k n ≡ n ∷ []
varint_last zero n p h = absurd (omega arith)
varint_last (suc k) n p h = let t : nat_lt n 128 ≡ true = grind (arith, nat_tests) in rw t refl

pub seven_fewer : (k j n : ℕ) → k ≡ suc j → n < 128 ^ k → n / 128 < 128 ^ j
seven_fewer k j n e h =
    let p : 128 ^ k ≡ 128 ^ j * 128 = ap (λ i. 128 ^ i) e ∙ pow-suc 128 j in
    omega arith

pub needs_two : (k n : ℕ) → n < 128 ^ k → 0 < k → 128 ≤ n → 1 < k
needs_two zero n h p m = absurd (omega arith)
needs_two (suc zero) n h p m = absurd (let x : 128 ^ 1 ≡ 128 = refl in omega arith)
needs_two (suc (suc k)) n h p m = omega arith

pub fits_ten : (n : ℕ) → n < 2 ^ 64 → n < 128 ^ 10
fits_ten n h = let x : 2 ^ 64 ≤ 128 ^ 10 = lit≤ tt in omega arith

-- one byte more is written, and the number's seven lowest bits are done
pub varint_more : (out : List ℕ) (end k j n : ℕ) → k ≡ suc j → end < length out → 128 ≤ n →
    take (end + 1) (set out end (n % 128 + 128)) ++ varint_within j (n / 128) ≡ take end out ++ varint_within k n
varint_more out end k j n e l h = rw (take_more_set out end (n % 128 + 128) l, append_assoc, varint_step k j n e h) refl
