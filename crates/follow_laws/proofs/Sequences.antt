-- What a sequenced account's rules make of sound accounts is sound.
use Rattle.std.proofs.Common.{◌≡◌, ℕ, zero, suc, ◌+◌, ◌-◌, ◌*◌, ◌/◌, ◌%◌, ◌^◌, ◌<◌, ◌≤◌, Bool, true, false, cond, List, [], ◌∷◌, length, length-drop, take, drop, get_or, Option, Some, None, refl, sym, ap, subst, ◌∙◌, arith, lit<, bytes_eq, ◌&&◌, ◌==◌, nat_lt}
use Rattle.std.specs.Int.{w64, from_be_bytes, to_be_bytes}
use Rattle.std.proofs.lemmas.Nat.{be_bytes_8}
use Rattle.std.proofs.lemmas.Bool.{and_parts, ltb-true, eqb-true}
use Rattle.std.proofs.lemmas.List.{get_or-drop, length-take-le}
use Rattle.ledger_log.specs.Spelling.{Is32Bytes}
use Rattle.ledger_managed.specs.Spelled.{sequenced_values, read_sequenced, IsSoundSequenced, padding}
use Rattle.ledger_transfers.specs.Accounts.{sequenced_rules, after_nonce}
use Rattle.ledger_transfers.specs.Touches.{max_amount}
use Rattle.ledger_transfers.specs.declared.sequenced.Sequenced.{Sequenced}
use Rattle.follow_laws.specs.Chained.{KeepSound}

within : (n : ℕ) → n ≤ max_amount → n < 2 ^ 64
within n h = omega (arith, h)

nonce_after : (a b : Sequenced) (nonce : ℕ) (t : Bool) → ((a.nonce == nonce) && nat_lt nonce (2 ^ 64 - 1)) ≡ t → IsSoundSequenced a → (let o : Option Sequenced = cond t (Some (record a { nonce = a.nonce + 1 })) None in o) ≡ Some b → IsSoundSequenced b
nonce_after a b nonce false e s h = absurd (cc h)
nonce_after a b nonce true e s h =
    let p = and_parts (a.nonce == nonce) (nat_lt nonce (2 ^ 64 - 1)) e in
    let same : a.nonce ≡ nonce = eqb-true a.nonce nonce p.0 in
    let lt : nonce < 2 ^ 64 - 1 = ltb-true nonce (2 ^ 64 - 1) p.1 in
    let next : Sequenced = record a { nonce = a.nonce + 1 } in
    let is : next ≡ b = cc h in
    subst IsSoundSequenced is (s.0, omega arith)

-- ---- numbers of eight bytes

weighed : (a b c d e f g h : ℕ) → a < 256 → b < 256 → c < 256 → d < 256 → e < 256 → f < 256 → g < 256 → h < 256
    → h * 72057594037927936 + g * 281474976710656 + f * 1099511627776 + e * 4294967296 + d * 16777216 + c * 65536 + b * 256 + a < 2 ^ 64
weighed a b c d e f g h p q r s t u v w = omega (arith, p, q, r, s, t, u, v, w)

last_byte : (n : ℕ) → n % 256 < 256
last_byte n = omega arith

number_of : (n : ℕ) → from_be_bytes w64 (to_be_bytes w64 n) < 2 ^ 64
number_of n =
    weighed (n % 256) (n / 256 % 256) (n / 65536 % 256) (n / 16777216 % 256) (n / 4294967296 % 256) (n / 1099511627776 % 256) (n / 281474976710656 % 256) (n / 72057594037927936 % 256)
    (last_byte n) (last_byte (n / 256)) (last_byte (n / 65536)) (last_byte (n / 16777216)) (last_byte (n / 4294967296)) (last_byte (n / 1099511627776)) (last_byte (n / 281474976710656)) (last_byte (n / 72057594037927936))

take_within : (n : ℕ) (v : List ℕ) (i : ℕ) → ((j : ℕ) → get_or v j 0 < 256) → get_or (take n v) i 0 < 256
take_within zero v i h = lit< tt
take_within (suc n) [] i h = lit< tt
take_within (suc n) (x ∷ xs) zero h = h 0
take_within (suc n) (x ∷ xs) (suc i) h = take_within n xs i (λ j. h (suc j))

eight_bytes : (x : List ℕ) → length x ≡ 8 → ((i : ℕ) → get_or x i 0 < 256) → from_be_bytes w64 x < 2 ^ 64
eight_bytes x l h = subst (λ (y : List ℕ). from_be_bytes w64 y < 2 ^ 64) (be_bytes_8 x (from_be_bytes w64 x) l h refl) (number_of (from_be_bytes w64 x))

abbrev account_in : List ℕ → Sequenced
account_in v = record { balance = from_be_bytes w64 (take 8 v); nonce = from_be_bytes w64 (take 8 (drop 8 v)) }

account_sound : (v : List ℕ) → Is32Bytes v → IsSoundSequenced (account_in v)
account_sound v s = (
  eight_bytes (take 8 v) (length-take-le 8 v (let l = s.0 in omega arith)) (λ i. take_within 8 v i s.1),
  eight_bytes (take 8 (drop 8 v)) (length-take-le 8 (drop 8 v) (let l = s.0 in let k = length-drop 8 v in omega arith)) (λ i. take_within 8 (drop 8 v) i (λ j. subst (λ (n : ℕ). n < 256) (sym (get_or-drop 8 v j 0)) (s.1 (8 + j)))),
)

read_sound : (v : List ℕ) (a : Sequenced) → Is32Bytes v → read_sequenced v ≡ Some a → IsSoundSequenced a
unfolding read_sequenced
read_sound v a s h = by (bytes_eq (drop 16 v) padding) h
  where
    by : (b : Bool) → cond b (Some (account_in v)) None ≡ Some a → IsSoundSequenced a
    by false e = absurd (cc e)
    by true e = let is : account_in v ≡ a = cc e in subst IsSoundSequenced is (account_sound v s)

applied_sound : (a b : Sequenced) (nonce : ℕ) → IsSoundSequenced a → after_nonce a nonce ≡ Some b → IsSoundSequenced b
applied_sound a b nonce s h = nonce_after a b nonce ((a.nonce == nonce) && nat_lt nonce (2 ^ 64 - 1)) refl s h

-- the rules of a sequenced account keep accounts sound
pub sequenced_keep : KeepSound IsSoundSequenced sequenced_rules sequenced_values
sequenced_keep = record {
  initial = (lit< tt, lit< tt);
  applied = applied_sound;
  balanced = λ a n s h. (within n h, s.1);
  read = read_sound;
}
