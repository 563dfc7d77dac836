-- That the values of accounts that are made of numbers keep the laws.
use Rattle.std.proofs.Common.{◌≡◌, ℕ, ◌+◌, ◌*◌, ◌/◌, ◌%◌, ◌^◌, ◌<◌, ◌++◌, zero, suc, [], ◌∷◌, ◌≤◌, lit<, length-append, Bool, true, false, cond, List, length, get_or, take, drop, Option, Some, None, refl, ap, sym, ◌∙◌, subst, arith, append_assoc, length-drop, ◌&&◌, nat_eq}
use Rattle.std.specs.List.{AllByRecursion}
use Rattle.std.specs.Int.{w64, to_be_bytes, from_be_bytes}
use Rattle.std.proofs.lemmas.Nat.{from_be_bytes-to_be_bytes_8, be_bytes_8}
use Rattle.std.proofs.lemmas.List.{take_at, drop_at, get_or-drop, length-take-le, take-append-drop, drop-drop, take_all}
use Rattle.std.proofs.lemmas.Bool.{eqb-true}
use Rattle.ledger_transfers.specs.Rules.{Rules, SameOutcome}
use Rattle.ledger_transfers.specs.Touches.{max_amount}
use Rattle.ledger_managed.specs.Values.{ValueLaws}
use Rattle.ledger_log.specs.Spelling.{Is32Bytes}
use Rattle.ledger_numbers.specs.Spelled.{value_of, numbers_of, AreWords, has_two, numbers_values}
use Rattle.ledger_numbers.specs.declared.numbers.Numbers.{Numbers}

-- ---- what was written is read

module _ (w x y z : List ℕ) (p : length w ≡ 8) (q : length x ≡ 8) (r : length y ≡ 8) (s : length z ≡ 8) where
  apart : ((w ++ x) ++ y) ++ z ≡ w ++ (x ++ (y ++ z))
  apart = append_assoc (w ++ x) y z ∙ append_assoc w x (y ++ z)

  first_part : take 8 (((w ++ x) ++ y) ++ z) ≡ w
  first_part = ap (take 8) apart ∙ take_at w (x ++ (y ++ z)) 8 p

  second_part : take 8 (drop 8 (((w ++ x) ++ y) ++ z)) ≡ x
  second_part = ap (λ l. take 8 (drop 8 l)) apart ∙ ap (take 8) (drop_at w (x ++ (y ++ z)) 8 p) ∙ take_at x (y ++ z) 8 q

  third_part : take 8 (drop 16 (((w ++ x) ++ y) ++ z)) ≡ y
  third_part =
      let before : length (w ++ x) ≡ 16 = length-append w x ∙ omega arith in
      ap (λ l. take 8 (drop 16 l)) (append_assoc (w ++ x) y z) ∙ ap (take 8) (drop_at (w ++ x) (y ++ z) 16 before) ∙ take_at y z 8 r

  fourth_part : take 8 (drop 24 (((w ++ x) ++ y) ++ z)) ≡ z
  fourth_part =
      let before : length ((w ++ x) ++ y) ≡ 24 = length-append (w ++ x) y ∙ ap (λ n. n + length y) (length-append w x) ∙ omega arith in
      ap (take 8) (drop_at ((w ++ x) ++ y) z 24 before) ∙ take_all 8 z (omega (arith, s))

-- the numbers of a value are those that it was written from
pub read_again : (n : Numbers) → AreWords n → numbers_of (value_of n) ≡ n
unfolding value_of numbers_of
read_again n h =
    by (to_be_bytes w64 n.first) (to_be_bytes w64 n.second) (to_be_bytes w64 n.third) (to_be_bytes w64 n.fourth) refl refl refl refl
    (from_be_bytes-to_be_bytes_8 n.first h.first) (from_be_bytes-to_be_bytes_8 n.second h.second) (from_be_bytes-to_be_bytes_8 n.third h.third) (from_be_bytes-to_be_bytes_8 n.fourth h.fourth)
  where
    read : List ℕ → Numbers
    read v = record {
      first = from_be_bytes w64 (take 8 v);
      second = from_be_bytes w64 (take 8 (drop 8 v));
      third = from_be_bytes w64 (take 8 (drop 16 v));
      fourth = from_be_bytes w64 (take 8 (drop 24 v));
    }

    by : (w x y z : List ℕ) → length w ≡ 8 → length x ≡ 8 → length y ≡ 8 → length z ≡ 8
        → from_be_bytes w64 w ≡ n.first → from_be_bytes w64 x ≡ n.second → from_be_bytes w64 y ≡ n.third → from_be_bytes w64 z ≡ n.fourth → read (((w ++ x) ++ y) ++ z) ≡ n
    by w x y z p q r s e f g k = λ i. record {
      first = (ap (from_be_bytes w64) (first_part w x y z p q r s) ∙ e) i;
      second = (ap (from_be_bytes w64) (second_part w x y z p q r s) ∙ f) i;
      third = (ap (from_be_bytes w64) (third_part w x y z p q r s) ∙ g) i;
      fourth = (ap (from_be_bytes w64) (fourth_part w x y z p q r s) ∙ k) i;
    }

-- ---- what is read was written

take_within : (n : ℕ) (v : List ℕ) (i : ℕ) → ((j : ℕ) → get_or v j 0 < 256) → get_or (take n v) i 0 < 256
take_within zero v i h = lit< tt
take_within (suc n) [] i h = lit< tt
take_within (suc n) (x ∷ xs) zero h = h 0
take_within (suc n) (x ∷ xs) (suc i) h = take_within n xs i (λ j. h (suc j))

-- eight bytes from a place on
module _ (v : List ℕ) (s : Is32Bytes v) (at : ℕ) (h : at + 8 ≤ 32) where
  eight : length (take 8 (drop at v)) ≡ 8
  eight = length-take-le 8 (drop at v) (omega (arith, length-drop at v, s.0, h))

  bytes_there : (i : ℕ) → get_or (take 8 (drop at v)) i 0 < 256
  bytes_there i = take_within 8 (drop at v) i (λ j. subst (λ n. n < 256) (sym (get_or-drop at v j 0)) (s.1 (at + j)))

  written_there : to_be_bytes w64 (from_be_bytes w64 (take 8 (drop at v))) ≡ take 8 (drop at v)
  written_there = be_bytes_8 (take 8 (drop at v)) (from_be_bytes w64 (take 8 (drop at v))) eight bytes_there refl

-- eight bytes and the rest
rest_of : (v rest : List ℕ) (at next : ℕ) → at + 8 ≡ next → rest ≡ drop next v → take 8 (drop at v) ++ rest ≡ drop at v
rest_of v rest at next n e = ap (λ r. take 8 (drop at v) ++ r) (e ∙ ap (λ m. drop m v) (sym n) ∙ sym (drop-drop 8 at v)) ∙ take-append-drop 8 (drop at v)

whole : (v : List ℕ) → length v ≡ 32 → ((take 8 v ++ take 8 (drop 8 v)) ++ take 8 (drop 16 v)) ++ take 8 (drop 24 v) ≡ v
whole v h =
    let last : take 8 (drop 24 v) ≡ drop 24 v = take_all 8 (drop 24 v) (omega (arith, length-drop 24 v, h)) in
    let third : take 8 (drop 16 v) ++ take 8 (drop 24 v) ≡ drop 16 v = rest_of v (take 8 (drop 24 v)) 16 24 refl last in
    let second : take 8 (drop 8 v) ++ (take 8 (drop 16 v) ++ take 8 (drop 24 v)) ≡ drop 8 v = rest_of v (take 8 (drop 16 v) ++ take 8 (drop 24 v)) 8 16 refl third in
    append_assoc (take 8 v ++ take 8 (drop 8 v)) (take 8 (drop 16 v)) (take 8 (drop 24 v)) ∙ append_assoc (take 8 v) (take 8 (drop 8 v)) (take 8 (drop 16 v) ++ take 8 (drop 24 v))
    ∙ ap (λ r. take 8 v ++ r) second ∙ take-append-drop 8 v

-- 32 bytes are the value of their numbers
pub written_again : (v : List ℕ) → Is32Bytes v → value_of (numbers_of v) ≡ v
unfolding value_of numbers_of
written_again v s =
    let a : to_be_bytes w64 (from_be_bytes w64 (take 8 v)) ≡ take 8 v = written_there v s 0 (omega arith) in
    let b : to_be_bytes w64 (from_be_bytes w64 (take 8 (drop 8 v))) ≡ take 8 (drop 8 v) = written_there v s 8 (omega arith) in
    let c : to_be_bytes w64 (from_be_bytes w64 (take 8 (drop 16 v))) ≡ take 8 (drop 16 v) = written_there v s 16 (omega arith) in
    let d : to_be_bytes w64 (from_be_bytes w64 (take 8 (drop 24 v))) ≡ take 8 (drop 24 v) = written_there v s 24 (omega arith) in
    joined (to_be_bytes w64 (from_be_bytes w64 (take 8 v))) (to_be_bytes w64 (from_be_bytes w64 (take 8 (drop 8 v)))) (to_be_bytes w64 (from_be_bytes w64 (take 8 (drop 16 v)))) (to_be_bytes w64 (from_be_bytes w64 (take 8 (drop 24 v)))) a b c d
    ∙ whole v s.0
  where
    joined : (w x y z : List ℕ) {w2 x2 y2 z2 : List ℕ} → w ≡ w2 → x ≡ x2 → y ≡ y2 → z ≡ z2 → ((w ++ x) ++ y) ++ z ≡ ((w2 ++ x2) ++ y2) ++ z2
    joined w x y z a b c d = λ i. ((a i ++ b i) ++ c i) ++ d i

-- numbers that 32 bytes spell, part by part, are written as these bytes
pub written_as : (v w x y z : List ℕ) (a b c d : ℕ) → Is32Bytes v → w ≡ take 8 v → x ≡ take 8 (drop 8 v) → y ≡ take 8 (drop 16 v) → z ≡ take 8 (drop 24 v)
    → a ≡ from_be_bytes w64 w → b ≡ from_be_bytes w64 x → c ≡ from_be_bytes w64 y → d ≡ from_be_bytes w64 z → value_of (record { first = a; second = b; third = c; fourth = d }) ≡ v
unfolding numbers_of
written_as v w x y z a b c d s p q r t e f g h =
    let is : record { first = a; second = b; third = c; fourth = d } ≡ numbers_of v = λ i. record {
      first = (e ∙ ap (from_be_bytes w64) p) i;
      second = (f ∙ ap (from_be_bytes w64) q) i;
      third = (g ∙ ap (from_be_bytes w64) r) i;
      fourth = (h ∙ ap (from_be_bytes w64) t) i;
    } in
    ap value_of is ∙ written_again v s

-- ---- bounds

weighed : (a b c d e f g h : ℕ) → a < 256 → b < 256 → c < 256 → d < 256 → e < 256 → f < 256 → g < 256 → h < 256
    → h * 72057594037927936 + g * 281474976710656 + f * 1099511627776 + e * 4294967296 + d * 16777216 + c * 65536 + b * 256 + a < 2 ^ 64
weighed a b c d e f g h p q r s t u v w = omega (arith, p, q, r, s, t, u, v, w)

last_byte : (n : ℕ) → n % 256 < 256
last_byte n = omega arith

-- what eight bytes of any number spell has 64 bits
bytes_bound : (n : ℕ) → from_be_bytes w64 (to_be_bytes w64 n) < 2 ^ 64
bytes_bound n =
    weighed (n % 256) (n / 256 % 256) (n / 65536 % 256) (n / 16777216 % 256) (n / 4294967296 % 256) (n / 1099511627776 % 256) (n / 281474976710656 % 256) (n / 72057594037927936 % 256)
    (last_byte n) (last_byte (n / 256)) (last_byte (n / 65536)) (last_byte (n / 16777216)) (last_byte (n / 4294967296)) (last_byte (n / 1099511627776)) (last_byte (n / 281474976710656)) (last_byte (n / 72057594037927936))

bound_there : (v : List ℕ) → Is32Bytes v → (at : ℕ) → at + 8 ≤ 32 → from_be_bytes w64 (take 8 (drop at v)) < 2 ^ 64
bound_there v s at h = subst (λ x. from_be_bytes w64 x < 2 ^ 64) (written_there v s at h) (bytes_bound (from_be_bytes w64 (take 8 (drop at v))))

-- the numbers of 32 bytes have 64 bits
pub words_of : (v : List ℕ) → Is32Bytes v → AreWords (numbers_of v)
unfolding numbers_of
words_of v s = record {
  first = bound_there v s 0 (omega arith);
  second = bound_there v s 8 (omega arith);
  third = bound_there v s 16 (omega arith);
  fourth = bound_there v s 24 (omega arith);
}

-- each item is below 256
abbrev AreBytes : List ℕ → Type 0
AreBytes xs = AllByRecursion (λ b. b < 256) xs

append_bytes : (xs ys : List ℕ) → AreBytes xs → AreBytes ys → AreBytes (xs ++ ys)
append_bytes [] ys h k = k
append_bytes (x ∷ xs) ys h k = (h.0, append_bytes xs ys h.1 k)

each_byte : (xs : List ℕ) → AreBytes xs → (i : ℕ) → get_or xs i 0 < 256
each_byte [] h i = lit< tt
each_byte (x ∷ xs) h zero = h.0
each_byte (x ∷ xs) h (suc i) = each_byte xs h.1 i

spelled_bytes : (n : ℕ) → AreBytes (to_be_bytes w64 n)
spelled_bytes n = (last_byte (n / 72057594037927936), (last_byte (n / 281474976710656), (last_byte (n / 1099511627776), (last_byte (n / 4294967296), (last_byte (n / 16777216), (last_byte (n / 65536), (last_byte (n / 256), (last_byte n, tt))))))))

-- any numbers are written as 32 bytes
pub spelled_value : (n : Numbers) → Is32Bytes (value_of n)
unfolding value_of
spelled_value n = (
  refl,
  each_byte (value_of n)
      (append_bytes (to_be_bytes w64 n.first ++ to_be_bytes w64 n.second ++ to_be_bytes w64 n.third) (to_be_bytes w64 n.fourth)
      (append_bytes (to_be_bytes w64 n.first ++ to_be_bytes w64 n.second) (to_be_bytes w64 n.third) (append_bytes (to_be_bytes w64 n.first) (to_be_bytes w64 n.second) (spelled_bytes n.first) (spelled_bytes n.second)) (spelled_bytes n.third))
      (spelled_bytes n.fourth)),
)

-- ---- accounts

both : (x y : Bool) → (x && y) ≡ true → (x ≡ true) × (y ≡ true)
both true y h = (refl, h)
both false y h = absurd cc

-- numbers whose last two are 0 are made of their first two
pub made_of_two : (n : Numbers) → has_two n ≡ true → record { first = n.first; second = n.second; third = 0; fourth = 0 } ≡ n
made_of_two n h =
    let p = both (nat_eq n.third 0) (nat_eq n.fourth 0) h in
    λ i. record { first = n.first; second = n.second; third = sym (eqb-true n.third 0 p.0) i; fourth = sym (eqb-true n.fourth 0 p.1) i }

-- What is to be said of accounts that are made of numbers: accounts that are the same are equal; the numbers of a
-- sound one have 64 bits; an account is made again of its numbers, and numbers that pass the test are those of the
-- account that is made of them; a balance is an amount where the numbers have 64 bits.
pub record AreMade {A E : Type 0} (same : A → A → Bool) (IsSound : A → Type 0) (rules : Rules A E) (to : A → Numbers) (fits : Numbers → Bool) (made : Numbers → A) : Type 0 where
  pub alike : (a : A) → same a a ≡ true
  pub exact : (a b : A) → same a b ≡ true → a ≡ b
  pub words : (a : A) → IsSound a → AreWords (to a)
  pub again : (a : A) → made (to a) ≡ a
  pub passes : (a : A) → fits (to a) ≡ true
  pub spelled : (n : Numbers) → fits n ≡ true → to (made n) ≡ n
  pub amount : (a : A) → AreWords (to a) → rules.balance_of a ≤ max_amount
  pub first_amount : rules.balance_of rules.initial ≤ max_amount

module _ {A E : Type 0} (same : A → A → Bool) (IsSound : A → Type 0) (rules : Rules A E) (to : A → Numbers) (fits : Numbers → Bool) (made : Numbers → A) (h : AreMade same IsSound rules to fits made) where
  abbrev reading : List ℕ → Option A
  reading v = cond (fits (numbers_of v)) (Some (made (numbers_of v))) None

  back : (a : A) → IsSound a → SameOutcome same (Some a) (reading (value_of (to a)))
  back a s =
      let one : numbers_of (value_of (to a)) ≡ to a = read_again (to a) (h.words a s) in
      subst (λ n. SameOutcome same (Some a) (cond (fits n) (Some (made n)) None)) (sym one)
      (subst (λ b. SameOutcome same (Some a) (cond b (Some (made (to a))) None)) (sym (h.passes a)) (subst (λ b. same a b ≡ true) (sym (h.again a)) (h.alike a)))

  -- numbers that are read as an account are its numbers
  told : (n : Numbers) (a : A) (b : Bool) → fits n ≡ b → cond b (Some (made n)) None ≡ Some a → to a ≡ n
  told n a true e k = let is : made n ≡ a = cc in ap to (sym is) ∙ h.spelled n e
  told n a false e k = absurd cc

  numbers_told : (v : List ℕ) (a : A) → reading v ≡ Some a → to a ≡ numbers_of v
  numbers_told v a k = told (numbers_of v) a (fits (numbers_of v)) refl k

  pub laws_of_numbers : ValueLaws same IsSound rules (numbers_values to fits made)
  laws_of_numbers = record {
    one_value = λ a b s. ap (λ c. value_of (to c)) (h.exact a b s);
    reads_back = back;
    is_read = λ v a s k. ap value_of (numbers_told v a k) ∙ written_again v s;
    is_value = λ a. spelled_value (to a);
    amount = λ v a s k. h.amount a (subst AreWords (sym (numbers_told v a k)) (words_of v s));
    first_amount = h.first_amount;
  }
