-- That the value of a sequenced account keeps the laws.
use Rattle.std.proofs.Common.{◌≡◌, ℕ, ◌+◌, ◌*◌, ◌/◌, ◌%◌, ◌^◌, ◌<◌, ◌++◌, zero, suc, [], ◌∷◌, ◌≤◌, lit<, length-append, Bool, true, false, cond, List, length, get_or, take, drop, replicate, Some, None, refl, ap, sym, ◌∙◌, subst, arith, append_assoc, length-drop, bytes_eq, ◌&&◌, nat_eq}
use Rattle.std.specs.List.{AllByRecursion}
use Rattle.std.specs.Int.{w64, to_be_bytes, from_be_bytes}
use Rattle.std.proofs.lemmas.Nat.{from_be_bytes-to_be_bytes_8, be_bytes_8}
use Rattle.std.specs.Cmp.Lexicographic.{bytes_decides}
use Rattle.std.proofs.lemmas.List.{take_at, drop_at, get_or-drop, length-take-le, take-append-drop, drop-drop, take_all}
use Rattle.ledger_transfers.specs.Accounts.{sequenced_rules}
use Rattle.ledger_transfers.specs.Rules.{SameOutcome}
use Rattle.ledger_transfers.specs.Touches.{max_amount}
use Rattle.ledger_managed.specs.Values.{ValueLaws}
use Rattle.ledger_log.specs.Spelling.{Is32Bytes}
use Rattle.ledger_managed.specs.Spelled.{sequenced_values, sequenced_value, read_sequenced, IsSoundSequenced, padding}
use Rattle.std.proofs.lemmas.Bool.{eqb-true, eq-eqb}
use Rattle.ledger_transfers.specs.declared.sequenced.Sequenced.{Sequenced}

-- accounts with equal numbers
abbrev pub sequenced_same : Sequenced → Sequenced → Bool
sequenced_same a b = nat_eq a.balance b.balance && nat_eq a.nonce b.nonce

both : (x y : Bool) → (x && y) ≡ true → (x ≡ true) × (y ≡ true)
both true y h = (refl, h)
both false y h = absurd cc

-- accounts that are the same are equal
sequenced_exact : (a b : Sequenced) → sequenced_same a b ≡ true → a ≡ b
sequenced_exact a b s =
    let p = both (nat_eq a.balance b.balance) (nat_eq a.nonce b.nonce) s in
    λ i. record { balance = eqb-true a.balance b.balance p.0 i; nonce = eqb-true a.nonce b.nonce p.1 i }

-- an account is the same as itself
sequenced_alike : (a : Sequenced) → sequenced_same a a ≡ true
sequenced_alike a = ap (λ b. b && nat_eq a.nonce a.nonce) (eq-eqb a.balance a.balance refl) ∙ eq-eqb a.nonce a.nonce refl

abbrev account_of : List ℕ → Sequenced
account_of v = record { balance = from_be_bytes w64 (take 8 v); nonce = from_be_bytes w64 (take 8 (drop 8 v)) }

module _ (x y z : List ℕ) (p : length x ≡ 8) (q : length y ≡ 8) where
  balance_part : take 8 ((x ++ y) ++ z) ≡ x
  balance_part = rw append_assoc (take_at x (y ++ z) 8 p)

  nonce_part : take 8 (drop 8 ((x ++ y) ++ z)) ≡ y
  nonce_part = rw append_assoc (ap (take 8) (drop_at x (y ++ z) 8 p) ∙ take_at y z 8 q)

  padding_part : drop 16 ((x ++ y) ++ z) ≡ z
  padding_part = drop_at (x ++ y) z 16 (length-append x y ∙ omega arith)

be_length : (n : ℕ) → length (to_be_bytes w64 n) ≡ 8
be_length n = refl

reads_back : (a : Sequenced) → IsSoundSequenced a → SameOutcome sequenced_same (Some a) (read_sequenced (sequenced_value a))
unfolding sequenced_value read_sequenced
reads_back a s = by (to_be_bytes w64 a.balance) (to_be_bytes w64 a.nonce) refl refl (from_be_bytes-to_be_bytes_8 a.balance s.0) (from_be_bytes-to_be_bytes_8 a.nonce s.1)
  where
    by : (x y : List ℕ) → length x ≡ 8 → length y ≡ 8 → from_be_bytes w64 x ≡ a.balance → from_be_bytes w64 y ≡ a.nonce →
        SameOutcome sequenced_same (Some a) (cond (bytes_eq (drop 16 ((x ++ y) ++ padding)) padding) (Some (account_of ((x ++ y) ++ padding))) None)
    by x y p q b n =
        let rest : drop 16 ((x ++ y) ++ padding) ≡ padding = padding_part x y padding p q in
        let same : bytes_eq (drop 16 ((x ++ y) ++ padding)) padding ≡ true = (bytes_decides (drop 16 ((x ++ y) ++ padding)) padding).1 rest in
        let one : account_of ((x ++ y) ++ padding) ≡ a = λ i. record {
          balance = (ap (from_be_bytes w64) (balance_part x y padding p q) ∙ b) i;
          nonce = (ap (from_be_bytes w64) (nonce_part x y padding p q) ∙ n) i;
        } in
        subst (λ c. SameOutcome sequenced_same (Some a) (cond c (Some (account_of ((x ++ y) ++ padding))) None)) (sym same)
        (subst (λ c. sequenced_same a c ≡ true) (sym one) (sequenced_alike a))

weighed : (a b c d e f g h : ℕ) → a < 256 → b < 256 → c < 256 → d < 256 → e < 256 → f < 256 → g < 256 → h < 256
    → h * 72057594037927936 + g * 281474976710656 + f * 1099511627776 + e * 4294967296 + d * 16777216 + c * 65536 + b * 256 + a < 2 ^ 64
weighed a b c d e f g h p q r s t u v w = omega (arith, p, q, r, s, t, u, v, w)

last_byte : (n : ℕ) → n % 256 < 256
last_byte n = omega arith

-- what eight bytes of any number spell has 64 bits
bytes_bound : (n : ℕ) → from_be_bytes w64 (to_be_bytes w64 n) < 2 ^ 64
bytes_bound n =
    weighed (n % 256) (n / 256 % 256) (n / 65536 % 256) (n / 16777216 % 256) (n / 4294967296 % 256) (n / 1099511627776 % 256) (n / 281474976710656 % 256) (n / 72057594037927936 % 256)
    (last_byte n) (last_byte (n / 256)) (last_byte (n / 65536)) (last_byte (n / 16777216)) (last_byte (n / 4294967296)) (last_byte (n / 1099511627776)) (last_byte (n / 281474976710656)) (last_byte (n / 72057594037927936))

-- the value of an account reads as an account
pub value_reads : (a : Sequenced) → (b : Sequenced) × (read_sequenced (sequenced_value a) ≡ Some b)
unfolding sequenced_value read_sequenced
value_reads a = by (to_be_bytes w64 a.balance) (to_be_bytes w64 a.nonce) refl refl
  where
    by : (x y : List ℕ) → length x ≡ 8 → length y ≡ 8
        → (b : Sequenced) × (cond (bytes_eq (drop 16 ((x ++ y) ++ padding)) padding) (Some (account_of ((x ++ y) ++ padding))) None ≡ Some b)
    by x y p q = (
      account_of ((x ++ y) ++ padding),
      ap (λ c. cond c (Some (account_of ((x ++ y) ++ padding))) None) ((bytes_decides (drop 16 ((x ++ y) ++ padding)) padding).1 (padding_part x y padding p q)),
    )

-- each item is below 256
abbrev AreBytes : List ℕ → Type 0
AreBytes xs = AllByRecursion (λ b. b < 256) xs

append_bytes : (xs ys : List ℕ) → AreBytes xs → AreBytes ys → AreBytes (xs ++ ys)
append_bytes [] ys h k = k
append_bytes (x ∷ xs) ys h k = (h.0, append_bytes xs ys h.1 k)

zero_bytes : (n : ℕ) → AreBytes (replicate n 0)
zero_bytes zero = tt
zero_bytes (suc n) = (lit< tt, zero_bytes n)

each_byte : (xs : List ℕ) → AreBytes xs → (i : ℕ) → get_or xs i 0 < 256
each_byte [] h i = lit< tt
each_byte (x ∷ xs) h zero = h.0
each_byte (x ∷ xs) h (suc i) = each_byte xs h.1 i

spelled_bytes : (n : ℕ) → AreBytes (to_be_bytes w64 n)
spelled_bytes n = (last_byte (n / 72057594037927936), (last_byte (n / 281474976710656), (last_byte (n / 1099511627776), (last_byte (n / 4294967296), (last_byte (n / 16777216), (last_byte (n / 65536), (last_byte (n / 256), (last_byte n, tt))))))))

-- each account's value has 32 bytes
spelled_value : (a : Sequenced) → Is32Bytes (sequenced_value a)
unfolding sequenced_value
spelled_value a = (
  refl,
  each_byte (sequenced_value a)
      (append_bytes (to_be_bytes w64 a.balance ++ to_be_bytes w64 a.nonce) padding (append_bytes (to_be_bytes w64 a.balance) (to_be_bytes w64 a.nonce) (spelled_bytes a.balance) (spelled_bytes a.nonce)) (zero_bytes 16)),
)

take_within : (n : ℕ) (v : List ℕ) (i : ℕ) → ((j : ℕ) → get_or v j 0 < 256) → get_or (take n v) i 0 < 256
take_within zero v i h = lit< tt
take_within (suc n) [] i h = lit< tt
take_within (suc n) (x ∷ xs) zero h = h 0
take_within (suc n) (x ∷ xs) (suc i) h = take_within n xs i (λ j. h (suc j))

bytes_within : (v : List ℕ) (n : ℕ) → ((i : ℕ) → get_or v i 0 < 256) → (i : ℕ) → get_or (take n v) i 0 < 256
bytes_within v n h i = take_within n v i h

length_eight : (v : List ℕ) → length v ≡ 32 → length (take 8 v) ≡ 8
length_eight v h = length-take-le 8 v (omega arith)

length_rest : (v : List ℕ) → length v ≡ 32 → length (take 8 (drop 8 v)) ≡ 8
length_rest v h = length-take-le 8 (drop 8 v) (omega (arith, length-drop 8 v))

whole : (v x y z : List ℕ) → x ≡ take 8 v → y ≡ take 8 (drop 8 v) → drop 16 v ≡ z → (x ++ y) ++ z ≡ v
whole v x y z p q r =
    let far : drop 16 v ≡ drop 8 (drop 8 v) = sym (drop-drop 8 8 v) in
    append_assoc x y z ∙ ap (λ w. w ++ (y ++ z)) p ∙ ap (λ w. take 8 v ++ (w ++ z)) q ∙ ap (λ w. take 8 v ++ (take 8 (drop 8 v) ++ w)) (sym r ∙ far)
    ∙ ap (λ w. take 8 v ++ w) (take-append-drop 8 (drop 8 v)) ∙ take-append-drop 8 v

is_read : (v : List ℕ) (a : Sequenced) → Is32Bytes v → read_sequenced v ≡ Some a → sequenced_value a ≡ v
unfolding read_sequenced sequenced_value
is_read v a s h = by (bytes_eq (drop 16 v) padding) refl h
  where
    by : (b : Bool) → bytes_eq (drop 16 v) padding ≡ b → cond b (Some (account_of v)) None ≡ Some a → sequenced_value a ≡ v
    by false e k = absurd cc
    by true e k =
        let is : account_of v ≡ a = cc in
        let rest : drop 16 v ≡ padding = (bytes_decides (drop 16 v) padding).0 e in
        let first : to_be_bytes w64 (from_be_bytes w64 (take 8 v)) ≡ take 8 v = be_bytes_8 (take 8 v) (from_be_bytes w64 (take 8 v)) (length_eight v s.0) (bytes_within v 8 s.1) refl in
        let second : to_be_bytes w64 (from_be_bytes w64 (take 8 (drop 8 v))) ≡ take 8 (drop 8 v) =
        be_bytes_8 (take 8 (drop 8 v)) (from_be_bytes w64 (take 8 (drop 8 v))) (length_rest v s.0) (bytes_within (drop 8 v) 8 (λ i. subst (λ n. n < 256) (sym (get_or-drop 8 v i 0)) (s.1 (8 + i)))) refl in
        ap sequenced_value (sym is) ∙ whole v (to_be_bytes w64 (from_be_bytes w64 (take 8 v))) (to_be_bytes w64 (from_be_bytes w64 (take 8 (drop 8 v)))) padding first second rest

-- the balance of an account that a value spells has 64 bits
spelled_amount : (v : List ℕ) (a : Sequenced) → Is32Bytes v → read_sequenced v ≡ Some a → a.balance ≤ max_amount
unfolding read_sequenced
spelled_amount v a s h = by (bytes_eq (drop 16 v) padding) h
  where
    within : (n : ℕ) → n < 2 ^ 64 → n ≤ max_amount
    within n h = omega (arith, h)

    first : List ℕ
    first = take 8 v

    small : from_be_bytes w64 first < 2 ^ 64
    small = subst (λ x. from_be_bytes w64 x < 2 ^ 64) (be_bytes_8 first (from_be_bytes w64 first) (length_eight v s.0) (bytes_within v 8 s.1) refl) (bytes_bound (from_be_bytes w64 first))

    by : (b : Bool) → cond b (Some (account_of v)) None ≡ Some a → a.balance ≤ max_amount
    by false e = absurd cc
    by true e = let is : account_of v ≡ a = cc in subst (λ c. c.balance ≤ max_amount) is (within (from_be_bytes w64 first) small)

pub sequenced_value_laws : ValueLaws sequenced_same IsSoundSequenced sequenced_rules sequenced_values
sequenced_value_laws = record {
  one_value = λ a b s. ap sequenced_value (sequenced_exact a b s);
  reads_back = reads_back;
  is_read = is_read;
  is_value = spelled_value;
  amount = spelled_amount;
  first_amount = omega arith;
}

-- what is read of a value's parts
pub reads_as : (v x y : List ℕ) (b n : ℕ) → length v ≡ 32 → bytes_eq (take 16 (drop 16 v)) padding ≡ true → x ≡ take 8 v → y ≡ take 8 (drop 8 v) → b ≡ from_be_bytes w64 x → n ≡ from_be_bytes w64 y
    → SameOutcome sequenced_same (Some (record { balance = b; nonce = n })) (read_sequenced v)
unfolding read_sequenced
reads_as v x y b n l t p q h k =
    let rest : take 16 (drop 16 v) ≡ drop 16 v = take_all 16 (drop 16 v) (omega (arith, length-drop 16 v, l)) in
    let same : bytes_eq (drop 16 v) padding ≡ true = ap (λ z. bytes_eq z padding) (sym rest) ∙ t in
    let made : Sequenced = record { balance = b; nonce = n } in
    let one : made ≡ account_of v = λ i. record { balance = (h ∙ ap (from_be_bytes w64) p) i; nonce = (k ∙ ap (from_be_bytes w64) q) i } in
    subst (λ c. SameOutcome sequenced_same (Some made) (cond c (Some (account_of v)) None)) (sym same) (subst (λ a. sequenced_same made a ≡ true) one (sequenced_alike made))
