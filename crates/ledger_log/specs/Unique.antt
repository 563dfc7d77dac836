use Rattle.std.proofs.Common.{◌≡◌, ℕ, zero, suc, ◌+◌, ◌*◌, ◌/◌, ◌%◌, ◌^◌, ◌<◌, ◌≤◌, List, [], ◌∷◌, ◌++◌, length, take, drop, Option, Some, None, refl, sym, ap, ◌∙◌, arith, Bool, true, false, cond, nat_lt, lit≤}
use Rattle.std.proofs.lemmas.Bool.Decides.{nat_tests}
use Rattle.std.proofs.lemmas.List.{take_at, drop_at}
use Rattle.std.proofs.Math.Nat.{pow-suc}
use Rattle.ledger_codec.specs.Numbers.{varint, varint_within}
use Rattle.ledger_log.specs.Spelling.{commit_spelling, IsSoundCommit}

-- two lists in two parts, of which the first are equally long
pub split_equal : (a c b d : List ℕ) → length a ≡ length c → a ++ b ≡ c ++ d → (a ≡ c) × (b ≡ d)
split_equal a c b d h e = (
  sym (take_at a b (length a) refl) ∙ (ap (take (length a)) e ∙ take_at c d (length a) (sym h)),
  sym (drop_at a b (length a) refl) ∙ (ap (drop (length a)) e ∙ drop_at c d (length a) (sym h)),
)

-- the number that these bytes spell
read_back : List ℕ → ℕ
read_back [] = 0
read_back (x ∷ xs) = x % 128 + 128 * read_back xs

-- nothing spells 0
read_nothing : read_back [] ≡ 0
unfolding read_back
read_nothing = refl

-- a byte more or the last one
read_either : (b : Bool) (n : ℕ) (more : List ℕ) → nat_lt n 128 ≡ b → (128 ≤ n → read_back more ≡ n / 128) → read_back (cond b (n ∷ []) ((n % 128 + 128) ∷ more)) ≡ n
unfolding read_back
read_either true n more t h = let low : n < 128 = grind (arith, nat_tests) in omega arith
read_either false n more t h = let high : 128 ≤ n = grind (arith, nat_tests) in omega (arith, h high)

-- what was spelled is read back
read_within : (k n : ℕ) → n < 128 ^ k → read_back (varint_within k n) ≡ n
read_within zero n h = let one : 128 ^ 0 ≡ 1 = refl in let none : read_back [] ≡ 0 = read_nothing in omega arith
read_within (suc k) n h =
    let p : 128 ^ suc k ≡ 128 ^ k * 128 = pow-suc 128 k in
    read_either (nat_lt n 128) n (varint_within k (n / 128)) refl (λ _. read_within k (n / 128) (omega arith))

-- numbers with one spelling are one number
pub varint_distinct : (m n : ℕ) → m ≤ 2 ^ 62 → n ≤ 2 ^ 62 → varint m ≡ varint n → m ≡ n
unfolding varint
varint_distinct m n p q e =
    let x : 2 ^ 62 < 128 ^ 10 = lit≤ tt in
    sym (read_within 10 m (omega arith)) ∙ (ap read_back e ∙ read_within 10 n (omega arith))

-- commits with one spelling have the same metadata and the same floor
pub commit_distinct : (m n : Option (List ℕ)) (f g : ℕ) → IsSoundCommit m f → IsSoundCommit n g → commit_spelling m f ≡ commit_spelling n g → (m ≡ n) × (f ≡ g)
commit_distinct None None f g p q e = let same : f ≡ g = varint_distinct f g p.1 q.1 cc in (refl, same)
commit_distinct None (Some n) f g p q e = absurd cc
commit_distinct (Some m) None f g p q e = absurd cc
commit_distinct (Some m) (Some n) f g p q e =
    let s = split_equal m n (varint f) (varint g) (p.0.0 ∙ sym q.0.0) cc in
    let l : m ≡ n = s.0 in
    (ap Some l, varint_distinct f g p.1 q.1 s.1)
