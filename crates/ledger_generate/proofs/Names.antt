-- Names that are filled with zero bytes.
use Rattle.std.proofs.Common.{◌≡◌, ℕ, zero, suc, ◌-◌, ◌^◌, ◌<◌, List, [], ◌∷◌, ◌++◌, length, replicate, refl, sym, ap, ◌∙◌, arith}
use Rattle.std.specs.Fmt.{decimal}
use Rattle.std.specs.Str.Parse.{AllDigits}
use Rattle.std.specs.Char.{digit_value}
use Rattle.ledger_job.specs.Keys.{filled}
use Rattle.ledger_generate.specs.Generated.{key_at}
use Rattle.std.proofs.lemmas.Fmt.{decimal_injective, decimal_is_IsNumeral}

-- what stands before the first zero
stripped : List ℕ → List ℕ
stripped [] = []
stripped (zero ∷ xs) = []
stripped (suc x ∷ xs) = suc x ∷ stripped xs

no_digit : digit_value 0 < 10 → ⊥
no_digit h = omega (arith, h)

stripped_digits : (ds : List ℕ) (n : ℕ) → AllDigits 10 ds → stripped (ds ++ replicate n 0) ≡ ds
unfolding stripped
stripped_digits [] zero h = refl
stripped_digits [] (suc n) h = refl
stripped_digits (zero ∷ ds) n h = absurd (no_digit h.0)
stripped_digits (suc c ∷ ds) n h = ap (λ xs. suc c ∷ xs) (stripped_digits ds n h.1)

behind : List ℕ → List ℕ
behind [] = []
behind (x ∷ xs) = xs

stripped_key : (i : ℕ) → i < 2 ^ 64 → stripped (key_at i) ≡ 103 ∷ decimal i
unfolding stripped key_at filled
stripped_key i h = ap (λ xs. 103 ∷ xs) (stripped_digits (decimal i) (32 - length (103 ∷ decimal i)) (decimal_is_IsNumeral i h).0.1)

-- accounts have keys of their own
pub one_account : (i j : ℕ) → i < 2 ^ 64 → j < 2 ^ 64 → key_at i ≡ key_at j → i ≡ j
unfolding behind
one_account i j h k e = decimal_injective i j h k (ap behind (sym (stripped_key i h) ∙ ap stripped e ∙ stripped_key j k))
