-- The characters of a name.
use Rattle.std.proofs.Common.{◌≡◌, ℕ, ◌+◌, ◌<◌, true, List, [], ◌∷◌, length, get_or, arith, zero, suc, ◌++◌, take, sym, ◌∙◌, ap}
use Rattle.std.proofs.lemmas.List.{take_more}
use Rattle.std.specs.List.{list_all}
use Rattle.std.proofs.lemmas.Grind.{common_steps}
use borrow.Author.Tests.{tests}
use Rattle.ledger_job.specs.Keys.{is_name_byte, has_name_length, is_name}
use Rattle.ledger_job.proofs.Numbers.{and_left, and_right}

ascii : (b : ℕ) → is_name_byte b ≡ true → b < 128
ascii b h = grind (arith, common_steps, tests)

all_ascii : (bytes : List ℕ) (i : ℕ) → list_all is_name_byte bytes ≡ true → i < length bytes → get_or bytes i 0 < 128
all_ascii [] i h l = absurd (omega arith)
all_ascii (b ∷ bytes) zero h l = ascii b (and_left (is_name_byte b) (list_all is_name_byte bytes) h)
all_ascii (b ∷ bytes) (suc i) h l = all_ascii bytes i (and_right (is_name_byte b) (list_all is_name_byte bytes) h) (omega arith)

pub name_ascii : (name : List ℕ) (i : ℕ) → is_name name ≡ true → i < length name → get_or name i 0 < 128
unfolding is_name
name_ascii name i h l = all_ascii name i (and_right (has_name_length name) (list_all is_name_byte name) h) l

-- one more character of a name
pub name_step : (old new name enc : List ℕ) (i ch : ℕ) → i < length name → is_name name ≡ true → ch ≡ get_or name i 0
    → new ≡ old ++ enc → (ch < 128 → enc ≡ ch ∷ []) → old ≡ take i name → new ≡ take (i + 1) name
name_step old new name enc i ch h n e grown one so_far =
    let low : ch < 128 = rw e (name_ascii name i n h) in
    grown ∙ ap (λ l. old ++ l) (one low ∙ ap (λ c. c ∷ []) e) ∙ ap (λ l. l ++ get_or name i 0 ∷ []) so_far ∙ sym (take_more name i 0 h)
