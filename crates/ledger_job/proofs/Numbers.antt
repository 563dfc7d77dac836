-- Lemmas on the numbers of a job.
use Rattle.std.proofs.Common.{◌≡◌, ℕ, ◌<◌, ◌^◌, Bool, true, false, ◌&&◌, nat_lt, if◌then◌else◌, List, [], ◌∷◌, length, Some, None, Result, Ok, Err, refl, sym, ◌∙◌, ap, rules, arith}
use Rattle.std.proofs.lemmas.Bool.{false≢true}
use Rattle.std.proofs.lemmas.Fmt.{IsAscii-from_digits}
use Rattle.std.proofs.lemmas.Str.{IsUtf8-from_ascii}
use Rattle.std.proofs.lemmas.Str.Parse.{IsNumeralModel, numerals_by_value, parse_digits}
use Rattle.std.specs.Char.{is_ascii_digit}
use Rattle.std.specs.List.{list_all}
use Rattle.std.specs.Result.{result_ok}
use Rattle.std.specs.Str.{IsUtf8}
use Rattle.std.specs.Str.Parse.{digits_value, ParsesUnsigned}
use borrow.Author.Tests.{tests}
use Rattle.ledger_job.specs.Number.{has_plain_start, is_plain_decimal, number_of}

own : IsNumeralModel (λ ds. list_all is_ascii_digit ds ≡ true) (digits_value 10)
own = numerals_by_value _ (search rules)

pub and_left : (a b : Bool) → (a && b) ≡ true → a ≡ true
and_left true b h = refl
and_left false b h = h

pub and_right : (a b : Bool) → (a && b) ≡ true → b ≡ true
and_right true b h = h
and_right false b h = absurd (false≢true h)

not_true : (b : Bool) → (b ≡ true → ⊥) → b ≡ false
not_true true h = absurd (h refl)
not_true false h = refl

not_empty : (text : List ℕ) → has_plain_start text ≡ true → 0 < length text
not_empty [] h = absurd (false≢true h)
not_empty (b ∷ more) h = omega arith

pub number_none : (text : List ℕ) → is_plain_decimal text ≡ false → None ≡ number_of text
unfolding number_of
number_none text h = rw h refl

-- a plain decimal is text
pub plain_utf8 : (text : List ℕ) → is_plain_decimal text ≡ true → IsUtf8 text
unfolding is_plain_decimal
plain_utf8 text h = IsUtf8-from_ascii text (IsAscii-from_digits text (own.to text (and_right _ _ h)))

known : (text : List ℕ) (b : Bool) → is_plain_decimal text ≡ true → nat_lt (digits_value 10 text) (2 ^ 64) ≡ b → number_of text ≡ (if b then Some (digits_value 10 text) else None)
unfolding number_of
known text b h e = rw (h, e) refl

-- what `parse` answers
pub number_parsed : {E : Type 0} (text : List ℕ) (r : Result ℕ E) → is_plain_decimal text ≡ true → ParsesUnsigned 64 10 text r → result_ok r ≡ number_of text
unfolding is_plain_decimal
number_parsed {E} text (Ok x) h p =
    let q = parse_digits own {E = E} 64 text (Ok x) p (and_right _ _ h) in
    let small : nat_lt (digits_value 10 text) (2 ^ 64) ≡ true = search (rules, tests) in
    ap Some q.1 ∙ sym (known text true h small)
number_parsed {E} text (Err e) h p =
    let q = parse_digits own {E = E} 64 text (Err e) p (and_right _ _ h) in
    let full = not_empty text (and_left _ _ h) in
    sym (known text false h (not_true _ (λ t. q (full, search (rules, tests)))))
