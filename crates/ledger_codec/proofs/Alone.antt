-- A list of bytes that spells a value begins no other that does.
use Rattle.std.proofs.Common.{◌≡◌, ℕ, Bool, true, false, cond, eqb, List, [], ◌++◌, length, Ok, Err, refl, sym, ap, ◌∙◌, ◌≤◌, arith}
use Rattle.std.proofs.lemmas.List.{append-nil, nil_from_length}
use Rattle.std.proofs.lemmas.Bool.{eqb-true}
use Rattle.ledger_codec.specs.declared.fault.CodecError.{CodecError}
use Rattle.ledger_codec.specs.declared.fault.CodecError.TheVariants as faults
use Rattle.ledger_codec.specs.Parsing.{Parsed}
use Rattle.ledger_codec.specs.Sequences.{all_of}
use Rattle.ledger_codec.specs.Spelling.{IsLocal, IsAlone}
use Rattle.ledger_codec.specs.Laws.{bind_ok}

-- nothing is left behind a value that is all of the bytes
ended : {T : Type 0} (empty : Bool) (fault : CodecError) (x value : T) → cond empty (Ok x) (Err fault) ≡ Ok value → empty ≡ true
ended true fault x value e = refl
ended false fault x value e = absurd cc

whole : {T : Type 0} (reading : List ℕ → Parsed T) (bytes : List ℕ) (value : T) → all_of reading bytes ≡ Ok value → (x : T) × (reading bytes ≡ Ok (x, []))
unfolding all_of
whole {T} reading bytes value e =
    let b = bind_ok (reading bytes) (λ x rest. cond (eqb (length rest) 0) (Ok x) (Err (faults.ExtraData (length rest)))) value e in
    let t = ended (eqb (length b.0.1) 0) (faults.ExtraData (length b.0.1)) b.0.0 value b.2 in
    let none : b.0.1 ≡ [] = nil_from_length b.0.1 (eqb-true _ _ t) in
    (b.0.0, b.1 ∙ ap (λ (rest : List ℕ). Ok (b.0.0, rest)) none)

abbrev rest_in : {T : Type 0} → Parsed T → List ℕ
rest_in (Ok x) = x.1
rest_in (Err e) = []

pub is_alone : {T : Type 0} (reading : List ℕ → Parsed T) (seen bytes : List ℕ) (value : T) (rest : List ℕ) → IsLocal reading → seen ≡ bytes → reading seen ≡ Ok (value, rest) → length rest ≤ 0 → IsAlone reading bytes
is_alone {T} reading seen bytes value rest L at e none more other longer =
    let nothing : rest ≡ [] = nil_from_length rest (omega arith) in
    let one : reading bytes ≡ Ok (value, []) = ap reading (sym at) ∙ (e ∙ ap (λ (r : List ℕ). Ok (value, r)) nothing) in
    let u = L.used bytes value [] one in
    let same : bytes ≡ u.used = u.parts ∙ append-nil u.used in
    let two = whole reading (bytes ++ more) other longer in
    let left : reading (bytes ++ more) ≡ Ok (value, more) = ap (λ (b : List ℕ). reading (b ++ more)) same ∙ u.whatever_follows more in
    ap rest_in (sym left ∙ two.1)
