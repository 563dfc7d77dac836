-- Texts that are written line by line.
use Rattle.std.proofs.Common.{◌≡◌, ℕ, ◌+◌, ◌<◌, ◌≤◌, List, [], ◌∷◌, ◌++◌, length, take, get_or, Bool, sym, ◌∙◌, ap, append_assoc, arith, append-nil, if◌then◌else◌}
use Rattle.std.specs.List.{flat_map}
use Rattle.std.proofs.lemmas.List.{take_more, take_all, map-append, length-take-le}
use Rattle.ledger_program.specs.Text.{digits_of, block_line, block_lines}
use Rattle.ledger_job.specs.declared.block.BlockVerdicts.{BlockVerdicts}

module _ {X : Type 0} (f : X → List ℕ) where
  flat_push : (xs : List X) (x : X) → flat_map f (xs ++ x ∷ []) ≡ flat_map f xs ++ f x
  flat_push [] x = append-nil (f x)
  flat_push (y ∷ ys) x = ap (λ l. f y ++ l) (flat_push ys x) ∙ sym (append_assoc (f y) (flat_map f ys) (f x))

  -- one item more is written
  pub went_on : (old now new : List ℕ) (xs : List X) (i : ℕ) (d : X) → i < length xs → now ≡ old ++ flat_map f (take i xs) → new ≡ now ++ f (get_or xs i d) → new ≡ old ++ flat_map f (take (i + 1) xs)
  went_on old now new xs i d h so_far more =
      more ∙ ap (λ l. l ++ f (get_or xs i d)) so_far ∙ append_assoc old (flat_map f (take i xs)) (f (get_or xs i d))
      ∙ ap (λ l. old ++ l) (sym (ap (flat_map f) (take_more xs i d h) ∙ flat_push (take i xs) (get_or xs i d)))

  -- all items are written
  pub went_through : (old now : List ℕ) (xs : List X) (i : ℕ) → length xs ≤ i → now ≡ old ++ flat_map f (take i xs) → now ≡ old ++ flat_map f xs
  went_through old now xs i h so_far = so_far ∙ ap (λ l. old ++ flat_map f l) (take_all i xs h)

-- one digit more
pub digit_more : (old now new : List ℕ) (vs : List Bool) (i : ℕ) (d : Bool) → i < length vs → now ≡ old ++ digits_of (take i vs) → new ≡ now ++ digits_of (get_or vs i d ∷ []) → new ≡ old ++ digits_of (take (i + 1) vs)
digit_more old now new vs i d h so_far more =
    more ∙ ap (λ l. l ++ digits_of (get_or vs i d ∷ [])) so_far ∙ append_assoc old (digits_of (take i vs)) (digits_of (get_or vs i d ∷ []))
    ∙ ap (λ l. old ++ l) (sym (ap digits_of (take_more vs i d h) ∙ map-append (λ v. if v then 49 else 48) (take i vs) (get_or vs i d ∷ [])))

block_lines_push : (place : ℕ) (vs : List BlockVerdicts) (v : BlockVerdicts) → block_lines place (vs ++ v ∷ []) ≡ block_lines place vs ++ block_line (place + length vs) v
block_lines_push place [] v = append-nil (block_line place v) ∙ ap (λ n. block_line n v) (omega arith)
block_lines_push place (w ∷ vs) v =
    ap (λ l. block_line place w ++ l) (block_lines_push (place + 1) vs v) ∙ sym (append_assoc (block_line place w) (block_lines (place + 1) vs) (block_line (place + 1 + length vs) v))
    ∙ ap (λ n. (block_line place w ++ block_lines (place + 1) vs) ++ block_line n v) (omega arith)

-- one line more
pub block_more : (old now new : List ℕ) (vs : List BlockVerdicts) (i : ℕ) (d : BlockVerdicts) → i < length vs → now ≡ old ++ block_lines 0 (take i vs) → new ≡ now ++ block_line i (get_or vs i d)
    → new ≡ old ++ block_lines 0 (take (i + 1) vs)
block_more old now new vs i d h so_far more =
    let count : 0 + length (take i vs) ≡ i = omega (arith, length-take-le i vs (omega arith)) in
    more ∙ ap (λ l. l ++ block_line i (get_or vs i d)) so_far ∙ append_assoc old (block_lines 0 (take i vs)) (block_line i (get_or vs i d))
    ∙ ap (λ l. old ++ l) (sym (ap (block_lines 0) (take_more vs i d h) ∙ block_lines_push 0 (take i vs) (get_or vs i d) ∙ ap (λ n. block_lines 0 (take i vs) ++ block_line n (get_or vs i d)) count))

pub blocks_through : (old now : List ℕ) (vs : List BlockVerdicts) (i : ℕ) → length vs ≤ i → now ≡ old ++ block_lines 0 (take i vs) → now ≡ old ++ block_lines 0 vs
blocks_through old now vs i h so_far = so_far ∙ ap (λ l. old ++ block_lines 0 l) (take_all i vs h)
