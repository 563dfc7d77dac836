use Rattle.std.proofs.Common.{◌≡◌, ℕ, zero, suc, ◌+◌, ◌-◌, List, [], ◌∷◌, ◌++◌, length, Option, Some, None, refl, sym, ap, ◌∙◌, arith}
use Rattle.std.specs.List.{last_or, slice_get}
use Rattle.std.proofs.lemmas.List.{take_at, length_push, append_assoc}
use Rattle.ledger_log.specs.View.{last_floor, batch_floor}
use Rattle.ledger_log.proofs.Floors.{last_floor-push, last_floor-batch}
use Rattle.ledger_compact.specs.View.{last_op, but_last}

module _ {Op : Type 0} where
  last_or-push : (o : Option Op) (xs : List Op) (y : Op) → last_or o (xs ++ y ∷ []) ≡ Some y
  last_or-push o [] y = refl
  last_or-push o (x ∷ xs) y = last_or-push (Some x) xs y

  -- the last operation, and those before it
  pub last_of_push : (xs : List Op) (y : Op) → last_op (xs ++ y ∷ []) ≡ Some y
  last_of_push xs y = last_or-push None xs y

  pub front_of_push : (xs : List Op) (y : Op) → but_last (xs ++ y ∷ []) ≡ xs
  front_of_push xs y = take_at xs (y ∷ []) (length (xs ++ y ∷ []) - 1) (omega (arith, length_push xs y))

  last_or-at : (o : Option Op) (xs : List Op) (i : ℕ) (x : Op) → i + 1 ≡ length xs → slice_get xs i ≡ Some x → last_or o xs ≡ Some x
  last_or-at o [] i x l e = absurd (omega arith)
  last_or-at o (y ∷ []) zero x l e = e
  last_or-at o (y ∷ z ∷ zs) zero x l e = absurd (omega arith)
  last_or-at o (y ∷ ys) (suc i) x l e = last_or-at (Some y) ys i x (omega arith) e

  -- the operation at the last place
  pub last_at : (xs : List Op) (i : ℕ) (x : Op) → i + 1 ≡ length xs → slice_get xs i ≡ Some x → last_op xs ≡ Some x
  last_at xs i x l e = last_or-at None xs i x l e

  last_floor-from : (f : Op → Option ℕ) (x : Op) (xs : List Op) (l : Op) → last_or (Some x) xs ≡ Some l → last_floor f (x ∷ xs) ≡ f l
  last_floor-from f x [] l e = let same : x ≡ l = cc in ap f same
  last_floor-from f x (y ∷ ys) l e = last_floor-from f y ys l e

  -- the last floor is that of the last operation
  pub last_floor-is : (f : Op → Option ℕ) (xs : List Op) (l : Op) → last_op xs ≡ Some l → last_floor f xs ≡ f l
  last_floor-is f [] l e = absurd cc
  last_floor-is f (x ∷ xs) l e = last_floor-from f x xs l e

  -- the last operation of more
  pub last_more : (xs others : List Op) (last : Op) → last_op (xs ++ (others ++ last ∷ [])) ≡ Some last
  last_more xs others last = ap last_op (sym (append_assoc xs others (last ∷ []))) ∙ last_of_push (xs ++ others) last

  pub front_more : (xs others : List Op) (last : Op) → but_last (xs ++ (others ++ last ∷ [])) ≡ xs ++ others
  front_more xs others last = ap but_last (sym (append_assoc xs others (last ∷ []))) ∙ front_of_push (xs ++ others) last

  -- a list that isn't empty ends with an item
  ends_with : (x : Op) (xs : List Op) → (others : List Op) × (last : Op) × (x ∷ xs ≡ others ++ last ∷ [])
  ends_with x [] = ([], x, refl)
  ends_with x (y ∷ ys) = let e = ends_with y ys in (x ∷ e.0, e.1, ap (λ l. x ∷ l) e.2)

  pub batch_ends : (f : Op → Option ℕ) (ops : List Op) (n : ℕ) → batch_floor f ops ≡ Some n → (others : List Op) × (last : Op) × (ops ≡ others ++ last ∷ [])
  batch_ends f [] n h = absurd cc
  batch_ends f (x ∷ xs) n h = ends_with x xs

  pub log_ends : (f : Op → Option ℕ) (ops : List Op) (n : ℕ) → last_floor f ops ≡ Some n → (others : List Op) × (last : Op) × (ops ≡ others ++ last ∷ [])
  log_ends f [] n h = absurd cc
  log_ends f (x ∷ xs) n h = ends_with x xs

  -- the floor of a batch is that of its last operation
  pub batch_last : (f : Op → Option ℕ) (ops others : List Op) (last : Op) (n : ℕ) → ops ≡ others ++ last ∷ [] → batch_floor f ops ≡ Some n → f last ≡ Some n
  batch_last f ops others last n e h = sym (last_floor-push f others last) ∙ (ap (last_floor f) (sym e) ∙ last_floor-batch f [] ops n h)
