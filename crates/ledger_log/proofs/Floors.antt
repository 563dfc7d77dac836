use Rattle.std.proofs.Common.{◌≡◌, ℕ, zero, suc, ◌+◌, ◌<◌, arith, List, drop, [], ◌∷◌, ◌++◌, length, map, refl, ◌∙◌, Option, Some, None, Bool, true, false, cond}
use Rattle.std.specs.Option.{is_some}
use Rattle.std.proofs.lemmas.List.{map-append, length-map}
use Rattle.ledger_merkle.specs.Tree.{grow}
use Rattle.ledger_merkle.proofs.Growing.{grow-append}
use Rattle.ledger_log.specs.View.{last_floor, batch_floor}

module _ {Op : Type 0} where
  pub last_floor-push : (f : Op → Option ℕ) (xs : List Op) (x : Op) → last_floor f (xs ++ x ∷ []) ≡ f x
  last_floor-push f [] x = refl
  last_floor-push f (y ∷ []) x = refl
  last_floor-push f (y ∷ z ∷ zs) x = last_floor-push f (z ∷ zs) x

  -- what stands before does not matter
  pub last_floor-append : (f : Op → Option ℕ) (xs : List Op) (y : Op) (ys : List Op) → last_floor f (xs ++ y ∷ ys) ≡ last_floor f (y ∷ ys)
  last_floor-append f [] y ys = refl
  last_floor-append f (x ∷ []) y ys = refl
  last_floor-append f (x ∷ z ∷ zs) y ys = last_floor-append f (z ∷ zs) y ys

  -- a batch's floor is that of its last operation
  pub last_of_batch : (f : Op → Option ℕ) (ys : List Op) (n : ℕ) → batch_floor f ys ≡ Some n → last_floor f ys ≡ Some n
  last_of_batch f [] n h = h
  last_of_batch f (y ∷ []) n h = h
  last_of_batch f (y ∷ z ∷ zs) n h = last_of_batch f (z ∷ zs) n (later (is_some (f y)) (batch_floor f (z ∷ zs)) n h) where
    later : (b : Bool) (o : Option ℕ) (n : ℕ) → cond b None o ≡ Some n → o ≡ Some n
    later true o n h = absurd cc
    later false o n h = h

  pub last_floor-batch : (f : Op → Option ℕ) (xs ys : List Op) (n : ℕ) → batch_floor f ys ≡ Some n → last_floor f (xs ++ ys) ≡ Some n
  last_floor-batch f xs [] n h = cc
  last_floor-batch f xs (y ∷ ys) n h = last_floor-append f xs y ys ∙ last_of_batch f (y ∷ ys) n h

  pub last_floor-batches : (f : Op → Option ℕ) (xs ys : List Op) (n : ℕ) → last_floor f ys ≡ Some n → last_floor f (xs ++ ys) ≡ Some n
  last_floor-batches f xs [] n h = cc
  last_floor-batches f xs (y ∷ ys) n h = last_floor-append f xs y ys ∙ h

  -- the peaks of a longer log
  pub grow_ops : (hash : List ℕ → List ℕ) (spelling : Op → List ℕ) (n : ℕ) (ps : List (List ℕ)) (xs ys : List Op) →
      grow hash n ps (map spelling (xs ++ ys)) ≡ grow hash (n + length xs) (grow hash n ps (map spelling xs)) (map spelling ys)
  grow_ops hash spelling n ps xs ys = rw (map-append, grow-append, length-map) refl

  -- the last operation stays where others are dropped
  pub last_floor-drop : (f : Op → Option ℕ) (c : ℕ) (xs : List Op) → c < length xs → last_floor f (drop c xs) ≡ last_floor f xs
  last_floor-drop f zero xs l = refl
  last_floor-drop f (suc c) [] l = absurd (omega arith)
  last_floor-drop f (suc c) (x ∷ []) l = absurd (omega arith)
  last_floor-drop f (suc c) (x ∷ y ∷ ys) l = last_floor-drop f c (y ∷ ys) (omega arith)
