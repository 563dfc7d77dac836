-- What the writes of a batch change writes keys.
use Rattle.std.proofs.Common.{◌≡◌, ℕ, Bool, true, false, List, [], ◌∷◌, Option, Some, None, All, filter_map, ap, if◌then◌else◌}
use Rattle.std.specs.Prelude.{IsSome, is_some, is_none}
use Rattle.std.specs.List.{cons_option}
use Rattle.std.proofs.lemmas.List.Elements.{All-nil, All-cons}
use Rattle.ledger_chain.specs.Writes.{Write}
use Rattle.ledger_chain.specs.Changes.{change_of}

module _ {Op : Type 0} (w : Op → Option Write) (put : List ℕ → List ℕ → Op) (delete : List ℕ → Op)
    (puts : (key value : List ℕ) → w (put key value) ≡ Some (key, Some value)) (deletes : (key : List ℕ) → w (delete key) ≡ Some (key, None)) where
  one_more : (o : Option Op) (ops : List Op) → ((op : Op) → o ≡ Some op → IsSome (w op)) → All (λ op. IsSome (w op)) ops → All (λ op. IsSome (w op)) (cons_option o ops)
  one_more None ops p h = h
  one_more (Some op) ops p h = All-cons (λ op. IsSome (w op)) op ops (p op cc) h

  change_writes : (before : Option (List ℕ)) (write : Write) (op : Op) → change_of put delete before write ≡ Some op → IsSome (w op)
  change_writes before (key, Some value) op e = let p = puts key value in cc
  change_writes before (key, None) op e = by (is_none before) e where
    by : (b : Bool) → (if b then None else Some (delete key)) ≡ Some op → IsSome (w op)
    by true e = absurd cc
    by false e = let p = deletes key in cc

  pub all_write : (before : List ℕ → Option (List ℕ)) (writes : List Write) → All (λ op. IsSome (w op)) (filter_map (λ x. change_of put delete (before x.0) x) writes)
  all_write before [] = All-nil (λ op. IsSome (w op))
  all_write before (x ∷ xs) = one_more (change_of put delete (before x.0) x) (filter_map (λ x. change_of put delete (before x.0) x) xs) (change_writes (before x.0) x) (all_write before xs)
