-- A batch that is raised over a log with others behind it.
use Rattle.std.proofs.Common.{◌≡◌, ℕ, ◌+◌, ◌^◌, ◌<◌, ◌≤◌, nat_le, List, [], ◌∷◌, ◌++◌, length, take, map, filter, Option, Some, None, All, refl, sym, ap, subst, ◌∙◌, arith, length-append}
use Rattle.std.specs.Prelude.{IsSome, nat_lt}
use Rattle.ledger_log.specs.View.{LogView, log_size, log_floor}
use Rattle.ledger_log.specs.Active.{living, living_from}
use Rattle.ledger_log.specs.Faults.{append_refusal}
use Rattle.ledger_log.specs.declared.fault.LogFault.{LogFault}
use Rattle.ledger_log.specs.declared.fault.LogFault.TheVariants.{Full}
use Rattle.ledger_compact.specs.View.{with_ops}
use Rattle.ledger_raising.specs.Raised.{first_place, counting, copies, next_floor, raised, Raises}
use Rattle.ledger_raising.proofs.Rising.{from_filter, from_living, cut_below}
use Rattle.ledger_raising.proofs.Admitted.{too_long, short_enough}
use Rattle.ledger_raising.proofs.Laws.{floor_within, counting_behind, size_behind, floor_is, raises}

module _ {Op : Type 0} (f : Op → Option ℕ) (w : Op → Option (List ℕ × Option (List ℕ))) (log : LogView Op) (missing changes : List Op) (floor : ℕ) (is : log_floor f (with_ops log missing) ≡ floor) where
  -- what is found and stands before the batch is what it copies
  pub copies_found : (found : List (ℕ × Op)) (size : ℕ) → found ≡ take (length changes) (living_from w log (missing ++ changes) floor) → size ≡ log_size log + length missing →
      map (λ e. e.1) (filter (λ e. nat_lt e.0 size) found) ≡ copies f w (with_ops log missing) changes
  copies_found found size e s =
      let g = with_ops log missing in
      let same : size ≡ log_size (with_ops log missing) = s ∙ sym (size_behind f w log missing) in
      let all : living_from w log (missing ++ changes) floor ≡ counting f w (with_ops log missing) changes =
      sym (counting_behind f w log missing changes floor) ∙ ap (living_from w (with_ops log missing) changes) (sym is) in
      ap (λ n. map (λ (e : ℕ × Op). e.1) (filter (λ e. nat_lt e.0 n) found)) same
      ∙ ap (λ l. map (λ (e : ℕ × Op). e.1) (filter (λ e. nat_lt e.0 (log_size (with_ops log missing))) l)) (e ∙ ap (take (length changes)) all)
      ∙ ap (map (λ (e : ℕ × Op). e.1)) (cut_below (log_size (with_ops log missing)) (length changes) log.front (counting f w (with_ops log missing) changes)
      (from_filter log.front (λ e. nat_le (log_floor f (with_ops log missing)) e.0) (living w log.front ((log.ops ++ missing) ++ changes)) (from_living w log.front ((log.ops ++ missing) ++ changes))))

  module _ (commit_of : Option (List ℕ) → ℕ → Op)
      (has_floor : (metadata : Option (List ℕ)) (floor : ℕ) → f (commit_of metadata floor) ≡ Some floor)
      (no_commits : (op : Op) (write : List ℕ × Option (List ℕ)) → w op ≡ Some write → f op ≡ None)
      (metadata : Option (List ℕ)) (low : floor ≤ log_size log + length missing) (writes : All (λ op. IsSome (w op)) changes) where
    below : log_floor f (with_ops log missing) ≤ log_size (with_ops log missing)
    below = omega (arith, is, low, size_behind f w log missing)

    within : (log_floor f (with_ops log missing) ≤ next_floor f w (with_ops log missing) (changes ++ copies f w (with_ops log missing) changes))
        × (next_floor f w (with_ops log missing) (changes ++ copies f w (with_ops log missing) changes) ≤ log_size (with_ops log missing) + length (changes ++ copies f w (with_ops log missing) changes))
    within = floor_within f w (with_ops log missing) (changes ++ copies f w (with_ops log missing) changes) below

    pub full : (size : ℕ) → size ≡ log_size log + length missing → 2 ^ 62 ≤ size + length changes + length (copies f w (with_ops log missing) changes) →
        append_refusal f (with_ops log missing) (raised f w commit_of (with_ops log missing) changes metadata) ≡ Some (Full size)
    full size s l =
        let same : log_size (with_ops log missing) ≡ size = size_behind f w log missing ∙ sym s in
        too_long f w commit_of has_floor no_commits (with_ops log missing) changes metadata writes within.0 within.1 (omega (arith, same, l)) ∙ ap (λ n. Some (Full n)) same

    pub fits : (size : ℕ) → size ≡ log_size log + length missing → size + length changes + length (copies f w (with_ops log missing) changes) < 2 ^ 62 →
        append_refusal f (with_ops log missing) (raised f w commit_of (with_ops log missing) changes metadata) ≡ None
    fits size s l =
        let same : log_size (with_ops log missing) ≡ size = size_behind f w log missing ∙ sym s in
        short_enough f w commit_of has_floor no_commits (with_ops log missing) changes metadata writes within.0 within.1 (omega (arith, same, l))

    module _ (ops : List Op) (e : ops ≡ raised f w commit_of (with_ops log missing) changes metadata) where
      pub floor_left : log_floor f (with_ops (with_ops log missing) ops) ≡ next_floor f w (with_ops log missing) (changes ++ copies f w (with_ops log missing) changes)
      floor_left = ap (λ l. log_floor f (with_ops (with_ops log missing) l)) e ∙ floor_is f w commit_of has_floor no_commits (with_ops log missing) changes metadata below

      pub law : Raises f w (with_ops log missing) changes ops
      law = subst (Raises f w (with_ops log missing) changes) (sym e) (raises f w commit_of has_floor no_commits (with_ops log missing) changes metadata below)
