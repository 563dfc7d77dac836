-- What a raised batch leaves as it was.
use Rattle.std.proofs.Common.{◌≡◌, ℕ, zero, suc, ◌+◌, ◌<◌, ◌≤◌, Bool, true, false, nat_le, List, [], ◌∷◌, ◌++◌, length, take, map, filter, Option, Some, None, All, refl, sym, ap, subst, ◌∙◌, arith, append_assoc, length-append}
use Rattle.std.specs.Prelude.{IsSome, nat_lt}
use Rattle.ledger_log.specs.View.{LogView, log_size, log_floor, floor_or_zero, last_floor, value_at, written_at}
use Rattle.ledger_log.specs.Active.{living, living_from, active}
use Rattle.ledger_log.proofs.Floors.{last_floor-append}
use Rattle.ledger_compact.specs.View.{with_ops}
use Rattle.ledger_raising.specs.Raised.{first_place, counting, copies, next_floor, raised, FloorSound, Raises}
use Rattle.ledger_raising.proofs.Rising.{Least, From, from_living, least_floor, least_more, least_of_all, all_of_least, living_before_commit, place_within}
use Rattle.ledger_raising.proofs.Replay.{Agree, agree_filter, agree_take, living_agrees, same_value}

module _ {Op : Type 0} (f : Op → Option ℕ) (w : Op → Option (List ℕ × Option (List ℕ))) where
  -- the new floor lies between the old one and the place behind all
  pub floor_within : (log : LogView Op) (ops : List Op) → log_floor f log ≤ log_size log → (log_floor f log ≤ next_floor f w log ops) × (next_floor f w log ops ≤ log_size log + length ops)
  floor_within log ops low =
      place_within w (log_floor f log) log.front (log_size log + length ops) (log.ops ++ ops) (omega (arith, length-append log.ops ops)) (omega (arith, low))

  -- with batches behind the log
  pub counting_behind : (log : LogView Op) (missing ops : List Op) (loc : ℕ) → living_from w (with_ops log missing) ops loc ≡ living_from w log (missing ++ ops) loc
  counting_behind log missing ops loc = ap (λ l. filter (λ e. nat_le loc e.0) (living w log.front l)) (append_assoc log.ops missing ops)

  pub size_behind : (log : LogView Op) (missing : List Op) → log_size (with_ops log missing) ≡ log_size log + length missing
  size_behind log missing = omega (arith, length-append log.ops missing)

  module _ (commit_of : Option (List ℕ) → ℕ → Op)
      (has_floor : (metadata : Option (List ℕ)) (floor : ℕ) → f (commit_of metadata floor) ≡ Some floor)
      (no_commits : (op : Op) (write : List ℕ × Option (List ℕ)) → w op ≡ Some write → f op ≡ None)
      (log : LogView Op) (changes : List Op) (metadata : Option (List ℕ)) (low : log_floor f log ≤ log_size log) where
    behind : List Op
    behind = changes ++ copies f w log changes

    new_floor : ℕ
    new_floor = next_floor f w log (changes ++ copies f w log changes)

    commit : Op
    commit = commit_of metadata (next_floor f w log (changes ++ copies f w log changes))

    -- a commit writes no key
    commit_writes_none : w (commit_of metadata (next_floor f w log (changes ++ copies f w log changes))) ≡ None
    commit_writes_none = by (w (commit_of metadata (next_floor f w log (changes ++ copies f w log changes)))) refl where
      by : (o : Option (List ℕ × Option (List ℕ))) → w (commit_of metadata (next_floor f w log (changes ++ copies f w log changes))) ≡ o → o ≡ None
      by None e = refl
      by (Some write) e =
          absurd (differ (no_commits (commit_of metadata (next_floor f w log (changes ++ copies f w log changes))) write e) (has_floor metadata (next_floor f w log (changes ++ copies f w log changes)))) where
            differ : {o : Option ℕ} {n : ℕ} → o ≡ None → o ≡ Some n → ⊥
            differ a b = absurd cc

    -- the whole log, in the order of its parts
    parts : log.ops ++ raised f w commit_of log changes metadata ≡ (log.ops ++ (changes ++ copies f w log changes)) ++ commit_of metadata (next_floor f w log (changes ++ copies f w log changes)) ∷ []
    parts = sym (append_assoc log.ops (changes ++ copies f w log changes) (commit_of metadata (next_floor f w log (changes ++ copies f w log changes)) ∷ []))

    pub floor_is : log_floor f (with_ops log (raised f w commit_of log changes metadata)) ≡ next_floor f w log (changes ++ copies f w log changes)
    floor_is =
        ap (λ l. floor_or_zero (last_floor f l)) parts
        ∙ ap floor_or_zero (last_floor-append f (log.ops ++ (changes ++ copies f w log changes)) (commit_of metadata (next_floor f w log (changes ++ copies f w log changes))) [] ∙ has_floor metadata (next_floor f w log (changes ++ copies f w log changes)))

    replayed : (key : List ℕ) → value_at w key (log.ops ++ raised f w commit_of log changes metadata) ≡ value_at w key (log.ops ++ changes)
    replayed key =
        ap (value_at w key) (parts ∙ ap (λ l. l ++ commit_of metadata (next_floor f w log (changes ++ copies f w log changes)) ∷ []) (sym (append_assoc log.ops changes (copies f w log changes))))
        ∙ same_value w key (log.ops ++ changes) (take (length changes) (filter (λ e. nat_lt e.0 (log_size log)) (counting f w log changes))) (commit_of metadata (next_floor f w log (changes ++ copies f w log changes))) commit_writes_none
        (agree_take (λ op. written_at key (w op)) _ (length changes) (filter (λ e. nat_lt e.0 (log_size log)) (counting f w log changes))
        (agree_filter (λ op. written_at key (w op)) _ (λ e. nat_lt e.0 (log_size log)) (counting f w log changes)
        (agree_filter (λ op. written_at key (w op)) _ (λ e. nat_le (log_floor f log) e.0) (living w log.front (log.ops ++ changes)) (living_agrees w key log.front (log.ops ++ changes)))))

    sound : FloorSound f w log → FloorSound f w (with_ops log (raised f w commit_of log changes metadata))
    sound h =
        let before : Least (log_floor f log) (living w log.front log.ops) = least_of_all (log_floor f log) (living w log.front log.ops) h in
        let more : Least (log_floor f log) (living w log.front (log.ops ++ (changes ++ copies f w log changes))) = least_more w (log_floor f log) log.front log.ops (changes ++ copies f w log changes) low before in
        let raised_least : Least (next_floor f w log (changes ++ copies f w log changes)) (living w log.front (log.ops ++ (changes ++ copies f w log changes))) =
        least_floor (log_floor f log) (log_size log + length (changes ++ copies f w log changes)) log.front (living w log.front (log.ops ++ (changes ++ copies f w log changes))) more (from_living w log.front (log.ops ++ (changes ++ copies f w log changes))) in
        let same : living w log.front (log.ops ++ raised f w commit_of log changes metadata) ≡ living w log.front (log.ops ++ (changes ++ copies f w log changes)) =
        ap (living w log.front) parts ∙ living_before_commit w (commit_of metadata (next_floor f w log (changes ++ copies f w log changes))) commit_writes_none log.front (log.ops ++ (changes ++ copies f w log changes)) in
        let placed : All (λ place. next_floor f w log (changes ++ copies f w log changes) ≤ place) (map (λ e. e.0) (living w log.front (log.ops ++ raised f w commit_of log changes metadata))) =
        all_of_least (next_floor f w log (changes ++ copies f w log changes)) (living w log.front (log.ops ++ raised f w commit_of log changes metadata)) (subst (λ l. Least (next_floor f w log (changes ++ copies f w log changes)) l) (sym same) raised_least) in
        subst (λ n. All (λ place. n ≤ place) (map (λ e. e.0) (living w log.front (log.ops ++ raised f w commit_of log changes metadata)))) (sym floor_is) placed

    -- what is said of a raised batch holds
    pub raises : Raises f w log changes (raised f w commit_of log changes metadata)
    raises = record {
      replay = replayed;
      least = subst (λ n. log_floor f log ≤ n) (sym floor_is) ((floor_within log (changes ++ copies f w log changes) low).0);
      most = omega (arith, floor_is, (floor_within log (changes ++ copies f w log changes) low).1, length-append log.ops (raised f w commit_of log changes metadata), length-append (changes ++ copies f w log changes) (commit_of metadata (next_floor f w log (changes ++ copies f w log changes)) ∷ []));
      sound = sound;
    }
