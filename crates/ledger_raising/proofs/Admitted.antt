-- A log takes a batch that was raised over it, unless the log would be too long.
use Rattle.std.proofs.Common.{◌≡◌, ℕ, zero, suc, ◌+◌, ◌-◌, ◌^◌, ◌<◌, ◌≤◌, Bool, true, false, cond, nat_le, List, [], ◌∷◌, ◌++◌, length, take, map, filter, Option, Some, None, All, refl, sym, ap, subst, ◌∙◌, arith, length-append}
use Rattle.std.specs.Prelude.{is_some, is_none, IsSome, nat_lt, if◌then◌else◌}
use Rattle.std.proofs.lemmas.List.Elements.{All-head, All-tail}
use Rattle.std.proofs.lemmas.Bool.Decides.{nat_tests}
use Rattle.ledger_log.specs.View.{LogView, log_size, log_floor, batch_floor}
use Rattle.ledger_log.specs.Index.{last_write}
use Rattle.ledger_log.specs.Active.{counts, living}
use Rattle.ledger_log.specs.Faults.{batch_refusal, append_refusal}
use Rattle.ledger_log.specs.declared.fault.LogFault.{LogFault}
use Rattle.ledger_log.specs.declared.fault.LogFault.TheVariants.{Full}
use Rattle.ledger_raising.specs.Raised.{copies, next_floor, raised}

module _ {Op : Type 0} (f : Op → Option ℕ) where
  -- none of these is a commit
  abbrev pub NoCommit : List Op → Type 0
  NoCommit [] = Unit {0}
  NoCommit (x ∷ xs) = (f x ≡ None) × NoCommit xs

  no_commit_in_two : (xs ys : List Op) → NoCommit xs → NoCommit ys → NoCommit (xs ++ ys)
  no_commit_in_two [] ys h k = k
  no_commit_in_two (x ∷ xs) ys h k = (h.0, no_commit_in_two xs ys h.1 k)

  -- the floor of a batch is that of its only commit
  floor_of_batch : (xs : List Op) (c : Op) → NoCommit xs → batch_floor f (xs ++ c ∷ []) ≡ f c
  floor_of_batch [] c h = refl
  floor_of_batch (x ∷ []) c h = ap (λ o. cond (is_some o) None (f c)) h.0
  floor_of_batch (x ∷ y ∷ ys) c h = ap (λ o. cond (is_some o) None (batch_floor f (y ∷ (ys ++ c ∷ [])))) h.0 ∙ floor_of_batch (y ∷ ys) c h.1

  module _ (w : Op → Option (List ℕ × Option (List ℕ))) (no_commits : (op : Op) (write : List ℕ × Option (List ℕ)) → w op ≡ Some write → f op ≡ None) where
    write_or_none : (x : Op) (o : Option (List ℕ × Option (List ℕ))) → w x ≡ o → IsSome o → f x ≡ None
    write_or_none x None e s = absurd cc
    write_or_none x (Some write) e s = no_commits x write e

    -- operations that write keys
    pub writes_no_commit : (xs : List Op) → All (λ op. IsSome (w op)) xs → NoCommit xs
    writes_no_commit [] h = tt
    writes_no_commit (x ∷ xs) h = (write_or_none x (w x) refl (All-head (λ op. IsSome (w op)) x xs h), writes_no_commit xs (All-tail (λ op. IsSome (w op)) x xs h))

    -- what counts writes a key
    counts_some : (o : Option (List ℕ × Option (List ℕ))) (xs : List Op) → counts w o xs ≡ true → IsSome o
    counts_some None xs h = absurd cc
    counts_some (Some write) xs h = refl

    abbrev Pairs : List (ℕ × Op) → Type 0
    Pairs [] = Unit {0}
    Pairs (e ∷ es) = (f e.1 ≡ None) × Pairs es

    pairs_living : (start : ℕ) (xs : List Op) → Pairs (living w start xs)
    pairs_living start [] = tt
    pairs_living start (x ∷ xs) = by (counts w (w x) xs) refl (pairs_living (start + 1) xs) where
      by : (b : Bool) → counts w (w x) xs ≡ b → Pairs (living w (start + 1) xs) → Pairs (cond b ((start, x) ∷ living w (start + 1) xs) (living w (start + 1) xs))
      by true e h = (write_or_none x (w x) refl (counts_some (w x) xs e), h)
      by false e h = h

    pairs_filter : (q : ℕ × Op → Bool) (es : List (ℕ × Op)) → Pairs es → Pairs (filter q es)
    pairs_filter q [] h = tt
    pairs_filter q (e ∷ es) h = by (q e) (pairs_filter q es h.1) where
      by : (b : Bool) → Pairs (filter q es) → Pairs (cond b (e ∷ filter q es) (filter q es))
      by true k = (h.0, k)
      by false k = k

    pairs_take : (m : ℕ) (es : List (ℕ × Op)) → Pairs es → Pairs (take m es)
    pairs_take zero es h = tt
    pairs_take (suc m) [] h = tt
    pairs_take (suc m) (e ∷ es) h = (h.0, pairs_take m es h.1)

    pairs_are : (es : List (ℕ × Op)) → Pairs es → NoCommit (map (λ e. e.1) es)
    pairs_are [] h = tt
    pairs_are (e ∷ es) h = (h.0, pairs_are es h.1)

    -- copies are no commits
    pub copies_no_commit : (log : LogView Op) (changes : List Op) → NoCommit (copies f w log changes)
    copies_no_commit log changes =
        pairs_are (take (length changes) (filter (λ e. nat_lt e.0 (log_size log)) (filter (λ e. nat_le (log_floor f log) e.0) (living w log.front (log.ops ++ changes)))))
        (pairs_take (length changes) (filter (λ e. nat_lt e.0 (log_size log)) (filter (λ e. nat_le (log_floor f log) e.0) (living w log.front (log.ops ++ changes))))
        (pairs_filter (λ e. nat_lt e.0 (log_size log)) (filter (λ e. nat_le (log_floor f log) e.0) (living w log.front (log.ops ++ changes)))
        (pairs_filter (λ e. nat_le (log_floor f log) e.0) (living w log.front (log.ops ++ changes)) (pairs_living log.front (log.ops ++ changes)))))

-- why a log takes no batch whose floor fits
admitted : (size current count floor : ℕ) → current ≤ floor → floor + 1 ≤ size + count →
    batch_refusal size current count (Some floor) ≡ (if nat_le (size + count) (2 ^ 62) then None else Some (Full size))
admitted size current count floor l m =
    let least : nat_lt floor current ≡ false = grind (arith, nat_tests) in
    let most : nat_lt (size + count - 1) floor ≡ false = grind (arith, nat_tests) in
    rw (least, most) refl

module _ {Op : Type 0} (f : Op → Option ℕ) (w : Op → Option (List ℕ × Option (List ℕ))) (commit_of : Option (List ℕ) → ℕ → Op)
    (has_floor : (metadata : Option (List ℕ)) (floor : ℕ) → f (commit_of metadata floor) ≡ Some floor)
    (no_commits : (op : Op) (write : List ℕ × Option (List ℕ)) → w op ≡ Some write → f op ≡ None)
    (log : LogView Op) (changes : List Op) (metadata : Option (List ℕ)) (writes : All (λ op. IsSome (w op)) changes)
    (least : log_floor f log ≤ next_floor f w log (changes ++ copies f w log changes))
    (most : next_floor f w log (changes ++ copies f w log changes) ≤ log_size log + length (changes ++ copies f w log changes)) where
  behind : List Op
  behind = changes ++ copies f w log changes

  pub raised_floor : batch_floor f (raised f w commit_of log changes metadata) ≡ Some (next_floor f w log (changes ++ copies f w log changes))
  raised_floor =
      floor_of_batch f (changes ++ copies f w log changes) (commit_of metadata (next_floor f w log (changes ++ copies f w log changes)))
      (no_commit_in_two f changes (copies f w log changes) (writes_no_commit f w no_commits changes writes) (copies_no_commit f w no_commits log changes))
      ∙ has_floor metadata (next_floor f w log (changes ++ copies f w log changes))

  pub raised_length : length (raised f w commit_of log changes metadata) ≡ length changes + length (copies f w log changes) + 1
  raised_length =
      length-append (changes ++ copies f w log changes) (commit_of metadata (next_floor f w log (changes ++ copies f w log changes)) ∷ [])
      ∙ ap (λ n. n + 1) (length-append changes (copies f w log changes))

  pub raised_refusal : append_refusal f log (raised f w commit_of log changes metadata)
      ≡ (if nat_le (log_size log + length (raised f w commit_of log changes metadata)) (2 ^ 62) then None else Some (Full (log_size log)))
  raised_refusal =
      ap (batch_refusal (log_size log) (log_floor f log) (length (raised f w commit_of log changes metadata))) raised_floor
      ∙ admitted (log_size log) (log_floor f log) (length (raised f w commit_of log changes metadata)) (next_floor f w log (changes ++ copies f w log changes)) least
      (omega (arith, most, raised_length, length-append changes (copies f w log changes)))

  -- the log would be too long
  pub too_long : 2 ^ 62 ≤ log_size log + length changes + length (copies f w log changes) → append_refusal f log (raised f w commit_of log changes metadata) ≡ Some (Full (log_size log))
  too_long l =
      let t : nat_le (log_size log + length (raised f w commit_of log changes metadata)) (2 ^ 62) ≡ false = grind (arith, nat_tests, raised_length) in
      raised_refusal ∙ ap (λ b. if b then None else Some (Full (log_size log))) t

  -- it wouldn't
  pub short_enough : log_size log + length changes + length (copies f w log changes) < 2 ^ 62 → append_refusal f log (raised f w commit_of log changes metadata) ≡ None
  short_enough l =
      let t : nat_le (log_size log + length (raised f w commit_of log changes metadata)) (2 ^ 62) ≡ true = grind (arith, nat_tests, raised_length) in
      raised_refusal ∙ ap (λ b. if b then None else Some (Full (log_size log))) t
