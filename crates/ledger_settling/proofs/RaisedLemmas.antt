-- What holds of the operations that a batch with a rising floor appends, and how many they are.
use Rattle.std.proofs.Common.{◌≡◌, ℕ, zero, suc, ◌+◌, ◌*◌, ◌≤◌, Bool, true, false, cond, nat_le, List, [], ◌∷◌, ◌++◌, length, map, take, filter, None, arith, length-append}
use Rattle.std.specs.Prelude.{nat_lt}
use Rattle.std.specs.List.{AllByRecursion}
use Rattle.std.proofs.lemmas.List.{length-map}
use Rattle.ledger_log.specs.Active.{counts, living}
use Rattle.ledger_log.specs.Any.{any_floor, any_write, any_commit, any_commit_has_floor}
use Rattle.ledger_log.specs.View.{LogView, log_floor, log_size}
use Rattle.ledger_log.specs.declared.any.AnyOp.{AnyOp}
use Rattle.ledger_log.specs.declared.any.AnyOp.TheVariants.{CommitFloor}
use Rattle.ledger_raising.specs.Raised.{copies, counting, next_floor, raised, Raises}
use Rattle.ledger_raising.specs.Updates.{no_commit}
use Rattle.ledger_raising.proofs.Laws.{raises}

module _ {X : Type 0} (P : X → Type 0) where
  pub all_append : (xs ys : List X) → AllByRecursion P xs → AllByRecursion P ys → AllByRecursion P (xs ++ ys)
  all_append [] ys h k = k
  all_append (x ∷ xs) ys h k = (h.0, all_append xs ys h.1 k)

  all_filter : (p : X → Bool) (xs : List X) → AllByRecursion P xs → AllByRecursion P (filter p xs)
  all_filter p [] h = tt
  all_filter p (x ∷ xs) h = by (p x) (all_filter p xs h.1)
    where
      by : (b : Bool) → AllByRecursion P (filter p xs) → AllByRecursion P (cond b (x ∷ filter p xs) (filter p xs))
      by true r = (h.0, r)
      by false r = r

  all_take : (n : ℕ) (xs : List X) → AllByRecursion P xs → AllByRecursion P (take n xs)
  all_take zero xs h = tt
  all_take (suc n) [] h = tt
  all_take (suc n) (x ∷ xs) h = (h.0, all_take n xs h.1)

module _ (P : AnyOp → Type 0) where
  -- what holds of an operation, said of it with its place
  abbrev At : ℕ × AnyOp → Type 0
  At e = P e.1

  all_ops : (es : List (ℕ × AnyOp)) → AllByRecursion At es → AllByRecursion P (map (λ e. e.1) es)
  all_ops [] h = tt
  all_ops (e ∷ es) h = (h.0, all_ops es h.1)

  all_living : (start : ℕ) (ops : List AnyOp) → AllByRecursion P ops → AllByRecursion At (living any_write start ops)
  all_living start [] h = tt
  all_living start (op ∷ ops) h = by (counts any_write (any_write op) ops) (all_living (start + 1) ops h.1)
    where
      by : (b : Bool) → AllByRecursion At (living any_write (start + 1) ops) → AllByRecursion At (cond b ((start, op) ∷ living any_write (start + 1) ops) (living any_write (start + 1) ops))
      by true r = (h.0, r)
      by false r = r

  module _ (log : LogView AnyOp) (changes : List AnyOp) where
    -- what holds of each operation and each change holds of each copy
    all_copies : AllByRecursion P log.ops → AllByRecursion P changes → AllByRecursion P (copies any_floor any_write log changes)
    all_copies h k =
        let from : ℕ × AnyOp → Bool = λ e. nat_le (log_floor any_floor log) e.0 in
        let below : ℕ × AnyOp → Bool = λ e. nat_lt e.0 (log_size log) in
        let both : AllByRecursion P (log.ops ++ changes) = all_append P log.ops changes h k in
        all_ops (take (length changes) (filter (λ e. nat_lt e.0 (log_size log)) (counting any_floor any_write log changes)))
        (all_take At (length changes) (filter (λ e. nat_lt e.0 (log_size log)) (counting any_floor any_write log changes))
        (all_filter At (λ e. nat_lt e.0 (log_size log)) (counting any_floor any_write log changes)
        (all_filter At (λ e. nat_le (log_floor any_floor log) e.0) (living any_write log.front (log.ops ++ changes)) (all_living log.front (log.ops ++ changes) both))))

    -- what holds of each operation, each change and each commit holds of all behind the batch
    pub raised_all : AllByRecursion P log.ops → AllByRecursion P changes → ((floor : ℕ) → P (CommitFloor None floor)) → AllByRecursion P (log.ops ++ raised any_floor any_write any_commit log changes None)
    raised_all h k commits =
        let behind : List AnyOp = changes ++ copies any_floor any_write log changes in
        all_append P log.ops (raised any_floor any_write any_commit log changes None) h
        (all_append P behind (any_commit None (next_floor any_floor any_write log behind) ∷ []) (all_append P changes (copies any_floor any_write log changes) k (all_copies h k)) (commits (next_floor any_floor any_write log behind), tt))

take_most : {X : Type 0} (n : ℕ) (xs : List X) → length (take n xs) ≤ n
take_most zero xs = omega arith
take_most (suc n) [] = omega arith
take_most (suc n) (x ∷ xs) = omega (arith, take_most n xs)

module _ (log : LogView AnyOp) (changes : List AnyOp) where
  -- no more copies than changes
  pub copies_short : length (copies any_floor any_write log changes) ≤ length changes
  copies_short =
      let found = filter (λ (e : ℕ × AnyOp). nat_lt e.0 (log_size log)) (counting any_floor any_write log changes) in
      let one : length (copies any_floor any_write log changes) ≡ length (take (length changes) found) = length-map (take (length changes) found) (λ e. e.1) in
      let two : length (take (length changes) found) ≤ length changes = take_most (length changes) found in
      omega (arith, one, two)

  -- how long the operations are behind the batch
  pub appended_short : length (log.ops ++ raised any_floor any_write any_commit log changes None) ≤ length log.ops + (1 + 2 * length changes)
  appended_short =
      let kept = copies any_floor any_write log changes in
      let batch = raised any_floor any_write any_commit log changes None in
      let floor = next_floor any_floor any_write log (changes ++ kept) in
      let one : length (changes ++ kept) ≡ length changes + length kept = length-append changes kept in
      let two : length batch ≡ length (changes ++ kept) + 1 = length-append (changes ++ kept) (any_commit None floor ∷ []) in
      let three : length (log.ops ++ batch) ≡ length log.ops + length batch = length-append log.ops batch in
      few (length (log.ops ++ batch)) (length log.ops) (length batch) (length (changes ++ kept)) (length changes) (length kept) one two three copies_short
    where
      few : (g n b a c k : ℕ) → a ≡ c + k → b ≡ a + 1 → g ≡ n + b → k ≤ c → g ≤ n + (1 + 2 * c)
      few g n b a c k p q r s = omega (arith, p, q, r, s)

  -- the law of a batch with a rising floor
  pub batch_raises : log_floor any_floor log ≤ log_size log → Raises any_floor any_write log changes (raised any_floor any_write any_commit log changes None)
  batch_raises low = raises any_floor any_write any_commit any_commit_has_floor no_commit log changes None low
