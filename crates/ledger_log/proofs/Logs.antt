use Rattle.std.proofs.Common.{◌≡◌, ℕ, zero, suc, ◌+◌, ◌-◌, ◌≤◌, List, [], ◌∷◌, ◌++◌, length, take, drop, map, refl, sym, ap, ◌∙◌, arith}
use Rattle.std.proofs.lemmas.List.{drop-drop, length-map, length-drop, length-take-le, map-append, take-append-drop}
use Rattle.ledger_merkle.specs.Tree.{leaf, grow, root}
use Rattle.ledger_merkle.specs.Leaves.{ListView, leaves_from, pushed, list_size, list_root, peaks_at, root_at}
use Rattle.ledger_merkle.proofs.Levels.{root_is_part, pushed_leaves, length-leaves_from}
use Rattle.ledger_merkle.proofs.Growing.{grow-append}
use Rattle.ledger_merkle.proofs.Cut.{leaves_from-append}
use Rattle.ledger_merkle.specs.Levels.{without, KeptFrom, proof_digests}
use Rattle.ledger_log.specs.View.{LogView, log_size, log_root, log_list, log_peaks_at, log_root_at, log_range, KeptAbove}

take_leaves : (hash : List ℕ → List ℕ) (c n : ℕ) (xs : List (List ℕ)) → take c (leaves_from hash n xs) ≡ leaves_from hash n (take c xs)
take_leaves hash zero n xs = refl
take_leaves hash (suc c) n [] = refl
take_leaves hash (suc c) n (x ∷ xs) = ap (λ l. leaf hash n x ∷ l) (take_leaves hash c (n + 1) xs)

drop_leaves : (hash : List ℕ → List ℕ) (c n : ℕ) (xs : List (List ℕ)) → drop c (leaves_from hash n xs) ≡ leaves_from hash (n + c) (drop c xs)
drop_leaves hash zero n xs = ap (λ k. leaves_from hash k xs) (omega arith)
drop_leaves hash (suc c) n [] = refl
drop_leaves hash (suc c) n (x ∷ xs) = drop_leaves hash c (n + 1) xs ∙ ap (λ k. leaves_from hash k (drop c xs)) (omega arith)

take_map : {A : Type 0} (f : A → List ℕ) (c : ℕ) (xs : List A) → take c (map f xs) ≡ map f (take c xs)
take_map f zero xs = refl
take_map f (suc c) [] = refl
take_map f (suc c) (x ∷ xs) = ap (λ l. f x ∷ l) (take_map f c xs)

drop_map : {A : Type 0} (f : A → List ℕ) (c : ℕ) (xs : List A) → drop c (map f xs) ≡ map f (drop c xs)
drop_map f zero xs = refl
drop_map f (suc c) [] = refl
drop_map f (suc c) (x ∷ xs) = drop_map f c xs

module _ {Op : Type 0} (hash : List ℕ → List ℕ) (spelling : Op → List ℕ) (log : LogView Op) where
  -- the leaves of a log are as many as its operations
  pub length-log_list : list_size (log_list hash spelling log) ≡ log_size log
  length-log_list = ap (λ k. log.front + k) (length-leaves_from hash log.front (map spelling log.ops) ∙ length-map log.ops spelling)

  -- the root of a log is that of its leaves
  pub root_of_log : list_root hash (log_list hash spelling log) ≡ log_root hash spelling log
  root_of_log =
      root_is_part hash (log_list hash spelling log) (map spelling log.ops) refl
      ∙ ap (λ n. root hash (log.front + n) (grow hash log.front log.pinned (map spelling log.ops))) (length-map log.ops spelling)

  -- the peaks of its first operations are those of the first leaves
  pub peaks_of_log : (at : ℕ) → peaks_at hash (log_list hash spelling log) at ≡ log_peaks_at hash spelling log at
  peaks_of_log at =
      ap (pushed hash log.front log.pinned) (take_leaves hash (at - log.front) log.front (map spelling log.ops) ∙ ap (leaves_from hash log.front) (take_map spelling (at - log.front) log.ops))
      ∙ pushed_leaves hash log.front log.pinned (map spelling (take (at - log.front) log.ops))

  pub root_of_first : (at : ℕ) → root_at hash (log_list hash spelling log) at ≡ log_root_at hash spelling log at
  root_of_first at = ap (root hash at) (peaks_of_log at)

  -- the leaves of a range
  pub leaves_of_range : (start count : ℕ) → log.front ≤ start → leaves_from hash start (map spelling (log_range log start count)) ≡ take count (drop (start - log.front) (leaves_from hash log.front (map spelling log.ops)))
  leaves_of_range start count l =
      let n : log.front + (start - log.front) ≡ start = omega arith in
      sym (ap (take count) (drop_leaves hash (start - log.front) log.front (map spelling log.ops)
      ∙ (ap (leaves_from hash (log.front + (start - log.front))) (drop_map spelling (start - log.front) log.ops)
      ∙ ap (λ k. leaves_from hash k (map spelling (drop (start - log.front) log.ops))) n))
      ∙ (take_leaves hash count start (map spelling (drop (start - log.front) log.ops)) ∙ ap (leaves_from hash start) (take_map spelling count (drop (start - log.front) log.ops))))

  -- the leaves from a later place on
  pub leaves_below : (loc : ℕ) → log.front ≤ loc → drop (loc - log.front) (leaves_from hash log.front (map spelling log.ops)) ≡ leaves_from hash loc (map spelling (drop (loc - log.front) log.ops))
  leaves_below loc l =
      let n : log.front + (loc - log.front) ≡ loc = omega arith in
      drop_leaves hash (loc - log.front) log.front (map spelling log.ops)
      ∙ (ap (leaves_from hash (log.front + (loc - log.front))) (drop_map spelling (loc - log.front) log.ops)
      ∙ ap (λ k. leaves_from hash k (map spelling (drop (loc - log.front) log.ops))) n)

  -- the leaves of more operations
  pub leaves_more : (more : List Op) (size : ℕ) → size ≡ log_size log →
      leaves_from hash log.front (map spelling log.ops) ++ leaves_from hash size (map spelling more) ≡ leaves_from hash log.front (map spelling (log.ops ++ more))
  leaves_more more size e =
      let n : size ≡ log.front + length (map spelling log.ops) = e ∙ sym (ap (λ k. log.front + k) (length-map log.ops spelling)) in
      ap (λ k. leaves_from hash log.front (map spelling log.ops) ++ leaves_from hash k (map spelling more)) n
      ∙ sym (ap (leaves_from hash log.front) (map-append spelling log.ops more) ∙ leaves_from-append hash log.front (map spelling log.ops) (map spelling more))

  -- a log without its first operations
  pub view_below : (loc : ℕ) (v new : ListView) (left : List Op) → v ≡ log_list hash spelling log → new ≡ record { front = loc; pinned = peaks_at hash v loc; leaves = drop (loc - v.front) v.leaves } →
      left ≡ drop (loc - log.front) log.ops → ◌≡◌ {A = LogView Op} (record { front = new.front; pinned = new.pinned; ops = left }) (record { front = loc; pinned = log_peaks_at hash spelling log loc; ops = drop (loc - log.front) log.ops })
  view_below loc v new left e n o =
      let f : new.front ≡ loc = ap (λ (x : ListView). x.front) n in
      let p : new.pinned ≡ log_peaks_at hash spelling log loc = ap (λ (x : ListView). x.pinned) n ∙ (ap (λ (x : ListView). peaks_at hash x loc) e ∙ peaks_of_log loc) in
      rw (f, p, o) refl

  -- a log without its first operations has the root that it had
  pub root_below : (loc : ℕ) → log.front ≤ loc → loc ≤ log_size log →
      log_root hash spelling (record { front = loc; pinned = log_peaks_at hash spelling log loc; ops = drop (loc - log.front) log.ops }) ≡ log_root hash spelling log
  root_below loc l m =
      let c = loc - log.front in
      let first = map spelling (take c log.ops) in
      let rest = map spelling (drop c log.ops) in
      let size : loc + length (drop c log.ops) ≡ log_size log = omega (arith, length-drop c log.ops) in
      let at : loc ≡ log.front + length first = omega (arith, length-map (take c log.ops) spelling, length-take-le c log.ops (omega arith)) in
      let peaks : grow hash loc (log_peaks_at hash spelling log loc) rest ≡ grow hash log.front log.pinned (map spelling log.ops) =
      ap (λ k. grow hash k (log_peaks_at hash spelling log loc) rest) at
      ∙ (sym (grow-append hash log.front log.pinned first rest)
      ∙ (ap (grow hash log.front log.pinned) (sym (map-append spelling (take c log.ops) (drop c log.ops))) ∙ ap (λ z. grow hash log.front log.pinned (map spelling z)) (take-append-drop c log.ops))) in
      ap (λ k. root hash k (grow hash loc (log_peaks_at hash spelling log loc) rest)) size ∙ ap (root hash (log_size log)) peaks

module _ {Op : Type 0} (hash : List ℕ → List ℕ) (spelling : Op → List ℕ) (log : LogView Op) (loc : ℕ) (least : log.front ≤ loc)
    (v new : ListView) (same : v ≡ log_list hash spelling log) (is : new ≡ without hash loc v) (left : List Op) (rest : left ≡ drop (loc - log.front) log.ops) where
  abbrev later : LogView Op
  later = record { front = new.front; pinned = new.pinned; ops = left }

  new_front : new.front ≡ loc
  new_front = ap (λ (x : ListView). x.front) is

  -- the leaves of the log that is left
  later_list : log_list hash spelling later ≡ new
  later_list =
      let here : drop (loc - v.front) v.leaves ≡ leaves_from hash loc (map spelling (drop (loc - log.front) log.ops)) =
      ap (λ (x : ListView). drop (loc - x.front) x.leaves) same ∙ leaves_below hash spelling log loc least in
      let leaves : new.leaves ≡ leaves_from hash new.front (map spelling left) =
      ap (λ (x : ListView). x.leaves) is ∙ (here ∙ (ap (λ k. leaves_from hash k (map spelling (drop (loc - log.front) log.ops))) (sym new_front) ∙ ap (λ z. leaves_from hash new.front (map spelling z)) (sym rest))) in
      ap (λ z. record { front = new.front; pinned = new.pinned; leaves = z }) (sym leaves)

  -- what it answers from its front on is what the log answered
  pub kept_above : KeptFrom hash loc v new → KeptAbove hash spelling log later
  kept_above k = record {
    nodes = λ at l m.
        sym (peaks_of_log hash spelling later at)
        ∙ (ap (λ x. peaks_at hash x at) later_list
        ∙ (k.peaks at (within at l) (most at m)
        ∙ (ap (λ x. peaks_at hash x at) same ∙ peaks_of_log hash spelling log at)));
    ranges = λ start count l.
        ap (λ z. take count (drop (start - new.front) z)) rest
        ∙ ap (take count) (ap (λ i. drop (start - i) (drop (loc - log.front) log.ops)) new_front ∙ (drop-drop (start - loc) (loc - log.front) log.ops ∙ ap (λ i. drop i log.ops) (sum start (within start l))));
    proofs = λ n start count l w m.
        ap (λ x. proof_digests hash x n start count) later_list
        ∙ (k.proofs n start count (within start l) w (most n m)
        ∙ ap (λ x. proof_digests hash x n start count) same);
  } where
    within : (at : ℕ) → new.front ≤ at → loc ≤ at
    within at l = omega (arith, new_front)

    most : (at : ℕ) → at ≤ log_size log → at ≤ list_size v
    most at m = omega (arith, ap list_size same, length-log_list hash spelling log)

    sum : (start : ℕ) → loc ≤ start → (loc - log.front) + (start - loc) ≡ start - log.front
    sum start l = omega arith
