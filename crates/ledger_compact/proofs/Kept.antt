use Rattle.std.proofs.Common.{◌≡◌, ℕ, ◌+◌, ◌-◌, ◌≤◌, List, [], ◌∷◌, ◌++◌, length, take, map, Option, Some, None, option_map, unwrap_or, refl, sym, ap, ◌∙◌, arith}
use Rattle.std.proofs.lemmas.List.{length-append, length_push, take_all}
use Rattle.ledger_merkle.specs.Tree.{grow}
use Rattle.ledger_log.specs.View.{LogView, log_size, log_root, log_floor, log_peaks_at, floor_or_zero, last_floor, batch_floor}
use Rattle.ledger_log.specs.Faults.{append_refusal, batch_refusal}
use Rattle.ledger_log.proofs.Floors.{grow_ops}
use Rattle.ledger_compact.specs.View.{CompactView, last_op, but_last, kept_of, compact_of, with_batch, with_ops, compact_root}
use Rattle.ledger_compact.specs.Refusals.{compact_refusal}
use Rattle.ledger_compact.proofs.Ends.{last_of_push, front_of_push, last_more, front_more, last_floor-is}

module _ {Op : Type 0} where
  pub same_view : (a b : CompactView Op) → a.size ≡ b.size → a.nodes ≡ b.nodes → a.before ≡ b.before → a.last ≡ b.last → a ≡ b
  same_view a b p q r s =
      ap (λ (k : ℕ). let x : CompactView Op = record { size = k; nodes = a.nodes; before = a.before; last = a.last } in x) p
      ∙ (ap (λ (k : List (List ℕ)). let x : CompactView Op = record { size = b.size; nodes = k; before = a.before; last = a.last } in x) q
      ∙ (ap (λ (k : List (List ℕ)). let x : CompactView Op = record { size = b.size; nodes = b.nodes; before = k; last = a.last } in x) r
      ∙ ap (λ (k : Op). let x : CompactView Op = record { size = b.size; nodes = b.nodes; before = b.before; last = k } in x) s))

module _ {Op : Type 0} (hash : List ℕ → List ℕ) (spelling : Op → List ℕ) (log : LogView Op) (c : CompactView Op) (e : compact_of hash spelling log ≡ Some c) where
  found : (o : Option Op) → last_op log.ops ≡ o → option_map (kept_of hash spelling log) o ≡ Some c → (l : Op) × (last_op log.ops ≡ Some l) × (c ≡ kept_of hash spelling log l)
  found None p q = absurd cc
  found (Some l) p q = let s : kept_of hash spelling log l ≡ c = cc in (l, p, sym s)

  -- what is kept is of the log's last operation
  pub kept_from : (l : Op) × (last_op log.ops ≡ Some l) × (c ≡ kept_of hash spelling log l)
  kept_from = found (last_op log.ops) refl e

  pub kept_size : c.size ≡ log_size log
  kept_size = ap (λ (x : CompactView Op). x.size) kept_from.2

  pub kept_root : compact_root hash c ≡ log_root hash spelling log
  kept_root = ap (compact_root hash) kept_from.2

  kept_last_floor : (f : Op → Option ℕ) → f c.last ≡ last_floor f log.ops
  kept_last_floor f = ap (λ (x : CompactView Op). f x.last) kept_from.2 ∙ sym (last_floor-is f log.ops kept_from.0 kept_from.1)

  pub kept_floor : (f : Op → Option ℕ) → floor_or_zero (f c.last) ≡ log_floor f log
  kept_floor f = ap floor_or_zero (kept_last_floor f)

  -- both refuse the same batches, and for the same faults
  pub kept_refusal : (f : Op → Option ℕ) (ops : List Op) → compact_refusal f c ops ≡ append_refusal f log ops
  kept_refusal f ops =
      ap (λ k. batch_refusal k (floor_or_zero (f c.last)) (length ops) (batch_floor f ops)) kept_size
      ∙ ap (λ k. batch_refusal (log_size log) k (length ops) (batch_floor f ops)) (kept_floor f)

  -- and both hold the same behind a batch
  pub kept_more : (ops others : List Op) (last : Op) → ops ≡ others ++ last ∷ [] → compact_of hash spelling (with_ops log ops) ≡ Some (with_batch hash spelling c ops)
  kept_more ops others last i =
      let l = kept_from.0 in
      let end : last_op (log.ops ++ ops) ≡ Some last = ap (λ z. last_op (log.ops ++ z)) i ∙ last_more log.ops others last in
      let own : last_op ops ≡ Some last = ap last_op i ∙ last_of_push others last in
      let rest : but_last ops ≡ others = ap but_last i ∙ front_of_push others last in
      let size : log.front + length (log.ops ++ ops) ≡ log.front + length log.ops + length ops = omega (arith, length-append log.ops ops) in
      let before : but_last (log.ops ++ ops) ≡ log.ops ++ but_last ops = ap (λ z. but_last (log.ops ++ z)) i ∙ (front_more log.ops others last ∙ ap (λ z. log.ops ++ z) (sym rest)) in
      let kept : kept_of hash spelling (with_ops log ops) last ≡ with_batch hash spelling (kept_of hash spelling log l) ops =
      same_view (kept_of hash spelling (with_ops log ops) last) (with_batch hash spelling (kept_of hash spelling log l) ops)
      size
      (grow_ops hash spelling log.front log.pinned log.ops ops)
      (ap (λ z. grow hash log.front log.pinned (map spelling z)) before ∙ grow_ops hash spelling log.front log.pinned log.ops (but_last ops))
      (sym (ap (λ o. unwrap_or o l) own)) in
      ap (option_map (kept_of hash spelling (with_ops log ops))) end
      ∙ (ap Some kept ∙ ap (λ (x : CompactView Op). Some (with_batch hash spelling x ops)) (sym kept_from.2))

module _ {Op : Type 0} (hash : List ℕ → List ℕ) (spelling : Op → List ℕ) (log : LogView Op) (last : Op) (e : last_op log.ops ≡ Some last) where
  -- what is kept of a log, by the peaks that it gives
  pub kept_is : compact_of hash spelling log ≡ Some (kept_of hash spelling log last)
  kept_is = ap (option_map (kept_of hash spelling log)) e

  pub peaks_all : (at : ℕ) → at ≡ log_size log → log_peaks_at hash spelling log at ≡ grow hash log.front log.pinned (map spelling log.ops)
  peaks_all at i = ap (λ z. grow hash log.front log.pinned (map spelling z)) (take_all (at - log.front) log.ops (omega arith))

  pub peaks_before : (at : ℕ) → at + 1 ≡ log_size log → log.front ≤ at → log_peaks_at hash spelling log at ≡ grow hash log.front log.pinned (map spelling (but_last log.ops))
  peaks_before at i l = let few : at - log.front ≡ length log.ops - 1 = omega arith in ap (λ k. grow hash log.front log.pinned (map spelling (take k log.ops))) few

module _ {Op : Type 0} (hash : List ℕ → List ℕ) (spelling : Op → List ℕ) where
  -- a compact log with a batch, by its parts
  pub grown_view : (old : CompactView Op) (ops others : List Op) (last : Op) (size : ℕ) (nodes before : List (List ℕ)) → ops ≡ others ++ last ∷ [] →
      size ≡ old.size + length others + 1 → nodes ≡ grow hash old.size old.nodes (map spelling (others ++ last ∷ [])) → before ≡ grow hash old.size old.nodes (map spelling others) →
      ◌≡◌ {A = CompactView Op} (record { size = size; nodes = nodes; before = before; last = last }) (with_batch hash spelling old ops)
  grown_view old ops others last size nodes before i s g b =
      let rest : but_last ops ≡ others = ap but_last i ∙ front_of_push others last in
      let own : last_op ops ≡ Some last = ap last_op i ∙ last_of_push others last in
      let long : length ops ≡ length others + 1 = ap length i ∙ length_push others last in
      same_view (record { size = size; nodes = nodes; before = before; last = last }) (with_batch hash spelling old ops)
      (omega arith)
      (g ∙ ap (λ z. grow hash old.size old.nodes (map spelling z)) (sym i))
      (b ∙ ap (λ z. grow hash old.size old.nodes (map spelling z)) (sym rest))
      (sym (ap (λ o. unwrap_or o old.last) own))
