-- The root of a log with operations behind it.
use Rattle.std.proofs.Common.{◌≡◌, ℕ, ◌+◌, ◌-◌, ◌≤◌, List, ◌++◌, length, take, map, refl, sym, ap, ◌∙◌, arith, length-append}
use Rattle.std.proofs.lemmas.List.{take_all}
use Rattle.ledger_merkle.specs.Tree.{root, grow}
use Rattle.ledger_log.specs.View.{LogView, log_size, log_root, log_peaks_at}
use Rattle.ledger_log.proofs.Floors.{grow_ops}
use Rattle.ledger_compact.specs.View.{with_ops}

module _ {Op : Type 0} (hash : List ℕ → List ℕ) (spelling : Op → List ℕ) (log : LogView Op) (ops : List Op) where
  -- the peaks of all operations
  whole : log_peaks_at hash spelling log (log_size log) ≡ grow hash log.front log.pinned (map spelling log.ops)
  whole = ap (λ l. grow hash log.front log.pinned (map spelling l)) (take_all (log.front + length log.ops - log.front) log.ops (omega arith))

  pub root_grown : (size : ℕ) (nodes new : List (List ℕ)) → nodes ≡ log_peaks_at hash spelling log (log_size log) → size ≡ log_size log + length ops →
      new ≡ grow hash (log_size log) nodes (map spelling ops) → root hash size new ≡ log_root hash spelling (with_ops log ops)
  root_grown size nodes new n s g =
      let long : size ≡ log.front + length (log.ops ++ ops) = omega (arith, s, length-append log.ops ops) in
      let peaks : new ≡ grow hash log.front log.pinned (map spelling (log.ops ++ ops)) =
      g ∙ ap (λ l. grow hash (log_size log) l (map spelling ops)) (n ∙ whole) ∙ sym (grow_ops hash spelling log.front log.pinned log.ops ops) in
      ap (λ k. root hash k new) long ∙ ap (root hash (log.front + length (log.ops ++ ops))) peaks
