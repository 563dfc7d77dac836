-- The floor of a batch that a log takes.
use Rattle.std.proofs.Common.{◌≡◌, ℕ, List, length, Option, Some, None, refl, sym, ap, ◌∙◌}
use Rattle.ledger_log.specs.View.{LogView, log_size, log_floor, batch_floor}
use Rattle.ledger_log.specs.Faults.{batch_refusal, append_refusal}
use Rattle.ledger_compact.specs.View.{with_ops}
use Rattle.ledger_chain.proofs.Behind.{floor_behind}

module _ {Op : Type 0} (f : Op → Option ℕ) (log : LogView Op) where
  -- it is that of the log with the batch
  pub floor_taken : (ops : List Op) (n : ℕ) → append_refusal f log ops ≡ None → log_floor f (with_ops log ops) ≡ n → batch_floor f ops ≡ Some n
  floor_taken ops n h e = by (batch_floor f ops) refl h where
    by : (o : Option ℕ) → batch_floor f ops ≡ o → batch_refusal (log_size log) (log_floor f log) (length ops) o ≡ None → batch_floor f ops ≡ Some n
    by None p q = absurd cc
    by (Some m) p q = p ∙ ap (λ k. Some k) (sym (floor_behind f log ops m p) ∙ e)
