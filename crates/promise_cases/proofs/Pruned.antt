-- A log of three operations whose first is dropped.
use Rattle.std.proofs.Common.{◌≡◌, ℕ, ◌+◌, ◌≤◌, List, Result, Ok, Err, ap, ◌∙◌, arith}
use Rattle.std.specs.Prelude.{IfOk, OnOk, max}
use Rattle.sha2.specs.Sha256.{sha256}
use Rattle.ledger_log.specs.Keyless.{keyless_spelling}
use Rattle.ledger_log.specs.View.{KeptAbove, LogView, log_list, log_range, log_size, pruned}
use Rattle.ledger_log.specs.declared.keyless.KeylessOp.{KeylessOp}
use Rattle.ledger_merkle.specs.Levels.{proof_digests}

-- what both say where all went well
pub both_ok : {X E P Q R : Type 0} (result : Result X E) → (P → Q → R) → OnOk result P → IfOk result (λ _. Q) → OnOk result R
both_ok (Ok x) f p q = f p q
both_ok (Err e) f p q = tt

module _ (old now : LogView KeylessOp) (place : ℕ) (first : old.front ≡ 0) (one : place ≡ 1) (kept : KeptAbove sha256 keyless_spelling old now) (is : now ≡ pruned sha256 keyless_spelling old place) where
  begins : now.front ≡ 1
  begins = ap (λ (l : LogView KeylessOp). l.front) is ∙ (ap (λ (n : ℕ). max n place) first ∙ ap (λ (n : ℕ). max 0 n) one)

  pub range_kept : log_range now 1 2 ≡ log_range old 1 2
  range_kept = kept.ranges 1 2 (let b = begins in omega (arith, b))

  pub proof_kept : log_size old ≡ 3 → proof_digests sha256 (log_list sha256 keyless_spelling now) 3 1 2 ≡ proof_digests sha256 (log_list sha256 keyless_spelling old) 3 1 2
  proof_kept size = kept.proofs 3 1 2 (let b = begins in omega (arith, b)) (omega arith) (omega (arith, size))
