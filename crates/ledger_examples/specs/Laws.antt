-- What a batch does to the size and the floor of a log.
use Rattle.std.specs.Prelude.{◌≡◌, ℕ, ◌+◌, List, length, Option, Some, unwrap_or}
use Rattle.std.proofs.Common.{refl, ap, ◌∙◌, arith}
use Rattle.std.proofs.lemmas.List.{length-append}
use Rattle.ledger_log.specs.View.{LogView, log_size, log_floor, floor_or_zero, batch_floor}
use Rattle.ledger_log.proofs.Floors.{last_floor-batch}
use Rattle.ledger_compact.specs.View.{CompactView, last_op, with_ops, with_batch}
use Rattle.ledger_compact.proofs.Ends.{batch_ends, batch_last, last_of_push}

module _ {Op : Type 0} where
  -- a log grows by the batch's operations
  pub log_size_after : (log : LogView Op) (ops : List Op) → log_size (with_ops log ops) ≡ log_size log + length ops
  log_size_after log ops = omega (arith, length-append log.ops ops)

  -- and has its floor
  pub log_floor_after : (f : Op → Option ℕ) (log : LogView Op) (ops : List Op) (floor : ℕ) → batch_floor f ops ≡ Some floor → log_floor f (with_ops log ops) ≡ floor
  log_floor_after f log ops floor e = ap floor_or_zero (last_floor-batch f log.ops ops floor e)

  -- so does a compact log
  pub compact_size_after : (hash : List ℕ → List ℕ) (spelling : Op → List ℕ) (log : CompactView Op) (ops : List Op) → (with_batch hash spelling log ops).size ≡ log.size + length ops
  compact_size_after hash spelling log ops = refl

  -- which has its floor
  pub compact_floor_after : (hash : List ℕ → List ℕ) (spelling : Op → List ℕ) (f : Op → Option ℕ) (log : CompactView Op) (ops : List Op) (floor : ℕ) → batch_floor f ops ≡ Some floor →
      floor_or_zero (f (with_batch hash spelling log ops).last) ≡ floor
  compact_floor_after hash spelling f log ops floor e =
      let end = batch_ends f ops floor e in
      let last : last_op ops ≡ Some end.1 = ap last_op end.2 ∙ last_of_push end.0 end.1 in
      ap (λ o. floor_or_zero (f (unwrap_or o log.last))) last ∙ ap floor_or_zero (batch_last f ops end.0 end.1 floor end.2 e)
