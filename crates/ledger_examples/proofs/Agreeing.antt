use Rattle.std.proofs.Common.{◌≡◌, ℕ, ◌+◌, List, [], ◌∷◌, length, Option, Some, None, refl}
use Rattle.ledger_log.specs.View.{LogView, floor_or_zero, batch_floor}
use Rattle.ledger_log.specs.Faults.{batch_refusal}
use Rattle.ledger_log.specs.declared.fault.LogFault.{LogFault}
use Rattle.ledger_compact.specs.View.{CompactView, compact_of, with_ops, with_batch}
use Rattle.ledger_compact.proofs.Ends.{batch_ends}
use Rattle.ledger_compact.proofs.Kept.{kept_more}
use Rattle.ledger_examples.specs.Batches.{or_later, first_refusal, with_batches}

later_none : (o p : Option LogFault) → or_later o p ≡ None → (o ≡ None) × (p ≡ None)
later_none None p e = (refl, e)
later_none (Some fault) p e = absurd cc

floored : (size floor count : ℕ) (o : Option ℕ) → batch_refusal size floor count o ≡ None → (n : ℕ) × (o ≡ Some n)
floored size floor count None e = absurd cc
floored size floor count (Some n) e = (n, refl)

module _ {Op : Type 0} (hash : List ℕ → List ℕ) (spelling : Op → List ℕ) (f : Op → Option ℕ) where
  -- a full and a compact log that hold the same hold the same behind batches that are taken
  pub kept_batches : (bs : List (List Op)) (size floor : ℕ) (log : LogView Op) (c : CompactView Op) → first_refusal f size floor bs ≡ None → compact_of hash spelling log ≡ Some c →
      compact_of hash spelling (with_batches with_ops log bs) ≡ Some (with_batches (with_batch hash spelling) c bs)
  kept_batches [] size floor log c none e = e
  kept_batches (b ∷ bs) size floor log c none e =
      let both = later_none (batch_refusal size floor (length b) (batch_floor f b)) (first_refusal f (size + length b) (floor_or_zero (batch_floor f b)) bs) none in
      let at = floored size floor (length b) (batch_floor f b) both.0 in
      let end = batch_ends f b at.0 at.1 in
      kept_batches bs (size + length b) (floor_or_zero (batch_floor f b)) (with_ops log b) (with_batch hash spelling c b) both.1 (kept_more hash spelling log c e b end.0 end.1 end.2)
