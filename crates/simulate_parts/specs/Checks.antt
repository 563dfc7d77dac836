-- What checks answer.
use Rattle.std.specs.Prelude.{◌≡◌, ℕ, Bool, List, Option, Some, None, Result, Ok, Err, count_by, nat_le}
use Rattle.simulate_parts.specs.declared.check.CheckFault.{CheckFault}
use Rattle.simulate_parts.specs.declared.check.CheckFault.TheVariants.{Failed, OutOfMemory}
use Rattle.simulate_parts.specs.declared.engine.StateView.{StateView}
use Rattle.simulate_parts.specs.TrackerView.{TrackerView}
use Rattle.simulate_parts.specs.Tracker.{finalized_rounds}

-- an answer is the verdict, want of memory aside
abbrev pub Answers : {T : Type 0} → Result T CheckFault → Result T (List ℕ) → Type 0
Answers (Ok x) verdict = verdict ≡ Ok x
Answers (Err (Failed text)) verdict = verdict ≡ Err text
Answers (Err OutOfMemory) verdict = Unit {0}

-- a check passes where there is no complaint, and fails with the complaint, want of memory aside
abbrev pub Passes : Result (Unit {0}) CheckFault → Option (List ℕ) → Type 0
Passes (Ok u) complaint = complaint ≡ None
Passes (Err (Failed text)) complaint = complaint ≡ Some text
Passes (Err OutOfMemory) complaint = Unit {0}

-- at least `total` validators have finalized a view of at least `required`
abbrev pub reached_by_all : TrackerView → ℕ → ℕ → Bool
reached_by_all t total required = nat_le total (count_by (λ r. nat_le required r.view) (finalized_rounds t))

-- at least `total` states have a height of at least `required`
abbrev pub processed_by_all : List StateView → ℕ → ℕ → Bool
processed_by_all states total required = nat_le total (count_by (λ s. nat_le required s.height) states)
