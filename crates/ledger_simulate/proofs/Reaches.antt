-- Lists that grow at their end, and where a run was over.
use Rattle.std.proofs.Common.{◌≡◌, ◌≤◌, ◌+◌, ℕ, List, [], ◌∷◌, ◌++◌, length, take, sym, ap, ◌∙◌, arith, length-append}
use Rattle.std.proofs.lemmas.List.{append-nil, append_assoc, take-append-le}
use Rattle.simulate_parts.specs.Tracker.{tracker_of}
use Rattle.simulate_parts.specs.declared.tracker.FinalizationUpdate.{FinalizationUpdate}
use Rattle.ledger_simulate.specs.Meaning.{Meaning}
use Rattle.ledger_simulate.specs.Reaching.{IsReached}
use Rattle.ledger_simulate.specs.Runs.{Extends}
use Rattle.ledger_simulate.specs.declared.reports.Reached.{Reached}

-- nothing more
pub extends_same : {X : Type 0} (before after : List X) → after ≡ before → Extends before after
extends_same before after same = record { added = []; is = same ∙ sym (append-nil before) }

-- the condition was met after a first part of a longer list too
pub still_reached : {D E S F P C : Type 0} (m : Meaning D E S F P C) (target : ℕ) (before after more : List FinalizationUpdate) (reached : Reached) → after ≡ before ++ more → IsReached m target before reached → IsReached m target after reached
still_reached m target before after more reached grown at =
    let inside : reached.count ≤ length before = at.within in
    let longer : length after ≡ length before + length more = ap length grown ∙ length-append before more in
    record {
      met = at.met;
      within = omega arith;
      tracker = at.tracker ∙ ap tracker_of (sym (ap (take reached.count) grown ∙ take-append-le reached.count before more inside));
    }

-- one report more of those that are left
pub updates_more : (now new start all rest left : List FinalizationUpdate) (u : FinalizationUpdate) → now ++ rest ≡ start ++ all → rest ≡ u ∷ left → new ≡ now ++ u ∷ [] → new ++ left ≡ start ++ all
updates_more now new start all rest left u so_far taken grown =
    ap (λ us. us ++ left) grown ∙ append_assoc now (u ∷ []) left ∙ ap (λ us. now ++ us) (sym taken) ∙ so_far
