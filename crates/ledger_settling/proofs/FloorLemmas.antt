-- The floor of what blocks leave.
use Rattle.std.proofs.Common.{◌≡◌, ℕ, ◌<◌, List, [], ◌∷◌, ◌++◌, Some, None, sym, ap, subst, ◌∙◌, arith, append_assoc}
use Rattle.ledger_job.specs.declared.block.Block.{Block}
use Rattle.ledger_job.specs.declared.block.BlockVerdicts.{BlockVerdicts}
use Rattle.ledger_log.proofs.Floors.{last_floor-append}
use Rattle.ledger_log.specs.Any.{any_floor, any_write}
use Rattle.ledger_log.specs.View.{last_floor, floor_or_zero, log_floor, log_size}
use Rattle.ledger_log.specs.declared.any.AnyOp.{AnyOp}
use Rattle.ledger_log.specs.declared.any.AnyOp.TheVariants.{CommitFloor}
use Rattle.ledger_raising.specs.Raised.{copies, next_floor, Raises}
use Rattle.ledger_settling.proofs.RaisedLemmas.{batch_raises}
use Rattle.ledger_settling.specs.Blocks.{Meaning, RunsTo, appended, batch_of, changed, grown, log_from}
use Rattle.ledger_settling.specs.Reports.{IsWhole, Rises}
use Rattle.ledger_transfers.specs.Touches.{touches}

-- the floor of the last commit
pub whole_floor : (start : ℕ) (ops : List AnyOp) (w : IsWhole start ops) → log_floor any_floor (log_from start ops) ≡ w.floor
whole_floor start ops w = ap floor_or_zero w.commits

-- it lies within the log
pub whole_low : (start : ℕ) (ops : List AnyOp) → IsWhole start ops → log_floor any_floor (log_from start ops) < log_size (log_from start ops)
whole_low start ops w = let e = whole_floor start ops w in let l = w.most in omega arith

module _ {T A E : Type 0} (m : Meaning T A E) (start : ℕ) where
  -- a block's batch keeps to the law of a floor that rises
  pub grown_raises : (ops : List AnyOp) (batch : List T) → IsWhole start ops
      → Raises any_floor any_write (log_from start ops) (changed m.same m.rules m.values ops (touches m.changes_of batch)) (appended m.same m.rules m.values start ops (touches m.changes_of batch))
  grown_raises ops batch w = batch_raises (log_from start ops) (changed m.same m.rules m.values ops (touches m.changes_of batch)) (let l = whole_low start ops w in omega arith)

  grown_commits : (ops : List AnyOp) (batch : List T) → last_floor any_floor (grown m start ops batch) ≡ Some (log_floor any_floor (log_from start (grown m start ops batch)))
  grown_commits ops batch =
      let new : List AnyOp = changed m.same m.rules m.values ops (touches m.changes_of batch) in
      let behind : List AnyOp = new ++ copies any_floor any_write (log_from start ops) new in
      let floor : ℕ = next_floor any_floor any_write (log_from start ops) behind in
      let e : last_floor any_floor (grown m start ops batch) ≡ Some floor =
      ap (last_floor any_floor) (sym (append_assoc ops behind (CommitFloor None floor ∷ []))) ∙ last_floor-append any_floor (ops ++ behind) (CommitFloor None floor) [] in
      e ∙ ap Some (sym (ap floor_or_zero e))

  -- behind a block's batch the log ends in a commit again
  pub grown_whole : (ops : List AnyOp) (batch : List T) → IsWhole start ops → IsWhole start (grown m start ops batch)
  grown_whole ops batch w =
      let r = grown_raises ops batch w in
      let e = whole_floor start ops w in
      let a = w.least in
      let b = r.least in
      record { floor = log_floor any_floor (log_from start (grown m start ops batch)); commits = grown_commits ops batch; least = omega arith; most = r.most }

  -- so does what all blocks leave
  pub runs_whole : (bs : List (Block T)) (vs : List BlockVerdicts) (ops all : List AnyOp) → IsWhole start ops → RunsTo m start ops bs vs all → IsWhole start all
  runs_whole [] [] ops all w e = subst (IsWhole start) (sym e) w
  runs_whole [] (v ∷ vs) ops all w e = absurd e
  runs_whole (b ∷ bs) [] ops all w e = absurd e
  runs_whole (b ∷ bs) (v ∷ vs) ops all w e = runs_whole bs vs (grown m start ops (batch_of b v)) all (grown_whole ops (batch_of b v) w) e.1

  -- the floor that all blocks leave
  pub runs_rise : (bs : List (Block T)) (vs : List BlockVerdicts) (ops all : List AnyOp) → IsWhole start ops → RunsTo m start ops bs vs all → Rises start ops all
  runs_rise [] [] ops all w e = subst (Rises start ops) (sym e) (record { least = omega arith; most = whole_low start ops w; sound = λ s. s })
  runs_rise [] (v ∷ vs) ops all w e = absurd e
  runs_rise (b ∷ bs) [] ops all w e = absurd e
  runs_rise (b ∷ bs) (v ∷ vs) ops all w e =
      let first = grown_raises ops (batch_of b v) w in
      let rest = runs_rise bs vs (grown m start ops (batch_of b v)) all (grown_whole ops (batch_of b v) w) e.1 in
      record { least = let x = first.least in let y = rest.least in omega arith; most = rest.most; sound = λ s. rest.sound (first.sound s) }
