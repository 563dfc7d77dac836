-- One block more.
use Rattle.std.proofs.Common.{◌≡◌, ℕ, ◌+◌, ◌^◌, ◌<◌, ◌≤◌, List, [], ◌∷◌, ◌++◌, length, take, slice_get, Some, All, refl, sym, ap, subst, arith, append_assoc, length-append}
use Rattle.ledger_log.specs.View.{LogView, log_root, log_size}
use Rattle.ledger_log.specs.Any.{any_spelling}
use Rattle.ledger_merkle.specs.Tree.{root, grow, part_root}
use Rattle.sha2.specs.Sha256.{sha256}
use Rattle.std.proofs.Common.{map, ◌∙◌}
use Rattle.std.proofs.lemmas.List.{append-nil, length-map, take_at}
use Rattle.ledger_settling.specs.Faults.{ReplayFails, RunFails, IsBadValue}
use Rattle.ledger_transfers.specs.Touches.{touches}
use Rattle.ledger_settling.specs.Slots.{BodyFails, BlockFails}
use Rattle.ledger_settling.specs.Reports.{IsWhole}
use Rattle.ledger_job.specs.declared.block.Block.TheVariants.{Body, Rounds}
use Rattle.ledger_job.specs.declared.block.BlockVerdicts.TheVariants.{Body as NoVerdicts}
use Rattle.ledger_settling.specs.declared.fault.ReportFault.{ReportFault}
use Rattle.ledger_settling.specs.declared.fault.ReportFault.TheVariants.{BadLog, BadValue, Rejected, Full, OutOfMemory}
use Rattle.ledger_log.specs.declared.target.Target.{Target}
use Rattle.ledger_log.specs.declared.any.AnyOp.{AnyOp}
use Rattle.ledger_settling.specs.Blocks.{Meaning, Settles, RunsTo, appended, grown, batch_of, RunsBefore, IsRejected, IsFull, IsReadable}
use Rattle.ledger_job.specs.declared.block.Block.{Block}
use Rattle.ledger_job.specs.declared.block.BlockVerdicts.{BlockVerdicts}

module _ {T A E : Type 0} (m : Meaning T A E) where
  pub RunsTo-push : (start : ℕ) (bs : List (Block T)) (vs : List BlockVerdicts) (ops all : List AnyOp) (b : Block T) (v : BlockVerdicts)
      → RunsTo m start ops bs vs all → Settles m all b v → RunsTo m start ops (bs ++ b ∷ []) (vs ++ v ∷ []) (grown m start all (batch_of b v))
  RunsTo-push start [] [] ops all b v r s = (subst (λ o. Settles m o b v) r s, ap (λ o. grown m start o (batch_of b v)) r)
  RunsTo-push start [] (w ∷ vs) ops all b v r s = absurd r
  RunsTo-push start (c ∷ bs) [] ops all b v r s = absurd r
  RunsTo-push start (c ∷ bs) (w ∷ vs) ops all b v r s = (r.0, RunsTo-push start bs vs (grown m start ops (batch_of c w)) all b v r.1 s)

module _ {T A E : Type 0} (m : Meaning T A E) where
  -- a body's fault is its block's
  pub body_block_fails : (log : LogView AnyOp) (i : ℕ) (batch : List T) (block : Block T) (fault : ReportFault) → block ≡ Body batch → BodyFails m log i batch fault → BlockFails m log i block fault
  body_block_fails log i batch block fault e h = subst (λ b. BlockFails m log i b fault) (sym e) (by fault h)
    where
      by : (f : ReportFault) → BodyFails m log i batch f → BlockFails m log i (Body batch) f
      by (BadLog location) h = h
      by (BadValue location) h = h
      by (Rejected j r) h = h
      by (Full j) h = (h.0, (NoVerdicts, h.1, h.2))
      by OutOfMemory h = h

  -- what the blocks before one made of a log
  abbrev runs_before : (target : Target) (kept : List AnyOp) (blocks : List (Block T)) (vs : List BlockVerdicts) (log : LogView AnyOp) (i : ℕ)
      → RunsTo m target.start kept (take i blocks) vs log.ops → log.front ≡ target.start → log_size log ≤ 2 ^ 62 → RunsBefore m target.start kept blocks i
  runs_before target kept blocks vs log i r f short = record { verdicts = vs; all = log.ops; runs = r; short = subst (λ n. n + length log.ops ≤ 2 ^ 62) f short }

  -- a block's fault is the run's
  pub run_fails : (target : Target) (kept : List AnyOp) (blocks : List (Block T)) (vs : List BlockVerdicts) (log : LogView AnyOp) (i : ℕ) (block : Block T) (fault : ReportFault)
      → IsWhole target.start kept → All (IsReadable m.values) kept → RunsTo m target.start kept (take i blocks) vs log.ops → slice_get blocks i ≡ Some block → log.front ≡ target.start → log_size log ≤ 2 ^ 62
      → BlockFails m log i block fault → RunFails m target kept blocks fault
  run_fails target kept blocks vs log i block (BadLog location) w a r at f short h = absurd h
  run_fails target kept blocks vs log i block (BadValue location) w a r at f short h = absurd h
  run_fails target kept blocks vs log i (Body batch) (Rejected j x) w a r at f short h =
      (w, a, subst (λ k. IsRejected m target.start kept blocks k x) (sym h.0) (record { before = runs_before target kept blocks vs log i r f short; batch = batch; at = at; offence = h.1 }))
  run_fails target kept blocks vs log i (Rounds rounds) (Rejected j x) w a r at f short h = absurd h.1
  run_fails target kept blocks vs log i block (Full j) w a r at f short h = (
    w,
    a,
    subst (λ k. IsFull m target.start kept blocks k) (sym h.0)
        (record { before = runs_before target kept blocks vs log i r f short; block = block; verdict = h.1.0; at = at; settles = h.1.1; long = subst (λ n. 2 ^ 62 < n + length (grown m n log.ops (batch_of block h.1.0))) f h.1.2 }),
  )
  run_fails target kept blocks vs log i block OutOfMemory w a r at f short h = tt

module _ {T A E : Type 0} (m : Meaning T A E) where
  -- what blocks make of operations begins with them
  pub runs_more : (start : ℕ) (bs : List (Block T)) (vs : List BlockVerdicts) (ops all : List AnyOp) → RunsTo m start ops bs vs all → (more : List AnyOp) × (all ≡ ops ++ more)
  runs_more start [] [] ops all r = ([], r ∙ sym (append-nil ops))
  runs_more start [] (v ∷ vs) ops all r = absurd r
  runs_more start (b ∷ bs) [] ops all r = absurd r
  runs_more start (b ∷ bs) (v ∷ vs) ops all r =
      let us = appended m.same m.rules m.values start ops (touches m.changes_of (batch_of b v)) in
      let h = runs_more start bs vs (grown m start ops (batch_of b v)) all r.1 in
      (us ++ h.0, h.1 ∙ append_assoc ops us h.0)

  pub runs_least : (start : ℕ) (bs : List (Block T)) (vs : List BlockVerdicts) (ops all : List AnyOp) → RunsTo m start ops bs vs all → length ops ≤ length all
  runs_least start bs vs ops all r = let h = runs_more start bs vs ops all r in omega (arith, ap length h.1, length-append ops h.0)

  pub runs_first : (start : ℕ) (bs : List (Block T)) (vs : List BlockVerdicts) (ops all : List AnyOp) → RunsTo m start ops bs vs all → take (length ops) all ≡ ops
  runs_first start bs vs ops all r = let h = runs_more start bs vs ops all r in ap (take (length ops)) h.1 ∙ take_at ops h.0 (length ops) refl

  -- why the accounts of a part can't be read is why there is no report
  pub replay_run_fails : (target : Target) (front : ℕ) (ops : List AnyOp) (blocks : List (Block T)) (fault : ReportFault)
      → front ≡ target.start → IsWhole target.start ops → ReplayFails m.values front ops fault → RunFails m target ops blocks fault
  replay_run_fails target front ops blocks (BadLog location) f w h = absurd h
  replay_run_fails target front ops blocks (BadValue location) f w h = (w, subst (λ n. IsBadValue m.values n ops location) f h)
  replay_run_fails target front ops blocks (Rejected block rejection) f w h = absurd h
  replay_run_fails target front ops blocks (Full block) f w h = absurd h
  replay_run_fails target front ops blocks OutOfMemory f w h = tt

-- the root of a log, from its parts
pub report_root : (log : LogView AnyOp) (start : ℕ) (pinned : List (List ℕ)) → log.front ≡ start → log.pinned ≡ pinned
    → log_root sha256 any_spelling log ≡ part_root sha256 pinned start (map any_spelling log.ops)
report_root log start pinned f p =
    ap (λ n. root sha256 (log.front + n) (grow sha256 log.front log.pinned (map any_spelling log.ops))) (sym (length-map log.ops any_spelling))
    ∙ ap (λ n. root sha256 (n + length (map any_spelling log.ops)) (grow sha256 n log.pinned (map any_spelling log.ops))) f
    ∙ ap (λ ps. root sha256 (start + length (map any_spelling log.ops)) (grow sha256 start ps (map any_spelling log.ops))) p
