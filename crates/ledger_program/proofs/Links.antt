-- The job's own log, followed over a link in memory.
use Rattle.std.proofs.Common.{◌≡◌, ℕ, ◌+◌, ◌-◌, ◌^◌, ◌≤◌, List, [], Ok, Err, All, length, map, take, drop, refl, sym, ap, subst, ◌∙◌, arith, zero-add}
use Rattle.std.specs.Prelude.{count_ones}
use Rattle.std.proofs.lemmas.List.{take_all, length-map}
use Rattle.std.proofs.lemmas.List.Elements.{All-nil}
use Rattle.sha2.specs.Sha256.{sha256}
use Rattle.ledger_job.specs.declared.block.Block.{Block}
use Rattle.ledger_job.specs.declared.job.Job.{Job}
use Rattle.ledger_job.specs.declared.payment.Payment.{Payment}
use Rattle.ledger_log.specs.Any.{any_floor, any_spelling, IsSoundAny}
use Rattle.ledger_log.specs.View.{LogView, log_peaks_at, log_root_at}
use Rattle.ledger_log.specs.declared.any.AnyOp.{AnyOp}
use Rattle.ledger_log.specs.declared.target.Target.{Target}
use Rattle.ledger_merkle.specs.Tree.{root, grow, part_root}
use Rattle.ledger_program.proofs.Causes.{local_fails}
use Rattle.ledger_program.specs.Follow.{FollowsLog, Foretold, IsCalm, range_in}
use Rattle.ledger_program.specs.Peer.{payments}
use Rattle.ledger_program.specs.Run.{IsServed, ReportsJob, LocalFails, SpansLog, run_fault_of}
use Rattle.ledger_program.specs.Served.{served}
use Rattle.ledger_program.specs.declared.fault.Fault.{Fault}
use Rattle.ledger_program.specs.declared.fault.Fault.TheVariants as faults
use Rattle.ledger_settling.specs.Reports.{ReportOf, IsWhole}
use Rattle.ledger_settling.specs.declared.fault.ReportFault.TheVariants as causes
use Rattle.ledger_settling.specs.declared.report.Report.{Report}
use Rattle.ledger_transfers.specs.declared.sequenced.Sequenced.{Sequenced}
use Rattle.sync_client.specs.Serving.{Serves}
use Rattle.sync_net.specs.Core.{data_of}

-- a log from 0 on of these operations
abbrev pub whole_log : List AnyOp → LogView AnyOp
whole_log ops = record { front = 0; pinned = []; ops = ops }

pub none_pinned : length {A = List ℕ} [] ≡ count_ones 0
unfolding lib.Count.ones
none_pinned = refl

-- the root of a whole log's first operations, which are all
pub whole_root : (ops : List AnyOp) (target : Target) → SpansLog target (whole_log ops) → log_root_at sha256 any_spelling (whole_log ops) target.end ≡ target.root
whole_root ops target is =
    let start = is.start in
    let end = is.end in
    let all : take (target.end - 0) ops ≡ ops = take_all (target.end - 0) ops (omega arith) in
    let count : target.end ≡ 0 + length (map any_spelling ops) = end ∙ (sym (length-map ops any_spelling) ∙ sym (zero-add (length (map any_spelling ops)))) in
    let begin : part_root sha256 [] target.start (map any_spelling ops) ≡ target.root = is.spans.root in
    ap (λ (xs : List AnyOp). root sha256 target.end (grow sha256 0 [] (map any_spelling xs))) all
    ∙ (ap (λ (n : ℕ). root sha256 n (grow sha256 0 [] (map any_spelling ops))) count
    ∙ (ap (λ (n : ℕ). part_root sha256 [] n (map any_spelling ops)) (sym start) ∙ begin))

pub starts : (ops : List AnyOp) (target : Target) → SpansLog target (whole_log ops) → 0 ≤ target.start
starts ops target is = omega arith

pub ends : (ops : List AnyOp) (target : Target) → SpansLog target (whole_log ops) → target.end ≤ 0 + length ops
ends ops target is = let e = is.end in omega arith

pub short : (ops : List AnyOp) (target : Target) → target.end ≤ 2 ^ 62 → SpansLog target (whole_log ops) → 0 + length ops ≤ 2 ^ 62
short ops target most is = let e = is.end in omega arith

-- where no answers on later targets are to come, the target is the one that is synced
pub foretold : (ops : List AnyOp) (target : Target) → Foretold (whole_log ops) target [] [] target
foretold ops target = record { took = []; all = refl; later = tt; synced_is = record { start = refl; root = refl; end = refl } }

-- a link to a whole log serves its target
abbrev pub serves_whole : (ops : List AnyOp) (target : Target) → All IsSoundAny ops → target.end ≤ 2 ^ 62 → SpansLog target (whole_log ops) → Serves any_spelling IsSoundAny (data_of any_spelling any_floor (whole_log ops)) target
serves_whole ops target sound most is = record {
  log = whole_log ops;
  is = refl;
  ops = sound;
  nodes = All-nil (λ digest. length digest ≡ 32);
  count = none_pinned;
  front = starts ops target is;
  size = ends ops target is;
  most = short ops target most is;
  root = whole_root ops target is;
}

-- the range of a whole log's target is the log, and no nodes stand before it
pub range_whole : (ops : List AnyOp) (target : Target) → SpansLog target (whole_log ops) → range_in (whole_log ops) target ≡ ops
range_whole ops target is =
    let end = is.end in
    ap (λ (s : ℕ). take (target.end - s) (drop (s - 0) ops)) is.start ∙ take_all (target.end - 0) ops (omega arith)

pub nodes_whole : (ops : List AnyOp) (target : Target) → SpansLog target (whole_log ops) → log_peaks_at sha256 any_spelling (whole_log ops) target.start ≡ []
nodes_whole ops target is = ap (λ (s : ℕ). grow sha256 0 [] (map any_spelling (take (s - 0) ops))) is.start

module _ (job : Job) (ops : List AnyOp) (target : Target) (blocks : List (Block Payment)) (is : SpansLog target (whole_log ops)) (k : ops ≡ served job.opens) (b : blocks ≡ job.blocks) where
  serves_job : IsServed job target
  serves_job = record { start = is.start; end = is.end ∙ ap length k }

  -- the report over such a link is the job's
  pub reports_job : (report : Report Sequenced) → ReportOf payments report.target blocks report → FollowsLog payments (whole_log ops) target blocks (Ok report) → ReportsJob job report
  reports_job report of h = record {
    target = report.target;
    is_served = record { start = h.0.start ∙ is.start; end = h.0.end ∙ is.end ∙ ap length k };
    pinned = h.2 ∙ nodes_whole ops target is;
    kept = h.1 ∙ (range_whole ops target is ∙ k);
    report_is = subst (λ (bs : List (Block Payment)). ReportOf payments report.target bs report) b of;
  }

  module _ (w : IsWhole target.start ops) where
    range_is : range_in (whole_log ops) target ≡ served job.opens
    range_is = range_whole ops target is ∙ k

    range_whole_is : IsWhole target.start (range_in (whole_log ops) target)
    range_whole_is = subst (IsWhole target.start) (sym (range_whole ops target is)) w

    -- and its faults are the job's
    pub fails_job : (fault : Fault) → FollowsLog payments (whole_log ops) target blocks (Err fault) → IsCalm {X = Report Sequenced} (Err fault) → LocalFails job (run_fault_of fault)
    fails_job faults.Network h calm = absurd calm
    fails_job faults.RequestChannelClosed h calm = absurd h
    fails_job faults.InvalidResponse h calm = absurd h
    fails_job (faults.UnexpectedResponse number) h calm = absurd h
    fails_job (faults.Server code text) h calm = absurd h
    fails_job (faults.InvalidProof number) h calm = absurd h
    fails_job faults.TooManyStrays h calm = absurd h
    fails_job (faults.StaleUpdate start end) h calm = absurd h
    fails_job (faults.WrongRoot found) h calm = absurd h
    fails_job (faults.BadLog location) h calm = local_fails job target (range_in (whole_log ops) target) blocks serves_job range_is b range_whole_is (causes.BadLog location) h
    fails_job (faults.BadValue location) h calm = local_fails job target (range_in (whole_log ops) target) blocks serves_job range_is b range_whole_is (causes.BadValue location) h
    fails_job (faults.Rejected block rejection) h calm = local_fails job target (range_in (whole_log ops) target) blocks serves_job range_is b range_whole_is (causes.Rejected block rejection) h
    fails_job (faults.Full block) h calm = local_fails job target (range_in (whole_log ops) target) blocks serves_job range_is b range_whole_is (causes.Full block) h
    fails_job faults.OutOfMemory h calm = tt
