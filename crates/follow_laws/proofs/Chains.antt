-- A report's log, served, is one that can be followed, and what comes of it goes on where the report ended.
use Rattle.std.proofs.Common.{◌≡◌, ℕ, ◌+◌, ◌-◌, ◌^◌, ◌<◌, ◌≤◌, List, [], length, map, take, drop, All, Result, Ok, Err, refl, sym, ap, subst, ◌∙◌, arith}
use Rattle.std.specs.Prelude.{count_ones, min}
use Rattle.std.specs.Cmp.{IsEquivalence}
use Rattle.std.specs.List.{AllByRecursion}
use Rattle.std.proofs.lemmas.List.{take_all, length-map}
use Rattle.sha2.specs.Sha256.{sha256}
use Rattle.ledger_codec.specs.Causes.{Rose}
use Rattle.ledger_job.specs.declared.block.Block.{Block}
use Rattle.ledger_log.specs.Any.{any_floor, any_spelling, IsSoundAny}
use Rattle.ledger_log.specs.View.{LogView, log_size, log_peaks_at, log_root_at}
use Rattle.ledger_log.specs.declared.any.AnyOp.{AnyOp}
use Rattle.ledger_log.specs.declared.any.AnyOp.TheVariants.{Update, Delete, CommitFloor}
use Rattle.ledger_log.specs.declared.target.Target.{Target}
use Rattle.ledger_managed.specs.Values.{ValueLaws}
use Rattle.ledger_merkle.specs.Tree.{root, grow, part_root}
use Rattle.ledger_program.specs.Follow.{FollowsLog, Foretold, IsValid, IsSteady, range_in}
use Rattle.ledger_program.specs.declared.fault.Fault.{Fault}
use Rattle.ledger_program.specs.declared.fault.Fault.TheVariants as faults
use Rattle.ledger_settling.proofs.CauseLemmas.{IsWritten}
use Rattle.ledger_settling.proofs.FloorLemmas.{runs_whole}
use Rattle.ledger_settling.proofs.OutcomeLemmas.{outcome_sym, outcome_trans}
use Rattle.ledger_settling.specs.Blocks.{Meaning, IsReadable, account_at}
use Rattle.ledger_settling.specs.Reports.{ReportOf, IsWhole, held}
use Rattle.ledger_settling.specs.declared.report.Report.{Report}
use Rattle.ledger_transfers.specs.Rules.{SameOutcome}
use Rattle.sync_client.specs.Serving.{Serves}
use Rattle.sync_net.specs.Core.{data_of}
use Rattle.follow_laws.specs.Chained.{Continues, KeepSound, LogTarget}
use Rattle.follow_laws.proofs.Grown.{by_place, all_of, map_all, Fine, runs_front, runs_fine, no_blocks, zip_all}

-- where no answers on later targets are to come, the target is the one that is synced
pub foretold : (log : LogView AnyOp) (target : Target) → Foretold log target [] [] target
foretold log target = record { took = []; all = refl; later = tt; synced_is = record { start = refl; root = refl; end = refl } }

stays : {X : Type 0} (result : Result X Fault) (before now : ℕ) → IsSteady result before now → now ≡ before
stays (Ok x) before now h = h
stays (Err faults.Network) before now h = absurd h
stays (Err faults.RequestChannelClosed) before now h = h
stays (Err faults.InvalidResponse) before now h = h
stays (Err (faults.UnexpectedResponse number)) before now h = h
stays (Err (faults.Server code text)) before now h = h
stays (Err (faults.InvalidProof number)) before now h = h
stays (Err faults.TooManyStrays) before now h = h
stays (Err (faults.StaleUpdate start end)) before now h = h
stays (Err (faults.WrongRoot found)) before now h = h
stays (Err (faults.BadLog location)) before now h = h
stays (Err (faults.BadValue location)) before now h = h
stays (Err (faults.Rejected block rejection)) before now h = h
stays (Err (faults.Full block)) before now h = h
stays (Err faults.OutOfMemory) before now h = h

-- no call failed
pub never_rose : {X : Type 0} (result : Result X Fault) (before now : ℕ) → before ≡ 0 → IsSteady result before now → Rose before now → ⊥
never_rose result before now none h r = let e = stays result before now h in let k : min (before + 1) (2 ^ 64 - 1) ≤ now = r in omega (arith, none, e, k)

module _ {T A E : Type 0} (m : Meaning T A E) (blocks : List (Block T)) (report : Report A) (of : ReportOf m report.target blocks report) where
  -- a report's log is whole
  pub log_whole : IsWhole report.target.start report.log.ops
  log_whole = runs_whole m report.target.start blocks report.verdicts report.kept report.log.ops of.whole of.grows

  -- and has operations
  pub log_long : report.start < report.size
  log_long = let w = log_whole in let s = of.start in let n = of.size in let a = w.least in let b = w.most in omega arith

  value_written : (op : AnyOp) → IsSoundAny op → IsWritten m op
  value_written (Update key value) h = h.1
  value_written (Delete key) h = tt
  value_written (CommitFloor metadata floor) h = tt

  -- each value in it is an account
  pub readable_all : {IsSound : A → Type 0} → ValueLaws m.same IsSound m.rules m.values → KeepSound IsSound m.rules m.values → All IsSoundAny report.log.ops → AllByRecursion (IsReadable m.values) report.log.ops
  readable_all laws keep sound =
      let wrote : AllByRecursion (IsWritten m) report.log.ops = map_all IsSoundAny (IsWritten m) value_written report.log.ops (by_place IsSoundAny report.log.ops sound) in
      let first : AllByRecursion (Fine m) report.kept =
      zip_all (IsReadable m.values) (IsWritten m) report.kept (by_place (IsReadable m.values) report.kept of.readable) (runs_front m (IsWritten m) report.target.start blocks report.verdicts report.kept report.log.ops of.grows wrote) in
      let fine : AllByRecursion (Fine m) report.log.ops = runs_fine m laws keep report.target.start blocks report.verdicts report.kept report.log.ops first of.grows in
      map_all (Fine m) (IsReadable m.values) (λ op f. f.0) report.log.ops fine

  module _ (target : Target) (t : LogTarget report target) where
    pub front_is : target.start ≡ report.log.front
    front_is = t.start ∙ (of.start ∙ sym of.front)

    pub size_is : target.end ≡ log_size report.log
    size_is = t.end ∙ (of.size ∙ ap (λ (n : ℕ). n + length report.log.ops) (sym of.front))

    pub all_taken : (n : ℕ) → n ≡ length report.log.ops → take n report.log.ops ≡ report.log.ops
    all_taken n e = take_all n report.log.ops (omega arith)

    pub range_is : range_in report.log target ≡ report.log.ops
    range_is =
        let f = front_is in
        let s = size_is in
        ap (λ (k : ℕ). take (target.end - target.start) (drop k report.log.ops)) (let e : target.start - report.log.front ≡ 0 = omega arith in e) ∙ all_taken (target.end - target.start) (omega arith)

    pub nodes_are : log_peaks_at sha256 any_spelling report.log target.start ≡ report.log.pinned
    nodes_are =
        let f = front_is in
        let e : target.start - report.log.front ≡ 0 = omega arith in
        ap (λ (k : ℕ). grow sha256 report.log.front report.log.pinned (map any_spelling (take k report.log.ops))) e

    pub root_is : log_root_at sha256 any_spelling report.log target.end ≡ target.root
    root_is =
        let s = size_is in
        let all : take (target.end - report.log.front) report.log.ops ≡ report.log.ops = all_taken (target.end - report.log.front) (omega arith) in
        let n : target.end ≡ report.log.front + length (map any_spelling report.log.ops) = s ∙ ap (λ (k : ℕ). report.log.front + k) (sym (length-map report.log.ops any_spelling)) in
        ap (λ (xs : List AnyOp). root sha256 target.end (grow sha256 report.log.front report.log.pinned (map any_spelling xs))) all
        ∙ (ap (λ (k : ℕ). root sha256 k (grow sha256 report.log.front report.log.pinned (map any_spelling report.log.ops))) n
        ∙ (ap (λ (k : ℕ). part_root sha256 report.log.pinned k (map any_spelling report.log.ops)) of.front
        ∙ (ap (λ (ps : List (List ℕ)). part_root sha256 ps report.target.start (map any_spelling report.log.ops)) of.nodes
        ∙ (sym of.root ∙ sym t.root))))

    -- a link to the report's log serves its target
    abbrev pub serves_report : All IsSoundAny report.log.ops → All (λ digest. length digest ≡ 32) report.pinned → length report.log.pinned ≡ count_ones report.log.front → report.size ≤ 2 ^ 62 → Serves any_spelling IsSoundAny (data_of any_spelling any_floor report.log) target
    serves_report sound nodes count most = record {
      log = report.log;
      is = refl;
      ops = sound;
      nodes = subst (All (λ (digest : List ℕ). length digest ≡ 32)) (sym of.nodes) nodes;
      count = count;
      front = let f = front_is in omega arith;
      size = let s = size_is in omega arith;
      most = let s = size_is in let e = t.end in omega arith;
      root = root_is;
    }

    -- without blocks it is valid
    pub valid_report : {IsSound : A → Type 0} → ValueLaws m.same IsSound m.rules m.values → KeepSound IsSound m.rules m.values → All IsSoundAny report.log.ops → report.size ≤ 2 ^ 62 → IsValid m report.log target []
    valid_report laws keep sound most =
        let start : report.target.start ≡ target.start = sym of.start ∙ sym t.start in
        let readable : All (IsReadable m.values) report.log.ops = all_of (IsReadable m.values) report.log.ops (readable_all laws keep sound) in
        record {
          whole = subst (IsWhole target.start) (sym range_is) (subst (λ (n : ℕ). IsWhole n report.log.ops) start log_whole);
          readable = subst (All (IsReadable m.values)) (sym range_is) readable;
          verdicts = [];
          all = report.log.ops;
          runs = sym range_is;
          room = let n = of.size in let s = start in omega arith;
        }

    -- what comes of following it goes on where it ended
    pub continues : IsEquivalence m.same → (next : Report A) → ReportOf m next.target [] next → FollowsLog m report.log target [] (Ok next) → Continues m.same report next
    continues equiv next is h =
        let start : next.target.start ≡ report.target.start = h.0.start ∙ (t.start ∙ of.start) in
        let kept : next.kept ≡ report.log.ops = h.1 ∙ range_is in
        let pinned : next.pinned ≡ report.pinned = h.2 ∙ (nodes_are ∙ of.nodes) in
        let ops : next.log.ops ≡ report.log.ops = no_blocks m next.target.start next.verdicts next.kept next.log.ops is.grows ∙ kept in
        record {
          start = is.start ∙ (start ∙ sym of.start);
          pinned = pinned;
          kept = kept;
          log = ops;
          root = is.root
              ∙ (ap (λ (ps : List (List ℕ)). part_root sha256 ps next.target.start (map any_spelling next.log.ops)) pinned
              ∙ (ap (λ (n : ℕ). part_root sha256 report.pinned n (map any_spelling next.log.ops)) start
              ∙ (ap (λ (xs : List AnyOp). part_root sha256 report.pinned report.target.start (map any_spelling xs)) ops ∙ sym of.root)));
          size = is.size ∙ (ap (λ (n : ℕ). n + length next.log.ops) start ∙ (ap (λ (xs : List AnyOp). report.target.start + length xs) ops ∙ sym of.size));
          accounts = λ key. outcome_trans m.same equiv (held next.accounts key) (account_at m.values report.log.ops key) (held report.accounts key)
              (subst (λ (xs : List AnyOp). SameOutcome m.same (held next.accounts key) (account_at m.values xs key)) ops (is.accounts key))
              (outcome_sym m.same equiv (held report.accounts key) (account_at m.values report.log.ops key) (of.accounts key));
        }
