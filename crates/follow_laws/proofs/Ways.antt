-- How a run ended, as something that the stream decides.
use Rattle.std.proofs.Common.{◌≡◌, ◌⊎◌, ℕ, ◌+◌, ◌^◌, ◌≤◌, List, [], ◌++◌, length, map, Option, Some, None, Result, Ok, Err, refl, sym, ap, subst, ◌∙◌, inl, inr}
use Rattle.std.specs.Prelude.{unwrap_or}
use Rattle.std.specs.List.{AllByRecursion}
use Rattle.std.specs.Cmp.{IsEquivalence}
use Rattle.ledger_job.specs.declared.block.Block.{Block}
use Rattle.ledger_log.specs.Any.{any_spelling}
use Rattle.ledger_log.specs.View.{LogView}
use Rattle.ledger_log.specs.declared.any.AnyOp.{AnyOp}
use Rattle.ledger_log.specs.declared.target.Target.{Target}
use Rattle.ledger_managed.specs.Values.{ValueLaws}
use Rattle.ledger_merkle.specs.Tree.{part_root}
use Rattle.ledger_merkle.specs.declared.proof.Part.{Part as Fetched}
use Rattle.sha2.specs.Sha256.{sha256}
use Rattle.ledger_program.specs.Faults.{fault_of}
use Rattle.ledger_program.specs.Follow.{IsFetched, Follows, HasNoReport, FollowFails}
use Rattle.ledger_program.specs.declared.fault.Fault.{Fault}
use Rattle.ledger_program.specs.declared.fault.Fault.TheVariants as faults
use Rattle.ledger_settling.proofs.CauseLemmas.{IsWritten}
use Rattle.ledger_settling.proofs.OutcomeLemmas.{outcome_sym, outcome_trans}
use Rattle.ledger_settling.specs.Blocks.{Meaning, RunsTo, account_at}
use Rattle.ledger_settling.specs.Faults.{RunFails}
use Rattle.ledger_settling.specs.Reports.{ReportOf, held}
use Rattle.ledger_settling.specs.declared.fault.ReportFault.{ReportFault}
use Rattle.ledger_settling.specs.declared.fault.ReportFault.TheVariants as causes
use Rattle.ledger_settling.specs.declared.report.Report.{Report}
use Rattle.ledger_transfers.specs.Rules.{SameOutcome}
use Rattle.sync_client.specs.Ending.{Origin, Over}
use Rattle.sync_client.specs.Parts.{Assembles}
use Rattle.sync_client.specs.Runs.{Outcome, Complete, Offends, Closes, Waits, Exhausts, Session, SessionLaws}
use Rattle.sync_client.specs.Session.{State, Rules, InvalidResponse, UnexpectedResponse, Server, InvalidProof, TooManyStrays, StaleUpdate}
use Rattle.sync_client.specs.declared.fault.SyncFault.TheVariants as sync
use Rattle.sync_net.specs.Wire.{Wire}
use Rattle.follow_laws.specs.Alike.{Tells, SayOne, IsFree, AreOne, IsAlike, unreasoned}
use Rattle.follow_laws.proofs.Streams.{front_of, Leg, one_end}
use Rattle.follow_laws.proofs.Parts.{IsPart, IsWrong, IsSame, one_part, one_root, never_both}
use Rattle.follow_laws.proofs.Blocks.{one_run, one_cause, no_cause}

-- the fault of a session that ended without its range
abbrev pub fault_at : Outcome AnyOp → Option Fault
fault_at (Complete t) = None
fault_at (Offends InvalidResponse) = Some faults.InvalidResponse
fault_at (Offends (UnexpectedResponse number)) = Some (faults.UnexpectedResponse number)
fault_at (Offends (Server code text)) = Some (faults.Server code text)
fault_at (Offends (InvalidProof number)) = Some (faults.InvalidProof number)
fault_at (Offends TooManyStrays) = Some faults.TooManyStrays
fault_at (Offends (StaleUpdate target)) = Some (faults.StaleUpdate target.start target.end)
fault_at Closes = Some faults.RequestChannelClosed
fault_at Waits = None
fault_at Exhausts = None

-- the state of a session that kept its whole range
abbrev last_in : State AnyOp → Outcome AnyOp → State AnyOp
last_in d (Complete t) = t
last_in d (Offends offence) = d
last_in d Closes = d
last_in d Waits = d
last_in d Exhausts = d

module _ {T A E : Type 0} (m : Meaning T A E) (rules : Rules AnyOp) (start : State AnyOp) (stream : List ℕ) (blocks : List (Block T)) where
  -- a report of this state's part
  pub record IsReported (t : State AnyOp) (report : Report A) : Type 0 where
    pub part : Fetched AnyOp
    pub is : IsPart rules t report.target part
    pub pinned : report.pinned ≡ part.pinned
    pub kept : report.kept ≡ part.ops
    pub of : ReportOf m report.target blocks report
    pub near : report.size ≤ 2 ^ 62

  -- this state's part and the blocks have no report for this cause
  pub record IsCaused (t : State AnyOp) (cause : ReportFault) : Type 0 where
    pub synced : Target
    pub part : Fetched AnyOp
    pub is : IsPart rules t synced part
    pub fails : RunFails m synced part.ops blocks cause

  -- the bytes didn't decide it
  pub record Freed (r : Result (Report A) Fault) : Type 0 where
    pub fault : Fault
    pub is : r ≡ Err fault
    pub free : IsFree fault

  -- the session ended without its range
  pub record Fell (r : Result (Report A) Fault) : Type 0 where
    pub outcome : Outcome AnyOp
    pub leg : Leg rules start stream outcome
    pub fault : Fault
    pub at : fault_at outcome ≡ Some fault
    pub is : r ≡ Err fault

  -- what came of a whole range
  abbrev pub Made : State AnyOp → Result (Report A) Fault → Type 0
  Made t r =
      ((report : Report A) × (r ≡ Ok report) × IsReported t report)
      ⊎ ((found : List ℕ) × (r ≡ Err (faults.WrongRoot found)) × IsWrong rules t found)
      ⊎ ((cause : ReportFault) × (r ≡ Err (fault_of cause)) × IsCaused t cause)

  -- the session kept its whole range
  pub record Kept (r : Result (Report A) Fault) : Type 0 where
    pub last : State AnyOp
    pub leg : Leg rules start stream (Complete last)
    pub made : Made last r

  abbrev pub Way : Result (Report A) Fault → Type 0
  Way r = Freed r ⊎ Fell r ⊎ Kept r

  -- ---- two ways

  module _ {IsSound : A → Type 0} (values : ValueLaws m.same IsSound m.rules m.values) (equiv : IsEquivalence m.same) (laws : SessionLaws rules start)
      (written : (t : State AnyOp) (synced : Target) (part : Fetched AnyOp) → Leg rules start stream (Complete t) → IsPart rules t synced part → AllByRecursion (IsWritten m) part.ops) where
    free_left : (fault : Fault) (s : Result (Report A) Fault) → IsFree fault → IsAlike m.same (Err fault) s
    free_left fault (Ok report) h = h
    free_left fault (Err other) h = inl h

    free_right : (fault : Fault) (r : Result (Report A) Fault) → IsFree fault → IsAlike m.same r (Err fault)
    free_right fault (Ok report) h = h
    free_right fault (Err other) h = inr (inl h)

    log_is : (a b : LogView AnyOp) → a.front ≡ b.front → a.pinned ≡ b.pinned → a.ops ≡ b.ops → a ≡ b
    log_is a b f p o =
        ap (λ (n : ℕ). let l : LogView AnyOp = record { front = n; pinned = a.pinned; ops = a.ops } in l) f
        ∙ (ap (λ (ps : List (List ℕ)). let l : LogView AnyOp = record { front = b.front; pinned = ps; ops = a.ops } in l) p
        ∙ ap (λ (os : List AnyOp). let l : LogView AnyOp = record { front = b.front; pinned = b.pinned; ops = os } in l) o)

    say_one : (t : State AnyOp) (a b : Report A) → IsReported t a → IsReported t b → SayOne m.same a b
    say_one t a b x y =
        let p : IsSame rules t a.target b.target x.part y.part = one_part rules t a.target b.target x.part y.part x.is y.is in
        let pinned : a.pinned ≡ b.pinned = x.pinned ∙ (p.pinned ∙ sym y.pinned) in
        let kept : a.kept ≡ b.kept = x.kept ∙ (p.ops ∙ sym y.kept) in
        let from : a.target.start ≡ b.target.start = ap (λ (z : Target). z.start) p.target in
        let grows : RunsTo m a.target.start a.kept blocks b.verdicts b.log.ops =
        subst (λ (n : ℕ). RunsTo m n a.kept blocks b.verdicts b.log.ops) (sym from) (subst (λ (ops : List AnyOp). RunsTo m b.target.start ops blocks b.verdicts b.log.ops) (sym kept) y.of.grows) in
        let runs = one_run m a.target.start blocks a.verdicts b.verdicts a.kept a.log.ops b.log.ops x.of.grows grows in
        let log : a.log ≡ b.log = log_is a.log b.log (x.of.front ∙ (from ∙ sym y.of.front)) (x.of.nodes ∙ (pinned ∙ sym y.of.nodes)) runs.1 in
        record {
          target = p.target;
          start = x.of.start ∙ (from ∙ sym y.of.start);
          end = x.of.end ∙ (ap (λ (z : Target). z.end) p.target ∙ sym y.of.end);
          pinned = pinned;
          kept = kept;
          log = log;
          accounts = λ key. outcome_trans m.same equiv (held a.accounts key) (account_at m.values a.log.ops key) (held b.accounts key) (x.of.accounts key)
              (outcome_sym m.same equiv (held b.accounts key) (account_at m.values a.log.ops key) (subst (λ (ops : List AnyOp). SameOutcome m.same (held b.accounts key) (account_at m.values ops key)) (sym runs.1) (y.of.accounts key)));
          verdicts = runs.0;
          root = x.of.root
              ∙ (ap (λ (ps : List (List ℕ)). part_root sha256 ps a.target.start (map any_spelling a.log.ops)) pinned
              ∙ (ap (λ (n : ℕ). part_root sha256 b.pinned n (map any_spelling a.log.ops)) from
              ∙ (ap (λ (ops : List AnyOp). part_root sha256 b.pinned b.target.start (map any_spelling ops)) runs.1 ∙ sym y.of.root)));
          size = x.of.size ∙ (ap (λ (n : ℕ). n + length a.log.ops) from ∙ (ap (λ (ops : List AnyOp). b.target.start + length ops) runs.1 ∙ sym y.of.size));
        }

    -- a report's part has a report
    reported_caused : (t : State AnyOp) (a : Report A) (cause : ReportFault) → Leg rules start stream (Complete t) → IsReported t a → IsCaused t cause → IsFree (fault_of cause)
    reported_caused t a cause leg x y =
        let p : IsSame rules t a.target y.synced x.part y.part = one_part rules t a.target y.synced x.part y.part x.is y.is in
        let ops : y.part.ops ≡ a.kept = sym p.ops ∙ sym x.kept in
        let fails : RunFails m a.target a.kept blocks cause =
        subst (λ (os : List AnyOp). RunFails m a.target os blocks cause) ops (subst (λ (z : Target). RunFails m z y.part.ops blocks cause) (sym p.target) y.fails) in
        let short : a.target.start + length a.log.ops ≤ 2 ^ 62 = subst (λ (n : ℕ). n ≤ 2 ^ 62) x.of.size x.near in
        let sound : AllByRecursion (IsWritten m) a.kept = subst (AllByRecursion (IsWritten m)) (sym x.kept) (written t a.target x.part leg x.is) in
        no_cause m values a.target a.kept blocks sound cause a.verdicts a.log.ops x.of.whole x.of.readable x.of.grows short fails

    two_causes : (t : State AnyOp) (c d : ReportFault) → Leg rules start stream (Complete t) → IsCaused t c → IsCaused t d → AreOne (fault_of c) (fault_of d)
    two_causes t c d leg x y =
        let p : IsSame rules t x.synced y.synced x.part y.part = one_part rules t x.synced y.synced x.part y.part x.is y.is in
        let fails : RunFails m x.synced x.part.ops blocks d =
        subst (λ (os : List AnyOp). RunFails m x.synced os blocks d) (sym p.ops) (subst (λ (z : Target). RunFails m z y.part.ops blocks d) (sym p.target) y.fails) in
        one_cause m values x.synced x.part.ops blocks (written t x.synced x.part leg x.is) c d x.fails fails

    made_alike : (t : State AnyOp) (r s : Result (Report A) Fault) → Leg rules start stream (Complete t) → Made t r → Made t s → IsAlike m.same r s
    made_alike t r s leg (inl (a, e, x)) (inl (b, f, y)) = subst (λ (q : Result (Report A) Fault). IsAlike m.same q s) (sym e) (subst (λ (q : Result (Report A) Fault). IsAlike m.same (Ok a) q) (sym f) (say_one t a b x y))
    made_alike t r s leg (inl (a, e, x)) (inr (inl (found, f, y))) = absurd (never_both rules t a.target x.part found x.is y)
    made_alike t r s leg (inl (a, e, x)) (inr (inr (c, f, y))) = subst (λ (q : Result (Report A) Fault). IsAlike m.same r q) (sym f) (free_right (fault_of c) r (reported_caused t a c leg x y))
    made_alike t r s leg (inr (inl (found, e, x))) (inl (b, f, y)) = absurd (never_both rules t b.target y.part found y.is x)
    made_alike t r s leg (inr (inl (found, e, x))) (inr (inl (other, f, y))) =
        subst (λ (q : Result (Report A) Fault). IsAlike m.same q s) (sym e) (subst (λ (q : Result (Report A) Fault). IsAlike m.same (Err (faults.WrongRoot found)) q) (sym f)
        (inr (inr (ap faults.WrongRoot (one_root rules t found other x y)))))
    made_alike t r s leg (inr (inl (found, e, x))) (inr (inr (c, f, y))) = absurd (never_both rules t y.synced y.part found y.is x)
    made_alike t r s leg (inr (inr (c, e, x))) (inl (b, f, y)) = subst (λ (q : Result (Report A) Fault). IsAlike m.same q s) (sym e) (free_left (fault_of c) s (reported_caused t b c leg y x))
    made_alike t r s leg (inr (inr (c, e, x))) (inr (inl (found, f, y))) = absurd (never_both rules t x.synced x.part found x.is y)
    made_alike t r s leg (inr (inr (c, e, x))) (inr (inr (d, f, y))) =
        subst (λ (q : Result (Report A) Fault). IsAlike m.same q s) (sym e) (subst (λ (q : Result (Report A) Fault). IsAlike m.same (Err (fault_of c)) q) (sym f) (two_causes t c d leg x y))

    no_fault : (t : State AnyOp) (outcome : Outcome AnyOp) (fault : Fault) → outcome ≡ Complete t → fault_at outcome ≡ Some fault → ⊥
    no_fault t outcome fault e f = absurd (let g : None ≡ Some fault = sym (ap fault_at e) ∙ f in cc)

    -- two runs over one stream answer alike
    pub alike : (r s : Result (Report A) Fault) → Way r → Way s → IsAlike m.same r s
    alike r s (inl x) w = subst (λ (q : Result (Report A) Fault). IsAlike m.same q s) (sym x.is) (free_left x.fault s x.free)
    alike r s (inr v) (inl y) = subst (λ (q : Result (Report A) Fault). IsAlike m.same r q) (sym y.is) (free_right y.fault r y.free)
    alike r s (inr (inl x)) (inr (inl y)) =
        let e : x.outcome ≡ y.outcome = one_end rules start laws stream x.outcome y.outcome x.leg y.leg in
        let f : x.fault ≡ y.fault = ap (λ (o : Option Fault). unwrap_or o x.fault) (sym x.at ∙ (ap fault_at e ∙ y.at)) in
        subst (λ (q : Result (Report A) Fault). IsAlike m.same q s) (sym x.is) (subst (λ (q : Result (Report A) Fault). IsAlike m.same (Err x.fault) q) (sym y.is) (inr (inr (ap unreasoned f))))
    alike r s (inr (inl x)) (inr (inr y)) = absurd (no_fault y.last x.outcome x.fault (one_end rules start laws stream x.outcome (Complete y.last) x.leg y.leg) x.at)
    alike r s (inr (inr x)) (inr (inl y)) = absurd (no_fault x.last y.outcome y.fault (one_end rules start laws stream y.outcome (Complete x.last) y.leg x.leg) y.at)
    alike r s (inr (inr x)) (inr (inr y)) =
        let e : Complete x.last ≡ Complete y.last = one_end rules start laws stream (Complete x.last) (Complete y.last) x.leg y.leg in
        let same : x.last ≡ y.last = ap (last_in x.last) e in
        made_alike x.last r s x.leg x.made (subst (λ (t : State AnyOp). Made t s) (sym same) y.made)

-- ---- the way of a run

module _ {T A E : Type 0} (m : Meaning T A E) (o : Origin AnyOp) (idle : o.held ≡ []) (stream : List ℕ) (blocks : List (Block T)) (updates : List (Option Target)) (wire : Option Wire) (tells : Tells stream o.wire wire)
    (only : (t : State AnyOp) → Leg o.rules o.start stream (Complete t) → (ops other : List AnyOp) → Assembles t.plan.target.start t.kept ops → Assembles t.plan.target.start t.kept other → other ≡ ops) where
  leg_of : (outcome : Outcome AnyOp) → Over o updates wire outcome → (outcome ≡ Waits → ⊥) → Leg o.rules o.start stream outcome
  leg_of outcome over h = record {
    given = over.given;
    ended = over.ended;
    asks = over.asks;
    session = subst (λ (bs : List ℕ). Session o.rules o.start (bs ++ over.given) over.ended outcome over.asks) idle over.session;
    front = front_of stream o.wire wire over.given over.ended _ tells over.told;
    over = h;
  }

  fell : (outcome : Outcome AnyOp) (fault : Fault) → Over o updates wire outcome → (outcome ≡ Waits → ⊥) → fault_at outcome ≡ Some fault → Way m o.rules o.start stream blocks (Err fault)
  fell outcome fault over h at = inr (inl (record { outcome = outcome; leg = leg_of outcome over h; fault = fault; at = at; is = refl }))

  part_of : (synced : Target) (part : Fetched AnyOp) (f : IsFetched o updates wire synced part) → IsPart o.rules f.finished.last synced part
  part_of synced part f = record {
    target = f.finished.target;
    start = f.finished.start;
    pinned = f.finished.pinned;
    ops = f.finished.ops;
    only = f.finished.only;
    root = f.finished.root;
  }

  kept_leg : (synced : Target) (part : Fetched AnyOp) (f : IsFetched o updates wire synced part) → Leg o.rules o.start stream (Complete f.finished.last)
  kept_leg synced part f = leg_of (Complete f.finished.last) f.finished.over (λ e. absurd cc)

  caused : (cause : ReportFault) (fault : Fault) → fault ≡ fault_of cause → HasNoReport m o updates wire blocks cause → Way m o.rules o.start stream blocks (Err fault)
  caused cause fault e h = inr (inr (record {
    last = h.fetched.finished.last;
    leg = kept_leg h.synced h.part h.fetched;
    made = inr (inr (cause, ap Err e, record { synced = h.synced; part = h.part; is = part_of h.synced h.part h.fetched; fails = h.fails }));
  }))

  freed : (fault : Fault) → IsFree fault → Way m o.rules o.start stream blocks (Err fault)
  freed fault h = inl (record { fault = fault; is = refl; free = h })

  -- a report's way
  pub way_reported : (report : Report A) → Follows m o updates wire blocks report → report.size ≤ 2 ^ 62 → Way m o.rules o.start stream blocks (Ok report)
  way_reported report h near = inr (inr (record {
    last = h.fetched.finished.last;
    leg = kept_leg report.target h.part h.fetched;
    made = inl (report, refl, record { part = h.part; is = part_of report.target h.part h.fetched; pinned = h.pinned; kept = h.kept; of = h.report_is; near = near });
  }))

  -- a fault's way
  pub way_failed : (count : ℕ) (fault : Fault) → FollowFails m o updates wire count blocks fault → Way m o.rules o.start stream blocks (Err fault)
  way_failed count faults.Network h = freed faults.Network tt
  way_failed count faults.RequestChannelClosed h = fell Closes faults.RequestChannelClosed h.stopped.1 (λ e. absurd cc) refl
  way_failed count faults.InvalidResponse h = fell (Offends InvalidResponse) faults.InvalidResponse h.stopped.1 (λ e. absurd cc) refl
  way_failed count (faults.UnexpectedResponse number) h = fell (Offends (UnexpectedResponse number)) (faults.UnexpectedResponse number) h.stopped.1 (λ e. absurd cc) refl
  way_failed count (faults.Server code text) h = fell (Offends (Server code text)) (faults.Server code text) h.stopped.1 (λ e. absurd cc) refl
  way_failed count (faults.InvalidProof number) h = fell (Offends (InvalidProof number)) (faults.InvalidProof number) h.stopped.1 (λ e. absurd cc) refl
  way_failed count faults.TooManyStrays h = fell (Offends TooManyStrays) faults.TooManyStrays h.stopped.1 (λ e. absurd cc) refl
  way_failed count (faults.StaleUpdate start end) h =
      let stale = h.stopped.1 in
      fell (Offends (StaleUpdate stale)) (faults.StaleUpdate start end) h.stopped.4 (λ e. absurd cc)
      (ap (λ (n : ℕ). Some (faults.StaleUpdate n stale.end)) (sym h.stopped.2) ∙ ap (λ (n : ℕ). Some (faults.StaleUpdate start n)) (sym h.stopped.3))
  way_failed count (faults.WrongRoot found) h =
      let t = h.stopped.1 in
      let leg = leg_of (Complete t) h.stopped.2 (λ e. absurd cc) in
      inr (inr (record {
        last = t;
        leg = leg;
        made = inr (inl (found, refl, record { made = h.stopped.3; assembles = h.stopped.4; is = h.stopped.5; differs = h.stopped.6; only = λ other a. only t leg h.stopped.3 other h.stopped.4 a }));
      }))
  way_failed count (faults.BadLog location) h = caused (causes.BadLog location) (faults.BadLog location) refl h
  way_failed count (faults.BadValue location) h = caused (causes.BadValue location) (faults.BadValue location) refl h
  way_failed count (faults.Rejected block rejection) h = caused (causes.Rejected block rejection) (faults.Rejected block rejection) refl h
  way_failed count (faults.Full block) h = caused (causes.Full block) (faults.Full block) refl h
  way_failed count faults.OutOfMemory h = freed faults.OutOfMemory tt
