-- A job over a peer's log: what following it over a link says of the job.
use Rattle.std.proofs.Common.{◌≡◌, ℕ, ◌≤◌, List, [], ◌∷◌, ◌++◌, Option, Some, None, Ok, Err, refl, sym, subst, ◌∙◌, arith, append_assoc}
use Rattle.ledger_codec.specs.Causes.{Rose}
use Rattle.ledger_job.specs.declared.block.Block.{Block}
use Rattle.ledger_job.specs.declared.job.Job.{Job}
use Rattle.ledger_job.specs.declared.payment.Payment.{Payment}
use Rattle.ledger_log.specs.Any.{any_spelling, IsSoundAny}
use Rattle.ledger_log.specs.View.{LogView}
use Rattle.ledger_log.specs.declared.target.Target.{Target}
use Rattle.ledger_program.specs.Follow.{beginning, Follows, FollowFails, TakesLater, Foretold, IsValid}
use Rattle.ledger_program.specs.Peer.{payments, Over, link_over, asked, ReportsPeer, IsServing, FailsPeer, IsNoMemory, FollowPeerFails}
use Rattle.ledger_program.specs.Run.{run_fault_of}
use Rattle.ledger_program.specs.declared.fault.Fault.{Fault}
use Rattle.ledger_program.specs.declared.fault.Fault.TheVariants.{Network, RequestChannelClosed, InvalidResponse, UnexpectedResponse, Server, InvalidProof, TooManyStrays, StaleUpdate, WrongRoot, BadLog, BadValue, Rejected, Full, OutOfMemory as FollowMemory}
use Rattle.ledger_settling.specs.declared.report.Report.{Report}
use Rattle.ledger_transfers.specs.declared.sequenced.Sequenced.{Sequenced}
use Rattle.sync_client.specs.Asking.{LimitsView}
use Rattle.sync_client.specs.Owing.{OwesNothing}
use Rattle.sync_client.specs.Serving.{Serves, HasLater}
use Rattle.sync_client.specs.Updates.{IsSynced, last_of, targets_in}
use Rattle.sync_net.specs.Core.{LogData}
use Rattle.sync_net.specs.Service.{Service}
use Rattle.sync_net.specs.Wire.{Wire}

some_same : {X : Type 0} (o : Option X) (x y : X) → o ≡ Some x → o ≡ Some y → x ≡ y
some_same o x y e f = cc

-- ---- what is taken of the job's later targets

-- whatever the call answered, what it took stands before what it left
pub taken_off : (fault : Fault) (target : Target) (before now : List (Option Target)) → TakesLater {A = Sequenced} (Err fault) target before now → (took : List (Option Target)) × (before ≡ took ++ now)
taken_off Network target before now t = (t.0, t.1.all)
taken_off RequestChannelClosed target before now t = (t.0, t.1.all)
taken_off InvalidResponse target before now t = (t.0, t.1.all)
taken_off (UnexpectedResponse number) target before now t = (t.0, t.1.all)
taken_off (Server code text) target before now t = (t.0, t.1.all)
taken_off (InvalidProof number) target before now t = (t.0, t.1.all)
taken_off TooManyStrays target before now t = (t.0, t.1.all)
taken_off (StaleUpdate start end) target before now t = (t.0 ++ Some t.1 ∷ [], t.2.all ∙ sym (append_assoc t.0 (Some t.1 ∷ []) now))
taken_off (WrongRoot found) target before now t = (t.0, t.1.all)
taken_off (BadLog location) target before now t = (t.0, t.1.all)
taken_off (BadValue location) target before now t = (t.0, t.1.all)
taken_off (Rejected block rejection) target before now t = (t.0, t.1.all)
taken_off (Full block) target before now t = (t.0, t.1.all)
taken_off FollowMemory target before now t = (t.0, t.1.all)

module _ (log : LogView Rattle.ledger_log.specs.declared.any.AnyOp.AnyOp) where
  -- a log that has all later targets has those that were taken
  front_had : (target : Target) (took left : List (Option Target)) → HasLater any_spelling log target (targets_in (took ++ left)) → HasLater any_spelling log target (targets_in took)
  front_had target [] left h = tt
  front_had target (None ∷ took) left h = front_had target took left h
  front_had target (Some later ∷ took) left h = (h.0, h.1, h.2, front_had later took left h.3)

  -- the last one doesn't end before the first
  ends_behind : (target : Target) (later : List Target) → HasLater any_spelling log target later → target.end ≤ (last_of target later).end
  ends_behind target [] h = omega arith
  ends_behind target (later ∷ others) h = let f = h.0.end in let r = ends_behind later others h.3 in omega arith

-- the first start, with the root and end of the last
spanned : (target last : Target) → target.end ≤ last.end → (synced : Target) × IsSynced target last synced
spanned target last h =
    let o = target.ordered in
    (record { root = last.root; start = target.start; end = last.end; ordered = omega arith }, record { start = refl; root = refl; end = refl })

-- what a call over a link that serves says of a fault
abbrev pub Serving : Over → List (Option Target) → List (Option Target) → List (Block Payment) → Fault → Target → Type 0
Serving over answers left blocks fault target =
    (held : LogData) (synced : Target) → (h : Serves any_spelling IsSoundAny held target) → OwesNothing held over.service → Foretold h.log target answers left synced → IsValid payments h.log synced blocks
    → (Rose over.count over.count_now → ⊥) → fault ≡ FollowMemory

module _ (job : Job) (over : Over) (target : Target) (left : List (Option Target)) (fault : Fault) (is : job.target ≡ Some target) (took : TakesLater {A = Sequenced} (Err fault) target job.updates left) (complete : Serving over job.updates left job.blocks fault target) where
  -- a fault over a link that serves the job is want of memory
  only_memory : (held : LogData) → IsServing held job over.service → (Rose over.count over.count_now → ⊥) → fault ≡ FollowMemory
  only_memory held s still =
      let off = taken_off fault target job.updates left took in
      let here : Serving over job.updates left job.blocks fault s.target = subst (Serving over job.updates left job.blocks fault) (some_same job.target target s.target is s.is_target) complete in
      let later : HasLater any_spelling s.serves.log s.target (targets_in off.0) = front_had s.serves.log s.target off.0 left (subst (λ us. HasLater any_spelling s.serves.log s.target (targets_in us)) off.1 s.later) in
      let made = spanned s.target (last_of s.target (targets_in off.0)) (ends_behind s.serves.log s.target (targets_in off.0) later) in
      here held made.0 s.serves s.owes (record { took = off.0; all = off.1; later = later; synced_is = made.1 }) (s.valid off.0 left off.1 made.0 made.1) still

  never : IsNoMemory fault → (held : LogData) → IsServing held job over.service → (Rose over.count over.count_now → ⊥) → ⊥
  never n held s still = subst IsNoMemory (only_memory held s still) n

-- ---- what a call says in the job's words

module _ (job : Job) (over : Over) (target : Target) (answers left : List (Option Target)) (limits : LimitsView) (blocks : List (Block Payment)) (is : job.target ≡ Some target) (a : answers ≡ job.updates) (l : limits ≡ asked job.limits) (b : blocks ≡ job.blocks) where
  pub reports_peer : (report : Report Sequenced) → Follows payments (beginning target answers limits over.wire over.count) left over.wire_now blocks report → TakesLater (Ok report) target answers left → ReportsPeer job over report
  reports_peer report f t = record {
    target = target;
    is_target = is;
    left = left;
    follows =
        subst (λ bs. Follows payments (beginning target job.updates (asked job.limits) over.wire over.count) left over.wire_now bs report) b
        (subst (λ ls. Follows payments (beginning target job.updates ls over.wire over.count) left over.wire_now blocks report) l
        (subst (λ us. Follows payments (beginning target us limits over.wire over.count) left over.wire_now blocks report) a f));
    took = subst (λ us. TakesLater (Ok report) target us left) a t;
  }

  module _ (fault : Fault) (f : FollowFails payments (beginning target answers limits over.wire over.count) left over.wire_now over.count_now blocks fault) (t : TakesLater {A = Sequenced} (Err fault) target answers left) (complete : Serving over answers left blocks fault target) where
    took_peer : TakesLater {A = Sequenced} (Err fault) target job.updates left
    took_peer = subst (λ us. TakesLater {A = Sequenced} (Err fault) target us left) a t

    serving_peer : Serving over job.updates left job.blocks fault target
    serving_peer = subst (λ bs. Serving over job.updates left bs fault target) b (subst (λ us. Serving over us left blocks fault target) a complete)

    pub failed_peer : IsNoMemory fault → FailsPeer job over fault
    failed_peer n = record {
      target = target;
      is_target = is;
      left = left;
      fails =
          subst (λ bs. FollowFails payments (beginning target job.updates (asked job.limits) over.wire over.count) left over.wire_now over.count_now bs fault) b
          (subst (λ ls. FollowFails payments (beginning target job.updates ls over.wire over.count) left over.wire_now over.count_now blocks fault) l
          (subst (λ us. FollowFails payments (beginning target us limits over.wire over.count) left over.wire_now over.count_now blocks fault) a f));
      took = took_peer;
      served = never job over target left fault is took_peer serving_peer n;
    }

-- a fault as one of the run
pub fails_peer : (job : Job) (over : Over) (fault : Fault) → (IsNoMemory fault → FailsPeer job over fault) → FollowPeerFails job over (run_fault_of fault)
fails_peer job over Network f = (tt, f tt)
fails_peer job over RequestChannelClosed f = (tt, f tt)
fails_peer job over InvalidResponse f = (tt, f tt)
fails_peer job over (UnexpectedResponse number) f = (tt, f tt)
fails_peer job over (Server code text) f = (tt, f tt)
fails_peer job over (InvalidProof number) f = (tt, f tt)
fails_peer job over TooManyStrays f = (tt, f tt)
fails_peer job over (StaleUpdate start end) f = (tt, f tt)
fails_peer job over (WrongRoot found) f = (tt, f tt)
fails_peer job over (BadLog location) f = (tt, f tt)
fails_peer job over (BadValue location) f = (tt, f tt)
fails_peer job over (Rejected block rejection) f = (tt, f tt)
fails_peer job over (Full block) f = (tt, f tt)
fails_peer job over FollowMemory f = tt

-- ---- a dial leaves what the link tells

pub over_same : (service now : Option Service) (wire wire_now last : Option Wire) (count count_now end : ℕ) → now ≡ service → wire_now ≡ wire → count_now ≡ count → link_over now wire_now last count_now end ≡ link_over service wire last count end
over_same service now wire wire_now last count count_now end s w n = λ i. record { service = s i; wire = w i; wire_now = last; count = n i; count_now = end }
