-- A log that was brought over a link, and why none was.
use Rattle.std.proofs.Common.{◌≡◌, ◌<◌, ◌≤◌, ℕ, ◌+◌, ◌-◌, ◌^◌, Bool, true, false, List, [], length, map, Option, Some, None, Result, Ok, Err, refl, sym, ap, subst, ◌∙◌, arith, inl, inr, if◌then◌else◌}
use Rattle.std.proofs.lemmas.Bool.{lt-ltb}
use Rattle.std.proofs.lemmas.List.{length-map}
use Rattle.sha2.specs.Sha256.{sha256}
use Rattle.ledger_codec.specs.Causes.{Rose}
use Rattle.ledger_codec.specs.Parsing.{Parsed}
use Rattle.ledger_compact.specs.View.{CompactView, compact_root}
use Rattle.ledger_examples.specs.declared.names.SyncMode.{SyncMode}
use Rattle.ledger_examples.specs.declared.names.SyncMode.TheVariants as mode
use Rattle.ledger_examples.specs.declared.names.DatabaseType.{DatabaseType}
use Rattle.ledger_examples.specs.declared.names.DatabaseType.TheVariants as family
use Rattle.ledger_log.specs.View.{LogView, log_size, log_root, last_floor}
use Rattle.ledger_merkle.specs.Tree.{root, grow}
use Rattle.ledger_merkle.specs.declared.proof.Part.{Part as Fetched}
use Rattle.ledger_sync.proofs.Serving.{synced_is}
use Rattle.ledger_sync.specs.Compacts.{CompactLogFetched, StateEnded}
use Rattle.ledger_sync.specs.Logs.{LogFetched, SessionEnded, Opened}
use Rattle.ledger_sync.specs.Served.{LogServed}
use Rattle.sync_client.specs.Asking.{LimitsView, first_plan}
use Rattle.sync_client.specs.Ending.{origin_of}
use Rattle.sync_client.specs.Owing.{Begins, OwesNothing}
use Rattle.sync_client.specs.Session.{started}
use Rattle.sync_client.specs.declared.fault.SyncFault.{SyncFault}
use Rattle.sync_client.specs.declared.fault.SyncFault.TheVariants as session
use Rattle.sync_fetch.specs.Told.{TargetFetched, CompactTargetFetched}
use Rattle.sync_fetch.specs.declared.fault.StateFault.{StateFault}
use Rattle.sync_fetch.specs.declared.fault.StateFault.TheVariants.{Fetch, WrongState}
use Rattle.sync_net.specs.Asking.{number_after}
use Rattle.sync_net.specs.Core.{LogData}
use Rattle.sync_net.specs.Service.{Service}
use Rattle.sync_net.specs.View.{MachineView}
use Rattle.ledger_sync.proofs.Numbering.{numbers_last_from}
use Rattle.ledger_sync.specs.Brought.{Over, idle, IsFull, IsNoFull, IsCompact, IsNoCompact, BringsNoneIn, CanFail, MayFail}
use Rattle.ledger_sync.specs.declared.synced.Synced.{Synced}

rose_before : (x y z : ℕ) → x ≤ y → Rose y z → Rose x z
rose_before x y z h r = omega (arith, r, h)

-- so a call begins over a link that serves a log and owes nothing
pub begins_so : (held : LogData) (v : MachineView) (now : Option Service) → v ≡ idle (Some 1) → OwesNothing held now → Begins held v now
begins_so held v now e told = subst (λ (x : MachineView). Begins held x now) (sym e) (record { live = refl; empty = refl; small = λ n h. (let one : 1 ≡ n = cc h in omega arith); told = told })

-- the first number is 1, and 2 comes behind it
second : (n : ℕ) → Some 1 ≡ Some n → number_after n ≡ Some 2
second n e =
    let one : 1 ≡ n = cc e in
    subst (λ (k : ℕ). number_after k ≡ Some 2) one (ap (λ (b : Bool). if b then Some (1 + 1) else None) (lt-ltb 1 (2 ^ 64 - 1) (omega arith)))

module _ {Op : Type 0} (spelling : Op → List ℕ) (floor_of : Op → Option ℕ) (read : List ℕ → Parsed Op) (written : Op → List ℕ) (over : Over) where
  -- ---- with operations

  module _ (limits : LimitsView) where
    module _ (log : LogView Op) (machine : MachineView) (h : LogFetched spelling floor_of limits (Ok log) read written (idle (Some 1)) machine over.wire over.wire_now over.count over.count_now) where
      front_is : log.front ≡ h.0.session.target.start
      front_is = ap (λ (l : LogView Op). l.front) h.1.1 ∙ (h.0.whole.start ∙ (synced_is (h.0.synced, h.0.part) h.0.session.target h.0.took).start)

      size_is : log_size log ≡ h.0.session.target.end
      size_is =
          let counted = h.0.whole.count in
          let first = h.0.whole.start in
          let ordered = h.0.synced.ordered in
          let own : h.0.part.start + length h.0.part.ops ≡ h.0.synced.end = omega arith in
          ap (λ (l : LogView Op). log_size l) h.1.1 ∙ (own ∙ (synced_is (h.0.synced, h.0.part) h.0.session.target h.0.took).end)

      root_is : log_root sha256 spelling log ≡ h.0.session.target.root
      root_is =
          ap (log_root sha256 spelling) h.1.1
          ∙ (ap (λ (n : ℕ). root sha256 (h.0.part.start + n) (grow sha256 h.0.part.start h.0.part.pinned (map spelling h.0.part.ops))) (sym (length-map h.0.part.ops spelling))
          ∙ (h.0.whole.root ∙ (synced_is (h.0.synced, h.0.part) h.0.session.target h.0.took).root))

      -- the log was brought, and shows this of itself
      pub full_so : (s : Synced) → s.start ≡ Some log.front → s.size ≡ log_size log → s.root ≡ log_root sha256 spelling log → last_floor floor_of log.ops ≡ Some s.floor → IsFull spelling floor_of read written limits over s
      full_so s start size the_root floor = record {
        log = log;
        machine = machine;
        fetched = h;
        start = start ∙ ap Some front_is;
        size = size ∙ size_is;
        root = the_root ∙ root_is;
        floor = floor;
      }

    module _ (machine : MachineView) where
      -- under numbers from 1 on the session isn't closed, and has a number for each ask
      session_can : (few : limits.outstanding ≤ 64) (fault : SyncFault) → SessionEnded spelling limits (Err fault) read written (idle (Some 1)) machine over.wire over.wire_now over.count over.count_now → CanFail (Fetch fault)
      session_can few session.Network s = tt
      session_can few session.RequestChannelClosed s = tt
      session_can few session.InvalidResponse s = tt
      session_can few (session.UnexpectedResponse number) s = tt
      session_can few (session.Server code text) s = tt
      session_can few (session.InvalidProof number) s = tt
      session_can few session.TooManyStrays s = tt
      session_can few (session.StaleUpdate start end) s = tt
      session_can few (session.WrongRoot found) s = tt
      session_can few session.OutOfMemory s = tt
      session_can few session.Closed s =
          let came = s.fetched.2.3 in
          absurd (cc (sym came.live ∙ s.ended.1))
      session_can few session.Exhausted s =
          let came = s.fetched.2.3 in
          let next : s.machine.next ≡ Some 2 = came.number_next ∙ second s.fetched.2.1 s.fetched.2.2 in
          let begun = ap (λ (n : Option ℕ). started {Op = Op} (first_plan s.target limits) n []) next in
          numbers_last_from 2 (origin_of read written spelling s.target [] limits s.machine s.wire s.faults_then) [] [] over.wire_now (first_plan s.target limits) (omega arith) begun few s.ended.2

      target_can : (fault : SyncFault) → TargetFetched {Op = Op} (Err fault) read written (idle (Some 1)) machine over.wire over.wire_now over.count over.count_now → CanFail (Fetch fault)
      target_can session.Network s = tt
      target_can session.RequestChannelClosed s = tt
      target_can session.InvalidResponse s = tt
      target_can (session.UnexpectedResponse number) s = tt
      target_can (session.Server code text) s = tt
      target_can (session.InvalidProof number) s = tt
      target_can session.TooManyStrays s = tt
      target_can (session.StaleUpdate start end) s = tt
      target_can (session.WrongRoot found) s = tt
      target_can session.OutOfMemory s = tt
      target_can session.Closed s = absurd (cc s.0)
      target_can session.Exhausted s = absurd (cc s.1)

      opened_can : (part : Fetched Op) (fault : SyncFault) → Opened floor_of part (Err (Fetch fault)) → CanFail (Fetch fault)
      opened_can part fault o = subst (λ (f : SyncFault). CanFail (Fetch f)) (sym o) tt

      pub full_can : limits.outstanding ≤ 64 → (fault : StateFault) → LogFetched spelling floor_of limits (Err fault) read written (idle (Some 1)) machine over.wire over.wire_now over.count over.count_now → CanFail fault
      full_can few (WrongState fault) h = tt
      full_can few (Fetch fault) (inl t) = target_can fault t
      full_can few (Fetch fault) (inr (inl s)) = session_can few fault s
      full_can few (Fetch fault) (inr (inr p)) = opened_can p.0.part fault p.1

      network_rose : LogFetched spelling floor_of limits (Err (Fetch session.Network)) read written (idle (Some 1)) machine over.wire over.wire_now over.count over.count_now → Rose over.count over.count_now
      network_rose (inl t) = t.1
      network_rose (inr (inl s)) = rose_before over.count s.faults_then over.count_now s.later s.ended.0
      network_rose (inr (inr p)) = absurd (cc p.1)

    -- where a call of the link failed, its count rose
    pub full_rose : IsNoFull spelling floor_of read written limits over (Fetch session.Network) → Rose over.count over.count_now
    full_rose n = network_rose n.machine n.fetched

  -- ---- without them

  -- the compact log was brought, and shows this of itself
  pub compact_so : (log : CompactView Op) (machine : MachineView) (h : CompactLogFetched sha256 spelling floor_of (Ok log) read written (idle (Some 1)) machine over.wire over.wire_now over.count over.count_now) (s : Synced)
      → s.start ≡ None → s.size ≡ log.size → s.root ≡ compact_root sha256 log → floor_of log.last ≡ Some s.floor → IsCompact spelling floor_of read written over s
  compact_so log machine h s start size the_root floor = record {
    log = log;
    machine = machine;
    fetched = h;
    start = start;
    size = size ∙ h.2;
    root = the_root ∙ h.1;
    floor = floor;
  }

  module _ (machine : MachineView) where
    compact_target_can : (fault : SyncFault) → CompactTargetFetched {Op = Op} (Err fault) read written (idle (Some 1)) machine over.wire over.wire_now over.count over.count_now → CanFail (Fetch fault)
    compact_target_can session.Network s = tt
    compact_target_can session.RequestChannelClosed s = tt
    compact_target_can session.InvalidResponse s = tt
    compact_target_can (session.UnexpectedResponse number) s = tt
    compact_target_can (session.Server code text) s = tt
    compact_target_can (session.InvalidProof number) s = tt
    compact_target_can session.TooManyStrays s = tt
    compact_target_can (session.StaleUpdate start end) s = tt
    compact_target_can (session.WrongRoot found) s = tt
    compact_target_can session.OutOfMemory s = tt
    compact_target_can session.Closed s = absurd (cc s.0)
    compact_target_can session.Exhausted s = absurd (cc s.1)

    state_can : (fault : SyncFault) → StateEnded sha256 spelling floor_of (Err (Fetch fault)) read written (idle (Some 1)) machine over.wire over.wire_now over.count over.count_now → CanFail (Fetch fault)
    state_can session.Network s = tt
    state_can session.RequestChannelClosed s = tt
    state_can session.InvalidResponse s = tt
    state_can (session.UnexpectedResponse number) s = tt
    state_can (session.Server code text) s = tt
    state_can (session.InvalidProof number) s = tt
    state_can session.TooManyStrays s = tt
    state_can (session.StaleUpdate start end) s = tt
    state_can (session.WrongRoot found) s = tt
    state_can session.OutOfMemory s = tt
    state_can session.Closed s =
        let came = s.fetched.2.3 in
        absurd (cc (sym came.live ∙ s.ended.0))
    state_can session.Exhausted s =
        let came = s.fetched.2.3 in
        let next : s.machine.next ≡ Some 2 = came.number_next ∙ second s.fetched.2.1 s.fetched.2.2 in
        absurd (cc (sym next ∙ s.ended.1))

    pub compact_can : (fault : StateFault) → CompactLogFetched sha256 spelling floor_of (Err fault) read written (idle (Some 1)) machine over.wire over.wire_now over.count over.count_now → CanFail fault
    compact_can (WrongState fault) h = tt
    compact_can (Fetch fault) (inl t) = compact_target_can fault t
    compact_can (Fetch fault) (inr s) = state_can fault s

    compact_network_rose : CompactLogFetched sha256 spelling floor_of (Err (Fetch session.Network)) read written (idle (Some 1)) machine over.wire over.wire_now over.count over.count_now → Rose over.count over.count_now
    compact_network_rose (inl t) = t.1
    compact_network_rose (inr s) = rose_before over.count s.faults_then over.count_now s.later s.ended.1

  pub compact_rose : IsNoCompact spelling floor_of read written over (Fetch session.Network) → Rose over.count over.count_now
  compact_rose n = compact_network_rose n.machine n.fetched

-- ---- over a link that serves a log

pub served_may : {Op : Type 0} (written : Op → List ℕ) (held : LogData) (log : LogView Op) (m : MachineView) (now : Option Service) (fault : StateFault) → CanFail fault → LogServed written held log (Err fault) m now → MayFail fault
served_may written held log m now (WrongState fault) c h = absurd h
served_may written held log m now (Fetch session.Network) c h = tt
served_may written held log m now (Fetch session.RequestChannelClosed) c h = absurd h
served_may written held log m now (Fetch session.InvalidResponse) c h = absurd h
served_may written held log m now (Fetch (session.UnexpectedResponse number)) c h = absurd h
served_may written held log m now (Fetch (session.Server code text)) c h = absurd h
served_may written held log m now (Fetch (session.InvalidProof number)) c h = absurd h
served_may written held log m now (Fetch session.TooManyStrays) c h = absurd h
served_may written held log m now (Fetch (session.StaleUpdate start end)) c h = absurd h
served_may written held log m now (Fetch (session.WrongRoot found)) c h = absurd h
served_may written held log m now (Fetch session.OutOfMemory) c h = tt
served_may written held log m now (Fetch session.Closed) c h = absurd h
served_may written held log m now (Fetch session.Exhausted) c h = absurd c

-- whatever was asked for, where a call of the link failed, its count rose
pub none_rose : (m : SyncMode) (f : DatabaseType) (limits : LimitsView) (over : Over) → BringsNoneIn m f limits over (Fetch session.Network) → Rose over.count over.count_now
none_rose mode.Full family.Any limits over n = full_rose _ _ _ _ over limits n
none_rose mode.Full family.Current limits over n = full_rose _ _ _ _ over limits n
none_rose mode.Full family.Immutable limits over n = full_rose _ _ _ _ over limits n
none_rose mode.Full family.Keyless limits over n = full_rose _ _ _ _ over limits n
none_rose mode.Compact family.Any limits over n = absurd n
none_rose mode.Compact family.Current limits over n = absurd n
none_rose mode.Compact family.Immutable limits over n = compact_rose _ _ _ _ over n
none_rose mode.Compact family.Keyless limits over n = compact_rose _ _ _ _ over n
