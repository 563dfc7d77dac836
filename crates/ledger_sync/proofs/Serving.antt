-- A log that is fetched over a link that serves one.
use Rattle.std.proofs.Common.{◌≡◌, ◌<◌, ◌≤◌, ℕ, ◌+◌, ◌-◌, ◌^◌, Bool, true, false, List, [], ◌∷◌, ◌++◌, length, map, take, drop, Option, Some, None, Result, Ok, Err, refl, sym, ap, subst, ◌∙◌, arith, nat_lt, if◌then◌else◌, inl, inr}
use Rattle.std.specs.Prelude.{nat_le, nat_eq, count_ones, All}
use Rattle.std.proofs.lemmas.Bool.{cases_Bool, ltb-true, lt-ltb, le-leb, eq-eqb}
use Rattle.std.proofs.lemmas.List.{take_all, length-drop}
use Rattle.sha2.specs.Sha256.{sha256}
use Rattle.ledger_codec.specs.Parsing.{Parsed}
use Rattle.ledger_merkle.specs.Tree.{grow, root}
use Rattle.ledger_merkle.specs.declared.proof.Part.{Part as Fetched}
use Rattle.ledger_log.specs.Faults.{parts_refusal, ops_refusal, floor_refusal}
use Rattle.ledger_log.specs.View.{LogView, log_size, log_root, log_root_at, log_range, log_peaks_at, last_floor}
use Rattle.ledger_log.specs.declared.fault.LogFault.{LogFault}
use Rattle.ledger_log.specs.declared.fault.LogFault.TheVariants as refusals
use Rattle.ledger_log.specs.declared.target.Target.{Target}
use Rattle.ledger_log.proofs.Floors.{last_floor-drop}
use Rattle.sync_net.specs.Asking.{number_after}
use Rattle.sync_net.specs.Core.{LogData}
use Rattle.sync_net.specs.Service.{Service}
use Rattle.sync_net.specs.View.{MachineView}
use Rattle.sync_net.specs.Wire.{Wire}
use Rattle.sync_client.specs.declared.fault.SyncFault.{SyncFault}
use Rattle.sync_client.specs.declared.fault.SyncFault.TheVariants as faults
use Rattle.sync_client.specs.Owing.{Begins, Fetches, IsLogs, MayStop, OwesNothing}
use Rattle.sync_client.specs.Parts.{IsPartOf}
use Rattle.sync_client.specs.Serving.{Serves}
use Rattle.sync_client.specs.Updates.{IsSynced, TakesUpdates}
use Rattle.sync_fetch.specs.Served.{IsToldOf, IsTargetOf, IsOver}
use Rattle.sync_fetch.specs.Told.{TargetFetched}
use Rattle.sync_fetch.specs.declared.fault.StateFault.{StateFault}
use Rattle.sync_fetch.specs.declared.fault.StateFault.TheVariants.{Fetch, WrongState}
use Rattle.ledger_sync.specs.Logs.{Opened, log_of_part}
use Rattle.ledger_sync.specs.Served.{StandsFor, LogServed, log_from}

-- ---- the machine between the two

small_after : (n k : ℕ) → number_after n ≡ Some k → k < 2 ^ 64
small_after n k e =
    elim (cases_Bool (nat_lt n (2 ^ 64 - 1))) [
      | inl lt ↦
          let q : Some (n + 1) ≡ Some k = sym (ap (λ (b : Bool). if b then Some (n + 1) else None) lt) ∙ e in
          let same : n + 1 ≡ k = cc q in
          let l = ltb-true n (2 ^ 64 - 1) lt in
          omega arith
      | inr ge ↦
          let q : None ≡ Some k = sym (ap (λ (b : Bool). if b then Some (n + 1) else None) ge) ∙ e in
          absurd (cc q)
    ]

-- after the target the session begins over the same link
pub begins_after : {Op : Type 0} (target : Target) (read : List ℕ → Parsed Op) (written : Op → List ℕ) (m n : MachineView) (before now : Option Wire) (count risen : ℕ) (held : LogData) (service : Option Service)
    → TargetFetched (Ok target) read written m n before now count risen → IsOver held n service → Begins held n service
begins_after target read written m n before now count risen held service (r, e, (live, number, next, came)) over = record {
  live = came.live;
  empty = over.0;
  small = λ k f. small_after number k (sym came.number_next ∙ f);
  told = over.1;
}

-- where no later target was taken, what was synced is the target
pub synced_is : {X : Type 0} (x : Target × X) (target : Target) → TakesUpdates (Ok x) target [] [] → IsSynced target target x.0
synced_is x target ([], taken, is) = is
synced_is x target (answer ∷ took, taken, is) = absurd (cc taken.all)

module _ {Op : Type 0} (written : Op → List ℕ) (sound : Op → Type 0) (floor_of : Op → Option ℕ) (held : LogData) (h : StandsFor written sound floor_of held) where
  -- what the link tells, as the fetch of a target takes it
  abbrev pub told_of : IsToldOf written held
  told_of = record { log = h.log; is = h.is; most = h.most; floor = h.within }

  pub whole_root : log_root_at sha256 written h.log (log_size h.log) ≡ log_root sha256 written h.log
  whole_root = ap (λ (xs : List Op). root sha256 (log_size h.log) (grow sha256 h.log.front h.log.pinned (map written xs))) (take_all (log_size h.log - h.log.front) h.log.ops (omega arith))

  module _ (target : Target) (t : IsTargetOf written held h.log target) where
    pub front_so : h.log.front ≤ target.start
    front_so = let l = h.least in let e = t.start in omega arith

    pub size_so : target.end ≤ log_size h.log
    size_so = let e = t.end in omega arith

    pub root_so : log_root_at sha256 written h.log target.end ≡ target.root
    root_so = ap (log_root_at sha256 written h.log) t.end ∙ (whole_root ∙ sym t.root)

    -- and as the session for its target does
    abbrev pub serves_of : Serves written sound held target
    serves_of = record { log = h.log; is = h.is; ops = h.ops; nodes = h.nodes; count = h.count; front = front_so; size = size_so; most = h.most; root = root_so }

    module _ (spelling : Op → List ℕ) (synced : Target) (part : Fetched Op) (s : IsSynced target target synced) (p : IsPartOf spelling synced part) (m : MachineView) (now : Option Service) (own : IsLogs written held h.log synced part m now) where
      start_is : synced.start ≡ held.floor
      start_is = s.start ∙ t.start

      end_is : synced.end ≡ log_size h.log
      end_is = s.end ∙ t.end

      ops_are : part.ops ≡ log_range h.log held.floor (log_size h.log - held.floor)
      ops_are = own.ops ∙ (ap (λ (n : ℕ). log_range h.log n (synced.end - n)) start_is ∙ ap (λ (n : ℕ). log_range h.log held.floor (n - held.floor)) end_is)

      nodes_are : part.pinned ≡ log_peaks_at sha256 written h.log held.floor
      nodes_are = own.pinned ∙ ap (log_peaks_at sha256 written h.log) start_is

      -- the part is the log from its floor on
      part_is : log_of_part part ≡ log_from written h.log held.floor
      part_is = λ i. record { front = (p.start ∙ start_is) i; pinned = nodes_are i; ops = ops_are i }

      pub log_served : (log : LogView Op) → Opened floor_of part (Ok log) → LogServed written held h.log (Ok log) m now
      log_served log o = (o.1 ∙ part_is, (own.empty, own.told))

      -- its last operation is that of the log
      rest_is : log_range h.log held.floor (log_size h.log - held.floor) ≡ drop (held.floor - h.log.front) h.log.ops
      rest_is = take_all (log_size h.log - held.floor) (drop (held.floor - h.log.front) h.log.ops) (let l = h.least in let n = length-drop (held.floor - h.log.front) h.log.ops in omega arith)

      floor_is : last_floor floor_of part.ops ≡ Some held.floor
      floor_is = ap (last_floor floor_of) (ops_are ∙ rest_is) ∙ (last_floor-drop floor_of (held.floor - h.log.front) h.log.ops (let l = h.least in let w = h.within in omega arith) ∙ h.floor)

      length_is : part.start + length part.ops ≡ log_size h.log
      length_is =
          let w = h.within in
          let start : part.start ≡ held.floor = p.start ∙ start_is in
          let count = p.count in
          let first = start_is in
          let last = end_is in
          omega arith

      nodes_count : nat_eq (length part.pinned) (count_ones part.start) ≡ true
      nodes_count = eq-eqb _ _ (p.nodes ∙ ap count_ones (sym p.start))

      not_long : nat_le (part.start + length part.ops) (2 ^ 62) ≡ true
      not_long = le-leb _ _ (let m = h.most in let e = length_is in omega arith)

      not_below : nat_le part.start held.floor ≡ true
      not_below = le-leb _ _ (let e = p.start in let f = start_is in omega arith)

      within_so : nat_lt held.floor (part.start + length part.ops) ≡ true
      within_so = lt-ltb _ _ (let w = h.within in let e = length_is in omega arith)

      floored : floor_refusal part.start (part.start + length part.ops) (Some held.floor) ≡ None
      floored =
          ap (λ (b : Bool). if b then (if nat_lt held.floor (part.start + length part.ops) then None else Some (refusals.FloorOutside held.floor)) else Some (refusals.FloorOutside held.floor)) not_below
          ∙ ap (λ (b : Bool). if b then None else Some (refusals.FloorOutside held.floor)) within_so

      -- nothing refuses it
      taken : parts_refusal floor_of (log_of_part part) ≡ None
      taken =
          ap (λ (b : Bool). if b then ops_refusal floor_of part.start part.ops else Some (refusals.Nodes (count_ones part.start))) nodes_count
          ∙ (ap (λ (b : Bool). if b then floor_refusal part.start (part.start + length part.ops) (last_floor floor_of part.ops) else Some refusals.Size) not_long
          ∙ (ap (floor_refusal part.start (part.start + length part.ops)) floor_is ∙ floored))

      none_or_some : (fault : LogFault) (o : Option LogFault) → o ≡ None → o ≡ Some fault → ⊥
      none_or_some fault o n s = absurd (cc (sym n ∙ s))

      pub unopened_served : (fault : StateFault) → Opened floor_of part (Err fault) → LogServed written held h.log (Err fault) m now
      unopened_served (WrongState fault) o = none_or_some fault (parts_refusal floor_of (log_of_part part)) taken o
      unopened_served (Fetch fault) o = subst MayStop (sym o) tt
