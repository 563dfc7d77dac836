-- What came over a link for a form of `sync`.
use Rattle.std.specs.Prelude.{◌≡◌, ℕ, false, List, [], Option, Some, None, Ok, Err, ⊤}
use Rattle.sha2.specs.Sha256.{sha256}
use Rattle.ledger_codec.specs.Parsing.{Parsed}
use Rattle.ledger_compact.specs.View.{CompactView}
use Rattle.ledger_examples.specs.declared.names.SyncMode.{SyncMode}
use Rattle.ledger_examples.specs.declared.names.SyncMode.TheVariants as mode
use Rattle.ledger_examples.specs.declared.names.DatabaseType.{DatabaseType}
use Rattle.ledger_examples.specs.declared.names.DatabaseType.TheVariants as family
use Rattle.ledger_log.specs.Any.{any_spelling, any_floor, IsSoundAny}
use Rattle.ledger_log.specs.Immutable.{immutable_spelling, immutable_floor, IsSoundImmutable}
use Rattle.ledger_log.specs.Keyless.{keyless_spelling, keyless_floor, IsSoundKeyless}
use Rattle.ledger_log.specs.Spellings.{any_at, immutable_at, keyless_at}
use Rattle.ledger_log.specs.View.{LogView, last_floor}
use Rattle.ledger_sync.specs.Compacts.{CompactLogFetched}
use Rattle.ledger_sync.specs.Logs.{LogFetched}
use Rattle.ledger_sync.specs.Served.{StandsFor}
use Rattle.ledger_sync.specs.declared.form.SyncForm.{SyncForm}
use Rattle.sync_client.specs.Asking.{LimitsView}
use Rattle.sync_client.specs.Owing.{OwesNothing, MayStop}
use Rattle.sync_client.specs.declared.fault.SyncFault.TheVariants as session
use Rattle.sync_fetch.specs.declared.fault.StateFault.{StateFault}
use Rattle.sync_fetch.specs.declared.fault.StateFault.TheVariants.{Fetch, WrongState}
use Rattle.sync_net.specs.Core.{LogData}
use Rattle.sync_net.specs.Service.{Service}
use Rattle.sync_net.specs.View.{MachineView}
use Rattle.sync_net.specs.Wire.{Wire}
use Rattle.ledger_sync.specs.declared.synced.Synced.{Synced}

-- what a link told as a call began, its bytes as it ended, and its counts
pub record Over : Type 0 where
  pub service : Option Service
  pub wire : Option Wire
  pub wire_now : Option Wire
  pub count : ℕ
  pub count_now : ℕ

-- the same of these parts
abbrev pub link_over : Option Service → Option Wire → Option Wire → ℕ → ℕ → Over
link_over service wire wire_now count count_now = record { service = service; wire = wire; wire_now = wire_now; count = count; count_now = count_now }

-- a machine that has asked nothing and holds nothing, with this next number
abbrev pub idle : Option ℕ → MachineView
idle next = record { next = next; pending = []; held = []; closed = false }

module _ {Op : Type 0} (spelling : Op → List ℕ) (floor_of : Op → Option ℕ) (read : List ℕ → Parsed Op) (written : Op → List ℕ) where
  -- A log was fetched over the link under numbers from 1 on, and this is what it shows of itself: the start, the size and the root of the target that was served, and its own last commit's floor.
  pub record IsFull (limits : LimitsView) (over : Over) (s : Synced) : Type 0 where
    pub log : LogView Op
    pub machine : MachineView
    pub fetched : LogFetched spelling floor_of limits (Ok log) read written (idle (Some 1)) machine over.wire over.wire_now over.count over.count_now
    pub start : s.start ≡ Some fetched.0.session.target.start
    pub size : s.size ≡ fetched.0.session.target.end
    pub root : s.root ≡ fetched.0.session.target.root
    pub floor : last_floor floor_of log.ops ≡ Some s.floor

  -- no log was fetched, for this fault
  pub record IsNoFull (limits : LimitsView) (over : Over) (fault : StateFault) : Type 0 where
    pub machine : MachineView
    pub fetched : LogFetched spelling floor_of limits (Err fault) read written (idle (Some 1)) machine over.wire over.wire_now over.count over.count_now

  -- A compact log was fetched over the link under numbers from 1 on, and this is what it shows of itself: the size and the root of the target that was served, and its last commit's floor.
  pub record IsCompact (over : Over) (s : Synced) : Type 0 where
    pub log : CompactView Op
    pub machine : MachineView
    pub fetched : CompactLogFetched sha256 spelling floor_of (Ok log) read written (idle (Some 1)) machine over.wire over.wire_now over.count over.count_now
    pub start : s.start ≡ None
    pub size : s.size ≡ fetched.0.target.leaf_count
    pub root : s.root ≡ fetched.0.target.root
    pub floor : floor_of log.last ≡ Some s.floor

  -- no compact log was fetched, for this fault
  pub record IsNoCompact (over : Over) (fault : StateFault) : Type 0 where
    pub machine : MachineView
    pub fetched : CompactLogFetched sha256 spelling floor_of (Err fault) read written (idle (Some 1)) machine over.wire over.wire_now over.count over.count_now

-- ---- family by family

-- a log of the family was fetched
abbrev pub BringsFull : DatabaseType → LimitsView → Over → Synced → Type 0
BringsFull family.Any limits over s = IsFull any_spelling any_floor any_at any_spelling limits over s
BringsFull family.Current limits over s = IsFull any_spelling any_floor any_at any_spelling limits over s
BringsFull family.Immutable limits over s = IsFull immutable_spelling immutable_floor immutable_at immutable_spelling limits over s
BringsFull family.Keyless limits over s = IsFull keyless_spelling keyless_floor keyless_at keyless_spelling limits over s

abbrev pub BringsNoFull : DatabaseType → LimitsView → Over → StateFault → Type 0
BringsNoFull family.Any limits over fault = IsNoFull any_spelling any_floor any_at any_spelling limits over fault
BringsNoFull family.Current limits over fault = IsNoFull any_spelling any_floor any_at any_spelling limits over fault
BringsNoFull family.Immutable limits over fault = IsNoFull immutable_spelling immutable_floor immutable_at immutable_spelling limits over fault
BringsNoFull family.Keyless limits over fault = IsNoFull keyless_spelling keyless_floor keyless_at keyless_spelling limits over fault

-- a compact log of the family was fetched
abbrev pub BringsCompact : DatabaseType → Over → Synced → Type 0
BringsCompact family.Any over s = ⊥
BringsCompact family.Current over s = ⊥
BringsCompact family.Immutable over s = IsCompact immutable_spelling immutable_floor immutable_at immutable_spelling over s
BringsCompact family.Keyless over s = IsCompact keyless_spelling keyless_floor keyless_at keyless_spelling over s

abbrev pub BringsNoCompact : DatabaseType → Over → StateFault → Type 0
BringsNoCompact family.Any over fault = ⊥
BringsNoCompact family.Current over fault = ⊥
BringsNoCompact family.Immutable over fault = IsNoCompact immutable_spelling immutable_floor immutable_at immutable_spelling over fault
BringsNoCompact family.Keyless over fault = IsNoCompact keyless_spelling keyless_floor keyless_at keyless_spelling over fault

-- a log in the mode was fetched
abbrev pub BringsIn : SyncMode → DatabaseType → LimitsView → Over → Synced → Type 0
BringsIn mode.Full f limits over s = BringsFull f limits over s
BringsIn mode.Compact f limits over s = BringsCompact f over s

abbrev pub BringsNoneIn : SyncMode → DatabaseType → LimitsView → Over → StateFault → Type 0
BringsNoneIn mode.Full f limits over fault = BringsNoFull f limits over fault
BringsNoneIn mode.Compact f limits over fault = BringsNoCompact f over fault

-- a log of the form's family and in its mode was fetched, and shows this of itself
abbrev pub Brings : SyncForm → Over → Synced → Type 0
Brings form over s = (s.family ≡ form.family) × BringsIn form.mode form.family form.limits over s

-- none was, for this fault
abbrev pub BringsNone : SyncForm → Over → StateFault → Type 0
BringsNone form over fault = BringsNoneIn form.mode form.family form.limits over fault

-- ---- faults

-- under numbers from 1 on no machine is closed, and the numbers don't come to their end
abbrev pub CanFail : StateFault → Type 0
CanFail (Fetch session.Closed) = ⊥
CanFail (Fetch session.Exhausted) = ⊥
CanFail fault = ⊤

-- a call of the link failed, or memory was wanting
abbrev pub MayFail : StateFault → Type 0
MayFail (Fetch session.Network) = ⊤
MayFail (Fetch session.OutOfMemory) = ⊤
MayFail fault = ⊥

-- the link serves a log of the family, and owes nothing
abbrev pub IsServed : DatabaseType → Option Service → Type 0
IsServed family.Any now = (held : LogData) × StandsFor any_spelling IsSoundAny any_floor held × OwesNothing held now
IsServed family.Current now = (held : LogData) × StandsFor any_spelling IsSoundAny any_floor held × OwesNothing held now
IsServed family.Immutable now = (held : LogData) × StandsFor immutable_spelling IsSoundImmutable immutable_floor held × OwesNothing held now
IsServed family.Keyless now = (held : LogData) × StandsFor keyless_spelling IsSoundKeyless keyless_floor held × OwesNothing held now
