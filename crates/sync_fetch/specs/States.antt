-- What came of fetching a compact state, and what was made of it.
use Rattle.std.specs.Prelude.{◌≡◌, ℕ, List, Option, Some, None, Result, Ok, Err}
use Rattle.ledger_codec.specs.Parsing.{Parsed}
use Rattle.ledger_log.specs.declared.target.CompactTarget.{CompactTarget}
use Rattle.ledger_log.specs.declared.target.CompactState.{CompactState}
use Rattle.ledger_compact.specs.View.{CompactView, view_of}
use Rattle.ledger_compact.specs.Refusals.{state_refusal}
use Rattle.sync_net.specs.declared.ask.Ask.TheVariants as asks
use Rattle.sync_net.specs.declared.message.Message.TheVariants as messages
use Rattle.sync_net.specs.declared.response.GetCompactStateResponse.{GetCompactStateResponse}
use Rattle.sync_net.specs.View.{MachineView}
use Rattle.sync_net.specs.Wire.{Wire}
use Rattle.sync_client.specs.declared.fault.SyncFault.{SyncFault}
use Rattle.sync_client.specs.declared.fault.SyncFault.TheVariants as faults
use Rattle.sync_fetch.specs.declared.fault.StateFault.{StateFault}
use Rattle.sync_fetch.specs.declared.fault.StateFault.TheVariants.{Fetch, WrongState}
use Rattle.sync_fetch.specs.Told.{FetchStops, FetchCame}

-- the state that was fetched for a target, or why none was
abbrev pub StateFetched : {Op : Type 0} → CompactTarget → Result (CompactState Op) SyncFault → (List ℕ → Parsed Op) → (Op → List ℕ) → MachineView → MachineView → Option Wire → Option Wire → ℕ → ℕ → Type 0
StateFetched {Op} target (Ok state) read written m n before now count risen = (r : GetCompactStateResponse Op) × (r.state ≡ state) × FetchCame read written (asks.CompactState target) (messages.GetCompactStateResponse r) m n before now
StateFetched target (Err fault) read written m n before now count risen = FetchStops fault read written (asks.CompactState target) m n before now count risen

-- the compact log of the state that was fetched; or why there is none: that state is refused so, or none was fetched
abbrev pub CompactFetched : {Op : Type 0} → (List ℕ → List ℕ) → (Op → List ℕ) → (Op → Option ℕ) → CompactTarget → Result (CompactView Op) StateFault → (List ℕ → Parsed Op) → (Op → List ℕ) → MachineView → MachineView → Option Wire → Option Wire → ℕ → ℕ → Type 0
CompactFetched {Op} hash spelling floor_of target (Ok log) read written m n before now count risen = (state : CompactState Op) × StateFetched target (Ok state) read written m n before now count risen × (state_refusal hash spelling floor_of target state ≡ None) × (log ≡ view_of state)
CompactFetched {Op} hash spelling floor_of target (Err (WrongState fault)) read written m n before now count risen = (state : CompactState Op) × StateFetched target (Ok state) read written m n before now count risen × (state_refusal hash spelling floor_of target state ≡ Some fault)
CompactFetched {Op} hash spelling floor_of target (Err (Fetch fault)) read written m n before now count risen = StateFetched {Op = Op} target (Err fault) read written m n before now count risen

-- ---- the link's count of faults

-- each answer but Network leaves the count
abbrev pub KeptUnlessNetwork : {X : Type 0} → Result X StateFault → ℕ → ℕ → Type 0
KeptUnlessNetwork (Err (Fetch faults.Network)) before now = Unit {0}
KeptUnlessNetwork result before now = now ≡ before

-- the count stays, and Network isn't answered
abbrev pub KeptAndNoNetwork : {X : Type 0} → Result X StateFault → ℕ → ℕ → Type 0
KeptAndNoNetwork (Err (Fetch faults.Network)) before now = ⊥
KeptAndNoNetwork result before now = now ≡ before
