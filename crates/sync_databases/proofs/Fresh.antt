-- A fresh log, served and synced to its target.
use Rattle.std.proofs.Common.{◌≡◌, ◌<◌, ◌≤◌, ◌^◌, ℕ, List, [], All, length, Option, Some, None, Result, Err, refl, sym, subst, arith, inl, inr}
use Rattle.std.proofs.lemmas.List.Elements.{All-cons, All-nil}
use Rattle.std.specs.Prelude.{◌⊎◌, count_ones, IsOkUnless}
use Rattle.sha2.specs.Sha256.{sha256}
use Rattle.ledger_compact.specs.View.{fresh_log}
use Rattle.ledger_databases.specs.Targets.{IsTargetOf as IsOwnTarget}
use Rattle.ledger_log.specs.Any.{any_commit, any_floor, any_spelling, IsSoundAny}
use Rattle.ledger_log.specs.Spellings.{any_at}
use Rattle.ledger_log.specs.View.{LogView, log_size}
use Rattle.ledger_log.specs.declared.any.AnyOp.{AnyOp}
use Rattle.ledger_log.specs.declared.target.Target.{Target}
use Rattle.ledger_sync.proofs.Numbering.{numbers_last_from}
use Rattle.ledger_sync.specs.Brought.{idle}
use Rattle.ledger_sync.specs.Served.{LogServed, StandsFor, log_from}
use Rattle.sync_client.specs.Asking.{LimitsView, first_plan}
use Rattle.sync_client.specs.Ending.{origin_of}
use Rattle.sync_client.specs.declared.fault.SyncFault.{SyncFault}
use Rattle.sync_client.specs.declared.fault.SyncFault.TheVariants as session
use Rattle.sync_fetch.specs.Served.{IsTargetOf}
use Rattle.sync_fetch.specs.States.{KeptAndNoNetwork}
use Rattle.sync_fetch.specs.declared.fault.StateFault.{StateFault}
use Rattle.sync_fetch.specs.declared.fault.StateFault.TheVariants.{Fetch, WrongState}
use Rattle.sync_net.specs.Core.{data_of}
use Rattle.sync_net.specs.Service.{Service}
use Rattle.sync_net.specs.View.{MachineView}
use Rattle.sync_net.specs.Wire.{Wire}
use Rattle.sync_databases.specs.Synced.{LogSynced}

-- ---- the log

pub none_pinned : length {A = List ℕ} [] ≡ count_ones 0
unfolding lib.Count.ones
none_pinned = refl

pub short : log_size (fresh_log any_commit) ≤ 2 ^ 62
short = omega arith

pub within : 0 < log_size (fresh_log any_commit)
within = omega arith

pub least : 0 ≤ 0
least = omega arith

pub commit_sound : IsSoundAny (any_commit None 0)
commit_sound = (tt, omega arith)

-- a link that serves it serves one of the family any
abbrev pub fresh_stands : StandsFor any_spelling IsSoundAny any_floor (data_of any_spelling any_floor (fresh_log any_commit))
fresh_stands = record {
  log = fresh_log any_commit;
  is = refl;
  ops = All-cons IsSoundAny (any_commit None 0) [] commit_sound (All-nil IsSoundAny);
  nodes = All-nil (λ (digest : List ℕ). length digest ≡ 32);
  count = none_pinned;
  most = short;
  floor = refl;
  least = least;
  within = within;
}

-- its target is the one that the link serves
pub target_told : (target : Target) → IsOwnTarget sha256 any_spelling any_floor (fresh_log any_commit) target → IsTargetOf any_spelling (data_of any_spelling any_floor (fresh_log any_commit)) (fresh_log any_commit) target
target_told target is = record { root = is.root; start = is.start; end = is.end }

-- from its floor on it is whole
pub fresh_whole : log_from any_spelling (fresh_log any_commit) 0 ≡ fresh_log any_commit
fresh_whole = refl

-- ---- why it isn't had

module _ (limits : LimitsView) (target : Target) (few : limits.outstanding ≤ 64) (n : MachineView) (before now : Option Wire) (count risen : ℕ) where
  -- under numbers from 1 on the session has one for each ask
  numbered : LogSynced any_spelling any_floor limits target (Err (Fetch session.Exhausted)) any_at any_spelling (idle (Some 1)) n before now count risen → ⊥
  numbered (inl ended) = numbers_last_from 1 (origin_of any_at any_spelling any_spelling target [] limits (idle (Some 1)) before count) [] [] now (first_plan target limits) (omega arith) refl few ended.2
  numbered (inr p) = absurd (cc p.1)

  module _ (m : MachineView) (e : m ≡ idle (Some 1)) (service : Option Service) where
    -- no call failed, and no number was wanting
    pub only_memory : (fault : StateFault) → LogSynced any_spelling any_floor limits target (Err fault) any_at any_spelling m n before now count risen → LogServed any_spelling (data_of any_spelling any_floor (fresh_log any_commit)) (fresh_log any_commit) (Err fault) n service
        → KeptAndNoNetwork {X = LogView AnyOp} (Err fault) count risen → IsOkUnless {T = LogView AnyOp} (Err fault) (Fetch session.OutOfMemory)
    only_memory (WrongState fault) synced served calm = absurd served
    only_memory (Fetch session.Network) synced served calm = absurd calm
    only_memory (Fetch session.RequestChannelClosed) synced served calm = absurd served
    only_memory (Fetch session.InvalidResponse) synced served calm = absurd served
    only_memory (Fetch (session.UnexpectedResponse number)) synced served calm = absurd served
    only_memory (Fetch (session.Server code text)) synced served calm = absurd served
    only_memory (Fetch (session.InvalidProof number)) synced served calm = absurd served
    only_memory (Fetch session.TooManyStrays) synced served calm = absurd served
    only_memory (Fetch (session.StaleUpdate start end)) synced served calm = absurd served
    only_memory (Fetch (session.WrongRoot found)) synced served calm = absurd served
    only_memory (Fetch session.Closed) synced served calm = absurd served
    only_memory (Fetch session.Exhausted) synced served calm =
        absurd (numbered (subst (λ (x : MachineView). LogSynced any_spelling any_floor limits target (Err (Fetch session.Exhausted)) any_at any_spelling x n before now count risen) e synced))
    only_memory (Fetch session.OutOfMemory) synced served calm = refl
