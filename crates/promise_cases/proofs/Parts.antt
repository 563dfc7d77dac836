-- The whole part of the keyless log with which databases begin, fetched over a link that serves it.
use Rattle.std.proofs.Common.{◌≡◌, ◌<◌, ◌≤◌, ◌^◌, ℕ, ◌-◌, List, [], ◌∷◌, ◌++◌, All, length, Option, Some, None, Result, Ok, Err, refl, sym, ap, subst, ◌∙◌, arith}
use Rattle.std.proofs.lemmas.List.Elements.{All-cons, All-nil}
use Rattle.std.specs.Prelude.{IfOk, count_ones}
use Rattle.sha2.specs.Sha256.{sha256}
use Rattle.ledger_compact.specs.View.{fresh_log}
use Rattle.ledger_log.specs.Keyless.{IsSoundKeyless, keyless_commit, keyless_floor, keyless_spelling}
use Rattle.ledger_log.specs.Spellings.{keyless_at}
use Rattle.ledger_log.specs.View.{LogView, log_range, log_root, log_root_at, log_size}
use Rattle.ledger_log.specs.declared.keyless.KeylessOp.{KeylessOp}
use Rattle.ledger_log.specs.declared.target.Target.{Target}
use Rattle.ledger_merkle.specs.declared.proof.Part.{Part as Fetched}
use Rattle.sync_client.proofs.SentOperations.{keyless_sent}
use Rattle.sync_client.specs.Counts.{NeverNetwork}
use Rattle.sync_client.specs.Owing.{AreSent, Begins, Fetches, OwesNothing}
use Rattle.sync_client.specs.Parts.{synced_part}
use Rattle.sync_client.specs.Serving.{HasLater, Serves}
use Rattle.sync_client.specs.Updates.{IsSynced, TakesUpdates, targets_in}
use Rattle.sync_client.specs.declared.fault.SyncFault.{SyncFault}
use Rattle.sync_client.specs.declared.fault.SyncFault.TheVariants as sync
use Rattle.sync_client.specs.declared.hashed.HashedPart.{HashedPart}
use Rattle.sync_net.specs.Core.{LogData, data_of}
use Rattle.sync_net.specs.Service.{Service}
use Rattle.sync_net.specs.View.{MachineView}
use Rattle.promise_cases.proofs.Fetches.{new_machine, no_network}
use Rattle.promise_cases.proofs.Refusals.{begins}
use Rattle.promise_cases.specs.Served.{IsFreshPart}

-- one commit
abbrev pub fresh : LogView KeylessOp
fresh = fresh_log keyless_commit

-- what a link tells that serves it
abbrev pub fresh_data : LogData
fresh_data = data_of keyless_spelling keyless_floor fresh

pub none_pinned : length {A = List ℕ} [] ≡ count_ones 0
unfolding lib.Count.ones
none_pinned = refl

pub short : log_size fresh ≤ 2 ^ 62
short = omega arith

pub commit_sound : IsSoundKeyless (keyless_commit None 0)
commit_sound = (tt, omega arith)

-- the target of all of it
pub record IsWhole (target : Target) : Type 0 where
  pub root : target.root ≡ log_root sha256 keyless_spelling fresh
  pub start : target.start ≡ 0
  pub end : target.end ≡ 1

module _ (target : Target) (w : IsWhole target) where
  pub front_so : 0 ≤ target.start
  front_so = omega arith

  pub size_so : target.end ≤ log_size fresh
  size_so = let e = w.end in omega arith

  pub root_so : log_root_at sha256 keyless_spelling fresh target.end ≡ target.root
  root_so = ap (log_root_at sha256 keyless_spelling fresh) w.end ∙ sym w.root

  abbrev pub serves : Serves keyless_spelling IsSoundKeyless fresh_data target
  serves = record {
    log = fresh;
    is = refl;
    ops = All-cons IsSoundKeyless (keyless_commit None 0) [] commit_sound (All-nil IsSoundKeyless);
    nodes = All-nil (λ (digest : List ℕ). length digest ≡ 32);
    count = none_pinned;
    front = front_so;
    size = size_so;
    most = short;
    root = root_so;
  }

  range_is : log_range fresh target.start (target.end - target.start) ≡ keyless_commit None 0 ∷ []
  range_is = ap (λ (n : ℕ). log_range fresh n (target.end - n)) w.start ∙ ap (λ (n : ℕ). log_range fresh 0 (n - 0)) w.end

-- where no later target was taken, what was synced is the target
synced_is : {X : Type 0} (x : Target × X) (target : Target) → TakesUpdates (Ok x) target [] [] → IsSynced target target x.0
synced_is x target ([], taken, is) = is
synced_is x target (answer ∷ took, taken, is) = absurd (cc taken.all)

synced_so : {X : Type 0} (result : Result (Target × X) SyncFault) (target : Target) → TakesUpdates result target [] [] → IfOk result (λ x. IsSynced target target x.0)
synced_so (Ok x) target took = synced_is x target took
synced_so (Err fault) target took = tt

part_is : (target : Target) (w : IsWhole target) (m : MachineView) (now : Option Service) (result : Result (Target × Fetched KeylessOp) SyncFault)
    → Fetches keyless_spelling fresh_data fresh result m now → (result ≡ Err sync.Network → ⊥) → IfOk result (λ x. IsSynced target target x.0) → IsFreshPart result
part_is target w m now (Ok x) own never s =
    own.ops ∙ (ap (λ (n : ℕ). log_range fresh n (x.0.end - n)) s.start ∙ (ap (λ (n : ℕ). log_range fresh target.start (n - target.start)) s.end ∙ range_is target w))
part_is target w m now (Err sync.Network) own never s = absurd (never refl)
part_is target w m now (Err sync.OutOfMemory) own never s = own
part_is target w m now (Err sync.Exhausted) own never s = own
part_is target w m now (Err sync.Closed) own never s = absurd own
part_is target w m now (Err sync.RequestChannelClosed) own never s = absurd own
part_is target w m now (Err sync.InvalidResponse) own never s = absurd own
part_is target w m now (Err (sync.UnexpectedResponse number)) own never s = absurd own
part_is target w m now (Err (sync.Server code text)) own never s = absurd own
part_is target w m now (Err (sync.InvalidProof number)) own never s = absurd own
part_is target w m now (Err sync.TooManyStrays) own never s = absurd own
part_is target w m now (Err (sync.StaleUpdate start end)) own never s = absurd own
part_is target w m now (Err (sync.WrongRoot found)) own never s = absurd own

-- the target of the whole of a log that is that one
pub whole_is : (log : LogView KeylessOp) (target : Target) → log ≡ fresh → target.root ≡ log_root sha256 keyless_spelling log → target.start ≡ 0 → target.end ≡ log_size log → IsWhole target
whole_is log target e root start end = record { root = root ∙ ap (log_root sha256 keyless_spelling) e; start = start; end = end ∙ ap log_size e }

-- what fetching this target promises over a link that serves such a log
abbrev pub Promised : Target → MachineView → MachineView → Option Service → Option Service → Result (Target × Fetched KeylessOp) SyncFault → Type 0
Promised target m n before after result = (held : LogData) (took : List (Option Target)) → AreSent keyless_at keyless_spelling keyless_spelling IsSoundKeyless
    → (h : Serves keyless_spelling IsSoundKeyless held target) → Begins held m before → [] ≡ took ++ [] → HasLater keyless_spelling h.log target (targets_in took) → Fetches keyless_spelling held h.log result n after

module _ (log : LogView KeylessOp) (target : Target) (m n : MachineView) (before after : Option Service) (count risen : ℕ) (e : log ≡ fresh) (w : IsWhole target) (new : m ≡ new_machine) (owes : OwesNothing (data_of keyless_spelling keyless_floor log) before) where
  told : OwesNothing fresh_data before
  told = subst (λ (l : LogView KeylessOp). OwesNothing (data_of keyless_spelling keyless_floor l) before) e owes

  fetches : (result : Result (Target × Fetched KeylessOp) SyncFault) → Promised target m n before after result → Fetches keyless_spelling fresh_data fresh result n after
  fetches result serving = serving fresh_data [] keyless_sent (serves target w) (begins fresh_data m before new told) refl tt

  pub fetched_whole : (result : Result (Target × Fetched KeylessOp) SyncFault) → Promised target m n before after result → NeverNetwork result count risen → TakesUpdates result target [] [] → IsFreshPart result
  fetched_whole result serving never took = part_is target w n after result (fetches result serving) (no_network result count risen never) (synced_so result target took)

  hashed_synced : (result : Result (Target × HashedPart KeylessOp) SyncFault) → TakesUpdates result target [] [] → IfOk (synced_part result) (λ x. IsSynced target target x.0)
  hashed_synced (Ok x) took = synced_is x target took
  hashed_synced (Err fault) took = tt

  hashed_fails : (result : Result (Target × HashedPart KeylessOp) SyncFault) (fault : SyncFault) → synced_part result ≡ Err fault → result ≡ Err fault
  hashed_fails (Ok x) fault is = absurd (cc is)
  hashed_fails (Err other) fault is = let same : other ≡ fault = cc is in ap (λ (f : SyncFault). let r : Result (Target × HashedPart KeylessOp) SyncFault = Err f in r) same

  pub hashed_whole : (result : Result (Target × HashedPart KeylessOp) SyncFault) → Promised target m n before after (synced_part result) → NeverNetwork result count risen → TakesUpdates result target [] [] → IsFreshPart (synced_part result)
  hashed_whole result serving never took =
      part_is target w n after (synced_part result) (fetches (synced_part result) serving) (λ is. no_network result count risen never (hashed_fails result sync.Network is)) (hashed_synced result took)
