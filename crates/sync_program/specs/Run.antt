-- How a sync ends.
use Rattle.std.specs.Prelude.{◌≡◌, ◌≤◌, ◌⊎◌, ◌==◌, ◌||◌, ℕ, Bool, true, List, [], Option, Some, None, is_some, Result, Ok, Err, IsTrue, ⊤}
use Rattle.std.specs.Io.KnownBytes.{Appends}
use Rattle.ledger_codec.specs.Causes.{Rose}
use Rattle.ledger_examples.specs.declared.names.SyncMode.TheVariants as mode
use Rattle.ledger_program.specs.Follow.{fault_of_sync}
use Rattle.ledger_program.specs.Run.{follow_status, FrontAndLine, LineWent}
use Rattle.ledger_program.specs.Writing.{AppendsFront}
use Rattle.ledger_sync.specs.declared.form.SyncForm.{SyncForm}
use Rattle.sync_client.specs.declared.fault.SyncFault.TheVariants as session
use Rattle.sync_fetch.specs.declared.fault.StateFault.{StateFault}
use Rattle.sync_fetch.specs.declared.fault.StateFault.TheVariants as faults
use Rattle.sync_net.specs.Service.{Service}
use Rattle.ledger_sync.specs.Brought.{Over, Brings, BringsNone, MayFail, IsServed}
use Rattle.sync_program.specs.Text.{synced_text, line_of}
use Rattle.sync_program.specs.declared.outcome.Refusal.{Refusal}
use Rattle.sync_program.specs.declared.outcome.Refusal.TheVariants.{Usage, Dial, Fetch, Output, OutOfMemory}
use Rattle.sync_program.specs.declared.outcome.SyncOutcome.{SyncOutcome}
use Rattle.ledger_sync.specs.declared.synced.Synced.{Synced}

-- ---- statuses

-- the status of a fault
abbrev pub state_status : StateFault → ℕ
state_status (faults.Fetch fault) = follow_status (fault_of_sync fault)
state_status (faults.WrongState fault) = 8

-- why no log was synced, where this fault came
abbrev pub refusal_of : StateFault → Refusal
refusal_of (faults.Fetch session.OutOfMemory) = OutOfMemory
refusal_of fault = Fetch fault

-- what a sync answers that ended so, or with printed lines
abbrev pub outcome_of : Option Refusal → SyncOutcome
outcome_of None = record { status = 0; fault = None }
outcome_of (Some Usage) = record { status = 2; fault = None }
outcome_of (Some Dial) = record { status = 6; fault = None }
outcome_of (Some (Fetch fault)) = record { status = state_status fault; fault = Some fault }
outcome_of (Some Output) = record { status = 10; fault = None }
outcome_of (Some OutOfMemory) = record { status = 11; fault = None }

-- the statuses of a sync
abbrev pub is_status : ℕ → Bool
is_status n = n == 0 || (n == 2 || (n == 6 || (n == 7 || (n == 8 || (n == 10 || n == 11)))))

-- the statuses that come with a fault
abbrev pub has_fault : ℕ → Bool
has_fault n = n == 7 || n == 8

-- ---- what came

-- a fault that isn't want of memory, and none of a machine that was closed or has no number left
abbrev pub IsNamed : StateFault → Type 0
IsNamed (faults.Fetch session.Closed) = ⊥
IsNamed (faults.Fetch session.Exhausted) = ⊥
IsNamed (faults.Fetch session.OutOfMemory) = ⊥
IsNamed fault = ⊤

-- a log of the form was brought over the link, and shows this of itself
pub record Arrives (form : Option SyncForm) (over : Over) (s : Synced) : Type 0 where
  pub asked : SyncForm
  pub is : form ≡ Some asked
  pub brings : Brings asked over s

-- none was, for this fault
pub record Misses (form : Option SyncForm) (over : Over) (fault : StateFault) : Type 0 where
  pub asked : SyncForm
  pub is : form ≡ Some asked
  pub brings : BringsNone asked over fault
  pub named : IsNamed fault

-- why no log was brought: the words are no form; a dial failed, and nothing was sent or read; none came; or memory was wanting
abbrev pub Refused : Option SyncForm → ℕ → ℕ → Over → Refusal → Type 0
Refused form dialed dialed_now over Usage = form ≡ None
Refused form dialed dialed_now over Dial = (is_some form ≡ true) × Rose dialed dialed_now × (over.wire_now ≡ over.wire)
Refused form dialed dialed_now over (Fetch fault) = Misses form over fault
Refused form dialed dialed_now over Output = ⊥
Refused form dialed dialed_now over OutOfMemory = is_some form ≡ true

-- a dial or a call of the link failed, or memory was wanting
abbrev pub IsRare : Refusal → Type 0
IsRare Usage = ⊥
IsRare Dial = ⊤
IsRare (Fetch fault) = MayFail fault
IsRare Output = ⊥
IsRare OutOfMemory = ⊤

-- where the words ask for a log with its operations, and the link serves one of the family, no other refusal comes
abbrev pub OnlyRare : Option SyncForm → Option Service → Refusal → Type 0
OnlyRare form service refusal = (asked : SyncForm) → form ≡ Some asked → asked.mode ≡ mode.Full → IsServed asked.family service → IsRare refusal

-- ---- what went out

-- whether a sink grows, what it told as a call began and as it ended, and its counts then
pub record Outlet : Type 0 where
  pub grows : Bool
  pub old : Option (List ℕ)
  pub new : Option (List ℕ)
  pub before : ℕ
  pub now : ℕ

-- the same of these parts
abbrev pub sink_over : Bool → Option (List ℕ) → Option (List ℕ) → ℕ → ℕ → Outlet
sink_over grows old new before now = record { grows = grows; old = old; new = new; before = before; now = now }

-- the lines of a log went out; or a front of them, and the sink failed, or memory was wanting in a sink that grows
abbrev pub Prints : Result (Unit {0}) Refusal → Synced → Outlet → Type 0
Prints (Ok x) s out = Appends out.old out.new (synced_text s)
Prints (Err Output) s out = AppendsFront out.old out.new (synced_text s) × Rose out.before out.now
Prints (Err OutOfMemory) s out = AppendsFront out.old out.new (synced_text s)
Prints (Err refusal) s out = ⊥

-- a front of the line of a refusal went out, and all of it unless the sink failed or memory was wanting in one that grows
pub record Lined (refusal : Refusal) (out : Outlet) : Type 0 where
  pub front : AppendsFront out.old out.new (line_of refusal)
  pub whole : LineWent out.grows out.before out.now (Appends out.old out.new (line_of refusal))

-- how the printing of a log ends: its lines went out; or a front of them, and then nothing, or a front of the line for want of memory
abbrev pub PrintEnds : Synced → Outlet → Option Refusal → Type 0
PrintEnds s out None = Appends out.old out.new (synced_text s)
PrintEnds s out (Some Output) = AppendsFront out.old out.new (synced_text s) × Rose out.before out.now
PrintEnds s out (Some OutOfMemory) = FrontAndLine out.old out.new (synced_text s) (line_of OutOfMemory)
PrintEnds s out (Some refusal) = ⊥

-- what printing a log answers
abbrev pub Printed : Synced → Outlet → SyncOutcome → Type 0
Printed s out outcome = (ending : Option Refusal) × (outcome ≡ outcome_of ending) × PrintEnds s out ending

-- a log was brought, and printing it ends so
abbrev pub Shows : Option SyncForm → Over → Outlet → Option Refusal → Type 0
Shows form over out ending = (s : Synced) × Arrives form over s × PrintEnds s out ending

-- ---- the whole call

-- how a sync ends: a log was brought, and its lines or a front of them went out; or it was refused, for its cause, and the line of the refusal went out
abbrev pub Ends : Option SyncForm → ℕ → ℕ → Over → Outlet → Option Refusal → Type 0
Ends form dialed dialed_now over out None = Shows form over out None
Ends form dialed dialed_now over out (Some Output) = Shows form over out (Some Output)
Ends form dialed dialed_now over out (Some OutOfMemory) = ((is_some form ≡ true) × Lined OutOfMemory out) ⊎ Shows form over out (Some OutOfMemory)
Ends form dialed dialed_now over out (Some refusal) = Refused form dialed dialed_now over refusal × Lined refusal out

-- what a sync answers
abbrev pub Ended : Option SyncForm → ℕ → ℕ → Over → Outlet → SyncOutcome → Type 0
Ended form dialed dialed_now over out outcome = (ending : Option Refusal) × (outcome ≡ outcome_of ending) × Ends form dialed dialed_now over out ending

-- where the words ask for a log with its operations, the link serves one of the family, and no count rises, a sync ends with status 0, or for want of memory
abbrev pub Completes : Option SyncForm → ℕ → ℕ → Over → Outlet → ℕ → Type 0
Completes form dialed dialed_now over out status =
    (asked : SyncForm) → form ≡ Some asked → asked.mode ≡ mode.Full → IsServed asked.family over.service
    → (Rose dialed dialed_now → ⊥) → (Rose over.count over.count_now → ⊥) → (Rose out.before out.now → ⊥) → (status ≡ 0) ⊎ (status ≡ 11)
