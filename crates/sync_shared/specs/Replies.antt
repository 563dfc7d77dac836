-- What `serve` and `append` say.
use Rattle.std.specs.Prelude.{◌≡◌, ◌≢◌, ◌⊎◌, ℕ, ◌+◌, false, List, [], ◌∷◌, ◌++◌, Option, Some, None, Result, Ok, Err}
use Rattle.std.specs.List.{All}
use Rattle.ledger_log.specs.declared.fault.LogFault.{LogFault}
use Rattle.ledger_log.specs.View.{LogView, log_size, log_floor}
use Rattle.ledger_log.specs.Faults.{append_refusal}
use Rattle.sha2.specs.Sha256.{sha256}
use Rattle.sync_net.specs.Core.{core}
use Rattle.sync_net.specs.declared.message.Message.{Message}
use Rattle.turn_lock.specs.declared.entry.Entry.{Entry}
use Rattle.turn_lock.specs.History.{value_after, Legal, calls, entry, IsBeginning}
use Rattle.turn_lock.specs.Passes.{Origin, PassValue, Present}
use Rattle.sync_shared.specs.Calls.{grown, after_call, Answers}
use Rattle.sync_shared.specs.declared.event.Event.{Event}
use Rattle.sync_shared.specs.declared.event.Event.TheVariants.{Request, Batch}
use Rattle.sync_shared.specs.declared.event.EventOutcome.{EventOutcome}
use Rattle.sync_shared.specs.declared.event.EventOutcome.TheVariants.{Replied, Appended, Refused}
use Rattle.sync_shared.specs.declared.refusal.ShareRefusal.{ShareRefusal}
use Rattle.sync_shared.specs.declared.refusal.ShareRefusal.TheVariants.{PassSpent, Log, OutOfMemory}

module _ {Op : Type 0} where
  -- the log that a history leads to: the opening log with the accepted batches, in order
  abbrev pub log_after : LogView Op → List (Entry (Event Op) EventOutcome) → LogView Op
  log_after = value_after after_call

  -- the same pass, with this many turns taken, which has seen this
  abbrev pub later : PassValue (LogView Op) (Event Op) EventOutcome → ℕ → List (Entry (Event Op) EventOutcome) → PassValue (LogView Op) (Event Op) EventOutcome
  later p used seen = record { from = p.from; caller = p.caller; seen = seen; used = used; turns = p.turns; within = false }

  -- the pass is one of this lock, and in no turn, as passes are between two calls
  abbrev pub Belongs : Origin (LogView Op) → PassValue (LogView Op) (Event Op) EventOutcome → Type 0
  Belongs from p = (p.from ≡ from) × (p.within ≡ false)

  -- A turn was taken, and no entry made.
  pub record Missed (p q : PassValue (LogView Op) (Event Op) EventOutcome) : Type 0 where
    pub left : p.used ≢ p.turns
    pub pass : q ≡ later p (p.used + 1) q.seen
    pub begins : IsBeginning p.seen q.seen
    pub own : calls p.caller q.seen ≡ calls p.caller p.seen

-- of a log that was shared as the opening one
module _ {Op : Type 0} (floor_of : Op → Option ℕ) (opening : LogView Op) where
  -- One entry was made, behind these: the history so far is legal, begins with what was seen and ends with the
  -- entry, which is one more of the pass's own calls.
  pub record Made (p q : PassValue (LogView Op) (Event Op) EventOutcome) (before : List (Entry (Event Op) EventOutcome)) (event : Event Op) (outcome : EventOutcome) : Type 0 where
    pub left : p.used ≢ p.turns
    pub pass : q ≡ later p (p.used + 1) (before ++ entry p.caller event outcome ∷ [])
    pub begins : IsBeginning p.seen before
    pub legal : Legal after_call (Answers floor_of) opening (before ++ entry p.caller event outcome ∷ [])
    pub own : calls p.caller (before ++ entry p.caller event outcome ∷ []) ≡ calls p.caller p.seen ++ event ∷ []

  -- `serve`: the reply is the core's over the log after the entries before
  abbrev pub Served : (Op → List ℕ) → PassValue (LogView Op) (Event Op) EventOutcome → Message Op → PassValue (LogView Op) (Event Op) EventOutcome → Result (Message Op) ShareRefusal → Type 0
  Served spelling p message q (Ok reply) =
      (before : List (Entry (Event Op) EventOutcome))
      × (reply ≡ core sha256 spelling (log_floor floor_of (log_after opening before)) (log_after opening before) message)
      × Made p q before (Request message) (Replied (log_size (log_after opening before)))
  Served spelling p message q (Err PassSpent) = (p.used ≡ p.turns) × (q ≡ p)
  Served spelling p message q (Err (Log fault)) = ⊥
  Served spelling p message q (Err OutOfMemory) = Missed p q

  -- `append`: the batch is taken or refused as the log after the entries before refuses batches
  abbrev pub Appends : PassValue (LogView Op) (Event Op) EventOutcome → List Op → PassValue (LogView Op) (Event Op) EventOutcome → Result ℕ ShareRefusal → Type 0
  Appends p ops q (Ok size) =
      (before : List (Entry (Event Op) EventOutcome))
      × (append_refusal floor_of (log_after opening before) ops ≡ None)
      × (size ≡ log_size (grown (log_after opening before) ops))
      × Made p q before (Batch ops) (Appended size)
  Appends p ops q (Err PassSpent) = (p.used ≡ p.turns) × (q ≡ p)
  Appends p ops q (Err (Log fault)) =
      (before : List (Entry (Event Op) EventOutcome))
      × (append_refusal floor_of (log_after opening before) ops ≡ Some fault)
      × Made p q before (Batch ops) (Refused fault)
  Appends p ops q (Err OutOfMemory) = Missed p q

  -- `close`: the history is legal and led to the log; what each pass had seen begins it, and it has the calls of the
  -- passes and no others
  pub record Closes (passes : List (PassValue (LogView Op) (Event Op) EventOutcome)) (log : LogView Op) (history : List (Entry (Event Op) EventOutcome)) : Type 0 where
    pub legal : Legal after_call (Answers floor_of) opening history
    pub log_is : log ≡ log_after opening history
    pub seen : All (λ (p : PassValue (LogView Op) (Event Op) EventOutcome). IsBeginning p.seen history) passes
    pub own : All (λ (p : PassValue (LogView Op) (Event Op) EventOutcome). calls p.caller history ≡ calls p.caller p.seen) passes
    pub others : (c : ℕ) → (Present c passes → ⊥) → calls c history ≡ []
