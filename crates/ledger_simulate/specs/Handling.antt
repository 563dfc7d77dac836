-- Handling an event: what an engine is told and gives, and what the failures do to the others.
use Rattle.std.specs.Prelude.{◌≡◌, ◌<◌, ◌+◌, ◌-◌, ℕ, zero, suc, Bool, true, false, IsTrue, List, ◌++◌, Option, Some, None, MatchOption, All, is_some, length, option_map, option_and_then, slice_get, take, if◌then◌else◌}
use Rattle.std.specs.Option.{option_map_or}
use Rattle.rand_pcg.specs.Lcg.{Lcg}
use Rattle.simulate_parts.specs.Engine.{Passes, updates_of}
use Rattle.simulate_parts.specs.Seats.{Steps, running_at, runs, runs_since}
use Rattle.simulate_parts.specs.declared.engine.StepEvent.{StepEvent}
use Rattle.simulate_parts.specs.declared.engine.StepEvent.TheVariants.{Started as told_start, Timer as told_timer, Received as told_message}
use Rattle.simulate_parts.specs.declared.engine.StepOut.{StepOut}
use Rattle.simulate_parts.specs.declared.peer.Peer.{Peer}
use Rattle.simulate_parts.specs.declared.seats.Running.{Running}
use Rattle.simulate_parts.specs.declared.seats.Seat.{Seat}
use Rattle.simulate_parts.specs.declared.tracker.FinalizationUpdate.{FinalizationUpdate}
use Rattle.ledger_simulate.specs.Delays.{Launches}
use Rattle.ledger_simulate.specs.Failures.{first_passed, standing_of, tally_after, tally_of, windows_entered}
use Rattle.ledger_simulate.specs.Links.{link_of}
use Rattle.ledger_simulate.specs.Meaning.{Meaning}
use Rattle.ledger_simulate.specs.Messages.{delivered, lets_through, timers_of}
use Rattle.ledger_simulate.specs.Opening.{starts}
use Rattle.ledger_simulate.specs.Queue.{AgendaView, QueueView}
use Rattle.ledger_simulate.specs.declared.event.Event.{Event}
use Rattle.ledger_simulate.specs.declared.event.Event.TheVariants.{Started, Timer, Received, Act, CrashTick, ExitPoll, Recover}
use Rattle.ledger_simulate.specs.declared.reports.Reached.{Reached}
use Rattle.ledger_simulate.specs.declared.world.World.{World}

-- the event is no timer and no message
abbrev pub is_quiet : Event → Bool
is_quiet (Started pk) = true
is_quiet (Timer pk birth) = false
is_quiet (Received from to channel bytes) = false
is_quiet (Act action) = true
is_quiet CrashTick = true
is_quiet ExitPoll = true
is_quiet (Recover pk) = true

-- an engine that was started under a number below this one and runs afterwards ran before, and is as it was
abbrev pub Survives : {D E S : Type 0} → ℕ → List (Peer × Seat D E S) → List (Peer × Seat D E S) → Type 0
Survives {D} {E} {S} n old new =
    (pk : Peer) → (r : Running D E S) → running_at new pk ≡ Some r → r.birth < n → running_at old pk ≡ Some r

-- each engine that runs is its peer's, and was started under a number below this one
abbrev pub Seated : {D E S : Type 0} → (E → Peer) → ℕ → List (Peer × Seat D E S) → Type 0
Seated {D} {E} {S} peer_of n seats =
    (pk : Peer) → (r : Running D E S) → running_at seats pk ≡ Some r → (peer_of r.engine ≡ pk) × (r.birth < n)

-- the number of the event that is made next
abbrev pub number_after : AgendaView → ℕ
number_after a = a.next + length a.events

-- more events were made, none of them a timer or a message
pub record Adds (a b : AgendaView) : Type 0 where
  pub added : List (ℕ × Event)
  pub events : b.events ≡ a.events ++ added
  pub next : b.next ≡ a.next
  pub quiet : All (λ e. IsTrue (is_quiet e.1)) added

-- engines may have been stopped, and new ones started under the numbers of events that were made
pub record ChangesEngines {D E S : Type 0} (peer_of : E → Peer) (a b : AgendaView) (u v : World D E S) : Type 0 where
  pub adds : Adds a b
  pub kept : Survives a.next u.seats.entries v.seats.entries
  pub seated : Seated peer_of (number_after a) u.seats.entries → Seated peer_of (number_after b) v.seats.entries
  pub rules : v.rules ≡ u.rules

-- the same, and the words and the links stay
pub record ChangesEnginesAlone {D E S : Type 0} (peer_of : E → Peer) (a b : AgendaView) (u v : World D E S) : Type 0 where
  pub changes : ChangesEngines peer_of a b u v
  pub words : v.words ≡ u.words
  pub links : v.links ≡ u.links

-- how many of a step's reports, behind earlier ones, set failures off: all, or those up to where the exit
-- condition was met
abbrev pub count_setting_off : List FinalizationUpdate → List FinalizationUpdate → Option Reached → ℕ
count_setting_off before more None = length more
count_setting_off before more (Some reached) = reached.count - length before

-- the messages that arrive of those that a peer sends while these engines run, and the words afterwards
abbrev pub carried : {D E S : Type 0} → World D E S → List (Peer × Seat D E S) → Peer → List (Peer × ℕ × List ℕ) → List (ℕ × Event) × Lcg
carried w seats pk messages =
    delivered (lets_through w.rules.max_size w.rules.channels.items (runs seats) pk) (link_of w.links pk) w.words pk messages

-- the number under which a peer's engine was started, where it runs and was started under this number, if
-- one is given
abbrev pub birth_at : {D E S : Type 0} → List (Peer × Seat D E S) → Peer → Option ℕ → Option ℕ
birth_at seats pk None = option_map (λ r. r.birth) (running_at seats pk)
birth_at seats pk (Some birth) = if runs_since seats pk birth then Some birth else None

-- nothing happened
abbrev pub IsUnchanged : {D E S : Type 0} → AgendaView → AgendaView → List FinalizationUpdate → List FinalizationUpdate → World D E S → World D E S → Type 0
IsUnchanged a b us vs u v = (b ≡ a) × (vs ≡ us) × (v ≡ u)

-- what an event of this time and number tells an engine: the engine's peer, its birth where one is given,
-- and what it is told
abbrev pub told_by : ℕ × ℕ → Event → Option (Peer × Option ℕ × StepEvent)
told_by key (Started pk) = Some (pk, Some key.1, told_start)
told_by key (Timer pk birth) = Some (pk, Some birth, told_timer key.0)
told_by key (Received from to channel bytes) = Some (to, None, told_message from channel bytes)
told_by key (Act action) = None
told_by key CrashTick = None
told_by key ExitPoll = None
told_by key (Recover pk) = None

-- the event polls the exit condition
abbrev pub is_poll : Event → Bool
is_poll (Started pk) = false
is_poll (Timer pk birth) = false
is_poll (Received from to channel bytes) = false
is_poll (Act action) = false
is_poll CrashTick = false
is_poll ExitPoll = true
is_poll (Recover pk) = false

-- what the first event of a queue tells an engine
abbrev pub told_first : QueueView → Option (Peer × Option ℕ × StepEvent)
told_first q = option_and_then (λ e. told_by e.0 e.1) (slice_get q.entries 0)

-- the first event of a queue polls the exit condition
abbrev pub polls_first : QueueView → Bool
polls_first q = option_map_or (λ e. is_poll e.1) (slice_get q.entries 0) false

-- a list has grown at its end by reports that pass the test, where one is told
pub record Grows (reports : Option (FinalizationUpdate → Bool)) (before after : List FinalizationUpdate) : Type 0 where
  pub added : List FinalizationUpdate
  pub is : after ≡ before ++ added
  pub passes : All (Passes reports) added

-- what stands below is said of what a plan means
module _ {D E S F P C : Type 0} (m : Meaning D E S F P C) where
  -- an engine took one step, and its timers and then its messages were made, in the order in which it gave them
  pub record StepsEngine (pk : Peer) (birth : ℕ) (event : StepEvent) (out : StepOut) (a b : AgendaView)
      (u v : World D E S) : Type 0 where
    pub step : Steps m.peer_of m.journal m.reports pk event out u.seats.entries v.seats.entries
    pub next : b.next ≡ a.next
    pub events : b.events
        ≡ a.events ++ timers_of pk birth out.timers ++ (carried u v.seats.entries pk out.messages).0
    pub words : v.words ≡ (carried u v.seats.entries pk out.messages).1
    pub links : v.links ≡ u.links
    pub rules : v.rules ≡ u.rules
    pub exercise : v.exercise ≡ u.exercise

  -- a report sets failures off: no window was passed, windows are entered, this holds then, and after that the
  -- delayed participants may be started
  pub record TriggersFailures (holds : World D E S → Type 0) (a b : AgendaView) (u v : World D E S) : Type 0 where
    pub made : AgendaView
    pub mid : World D E S
    pub unpassed : first_passed m.height 0 m.crashes (standing_of u) ≡ None
    pub enters : ChangesEnginesAlone m.peer_of a made u mid
    pub entered : standing_of mid ≡ windows_entered m.height 0 m.crashes (standing_of u)
    pub held : holds mid
    pub changes_alone : ChangesEnginesAlone m.peer_of made b mid v
    pub launched : List Peer
    pub launches : Launches m.participants m.crashes mid.exercise.delayed_started v.exercise.delayed_started
        launched
    pub events : b.events ≡ made.events ++ starts launched
    pub tally : tally_of v.exercise ≡ tally_of mid.exercise

  -- the first so many of these reports set failures off, one after another, and this held as each of them did;
  -- the exit condition answered false at each but the last of them, and at that one what is given
  abbrev pub TriggersFailuresEach : (List FinalizationUpdate → Bool → World D E S → Type 0) → List FinalizationUpdate
      → Bool → ℕ → AgendaView → AgendaView → World D E S → World D E S → Type 0
  TriggersFailuresEach holds more met zero a b u v = (b ≡ a) × (v ≡ u)
  TriggersFailuresEach holds more met (suc n) a b u v =
      (made : AgendaView) × (w : World D E S) × TriggersFailuresEach holds more false n a made u w
      × TriggersFailures (holds (take (suc n) more) met) made b w v

  -- an engine took one step, and its reports were observed, with the failures that they set off
  pub record StepsAndReports (holds : List FinalizationUpdate → Bool → World D E S → Type 0) (reached : Option Reached)
      (pk : Peer) (birth : ℕ) (event : StepEvent) (a b : AgendaView) (us vs : List FinalizationUpdate)
      (u v : World D E S) : Type 0 where
    pub out : StepOut
    pub given : AgendaView
    pub mid : World D E S
    pub gives : StepsEngine pk birth event out a given u mid
    pub reported : vs ≡ us ++ updates_of pk out.finalized
    pub set_off : TriggersFailuresEach holds (updates_of pk out.finalized) (is_some reached)
        (count_setting_off us (updates_of pk out.finalized) reached) given b mid v

  -- the engine that an event is for took a step, where it still runs
  abbrev pub HandlesAtEngine : (List FinalizationUpdate → Bool → World D E S → Type 0) → Option Reached → Peer
      → Option ℕ → StepEvent → AgendaView → AgendaView → List FinalizationUpdate → List FinalizationUpdate
      → World D E S → World D E S → Type 0
  HandlesAtEngine holds reached pk birth event a b us vs u v =
      MatchOption (birth_at u.seats.entries pk birth) (IsUnchanged a b us vs u v)
      (λ n. StepsAndReports holds reached pk n event a b us vs u v)

  -- an event that is for no engine was handled
  abbrev pub HandlesOther : Event → AgendaView → AgendaView → List FinalizationUpdate
      → List FinalizationUpdate → World D E S → World D E S → Type 0
  HandlesOther event a b us vs u v =
      (vs ≡ us) × ChangesEngines m.peer_of a b u v × (tally_of v.exercise ≡ tally_after m.crashes event u)

  -- the event of this time and number was handled, and the exit condition was met there, if it was
  abbrev pub Handles : (List FinalizationUpdate → Bool → World D E S → Type 0) → Option Reached → ℕ × ℕ
      → Event → AgendaView → AgendaView → List FinalizationUpdate → List FinalizationUpdate → World D E S
      → World D E S → Type 0
  Handles holds reached key event a b us vs u v =
      MatchOption (told_by key event) (HandlesOther event a b us vs u v)
      (λ t. HandlesAtEngine holds reached t.0 t.1 t.2 a b us vs u v)
