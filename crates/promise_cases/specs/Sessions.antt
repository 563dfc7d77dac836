-- What a session over a tape promises of all others over the same bytes.
use Rattle.std.specs.Prelude.{◌≡◌, ℕ, Bool, true, false, List, [], ◌++◌, Some}
use Rattle.ledger_log.specs.Any.{any_spelling}
use Rattle.ledger_log.specs.Spellings.{any_at}
use Rattle.ledger_log.specs.declared.any.AnyOp.{AnyOp}
use Rattle.ledger_log.specs.declared.target.Target.{Target}
use Rattle.sync_client.specs.Asking.{LimitsView, first_plan}
use Rattle.sync_client.specs.Runs.{Closes, Outcome, Session}
use Rattle.sync_client.specs.Session.{Ask, Rules, State, frames_of, rules_for, started}

-- the rules of the family any
abbrev pub any_rules : Rules AnyOp
any_rules = rules_for any_at any_spelling any_spelling

-- nothing was asked yet, and the first number is 1
abbrev pub at_first : Target → LimitsView → State AnyOp
at_first target limits = started (first_plan target limits) (Some 1) []

-- the session for a target under these limits, over these bytes
abbrev pub Over : Target → LimitsView → List ℕ → Bool → Outcome AnyOp → List Ask → Type 0
Over target limits bytes ended outcome asks = Session any_rules (at_first target limits) bytes ended outcome asks

-- Over these bytes the session closes and sends these asks, and has no other end. Without the end of the bytes it closes whatever follows them; with it, each session over more bytes sends the same asks first.
pub record OnlyCloses (target : Target) (limits : LimitsView) (bytes : List ℕ) (ended : Bool) : Type 0 where
  pub asks : List Ask
  pub closes : Over target limits bytes ended Closes asks
  pub only : (other : Outcome AnyOp) (theirs : List Ask) → Over target limits bytes ended other theirs → (Closes ≡ other) × (asks ≡ theirs)
  pub onward : ended ≡ false → (more : List ℕ) (end : Bool) → Over target limits (bytes ++ more) end Closes asks
  pub waited : ended ≡ true → (more : List ℕ) (end : Bool) (other : Outcome AnyOp) (theirs : List Ask) → Over target limits (bytes ++ more) end other theirs → (later : List Ask) × (theirs ≡ asks ++ later)

-- what was sent are the first asks of every session over these bytes
pub record SentFirst (target : Target) (limits : LimitsView) (bytes sent : List ℕ) : Type 0 where
  pub asks : List Ask
  pub sent_are : sent ≡ frames_of any_spelling asks
  pub first : (end : Bool) (other : Outcome AnyOp) (theirs : List Ask) → Over target limits bytes end other theirs → (later : List Ask) × (theirs ≡ asks ++ later)
