-- The links that were taken.
use Rattle.std.specs.Prelude.{◌≡◌, ℕ, ◌≤◌, List, Option, Some, None, length, drop}
use Rattle.ledger_codec.specs.Causes.{Rose}
use Rattle.ledger_program.specs.declared.outcome.RunFault.{RunFault}
use Rattle.ledger_program.specs.declared.outcome.RunFault.TheVariants.{Dial, OutOfMemory}

-- the first n of the links that were to come were taken, in order, where the listener tells them
abbrev pub Took : {L : Type 0} → ℕ → Option (List L) → Option (List L) → Type 0
Took n None now = now ≡ None
Took n (Some links) now = (n ≤ length links) × (now ≡ Some (drop n links))

-- why not all sessions were started: an accept failed, and the listener's count rose, or memory was wanting
abbrev pub StartFails : ℕ → ℕ → RunFault → Type 0
StartFails before now Dial = Rose before now
StartFails before now OutOfMemory = Unit {0}
StartFails before now fault = ⊥
