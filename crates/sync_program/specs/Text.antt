-- What a sync prints.
use Rattle.std.specs.Prelude.{ℕ, List, [], ◌∷◌, codes}
use Rattle.std.specs.Fmt.{decimal}
use Rattle.std.specs.List.{concat}
use Rattle.std.specs.declared.option.Option.{Option}
use Rattle.std.specs.Prelude.{Some, None}
use Rattle.hex.specs.Hex.{encode_lower}
use Rattle.ledger_examples.specs.Names.{database_name}
use Rattle.ledger_program.specs.ErrorLines.{follow_line}
use Rattle.ledger_program.specs.Follow.{fault_of_sync}
use Rattle.sync_fetch.specs.declared.fault.StateFault.{StateFault}
use Rattle.sync_fetch.specs.declared.fault.StateFault.TheVariants as faults
use Rattle.sync_program.specs.declared.outcome.Refusal.{Refusal}
use Rattle.sync_program.specs.declared.outcome.Refusal.TheVariants.{Usage, Dial, Fetch, Output, OutOfMemory}
use Rattle.ledger_sync.specs.declared.synced.Synced.{Synced}

-- the lines of a log with its operations: the name of its family, where they begin, its size, its floor, and the digits of its root
unfoldable pub full_text : List ℕ → ℕ → ℕ → ℕ → List ℕ → List ℕ
full_text family start size floor digits =
    concat (codes "synced " ∷ family ∷ codes " full\nstart " ∷ decimal start ∷ codes "\nsize " ∷ decimal size ∷ codes "\nfloor " ∷ decimal floor ∷ codes "\nroot " ∷ digits ∷ codes "\n" ∷ [])

-- the lines of a log without them, of the digits of its size, its floor and its root
unfoldable pub compact_text : List ℕ → List ℕ → List ℕ → List ℕ → List ℕ
compact_text family size floor digits = concat (codes "synced " ∷ family ∷ codes " compact\nsize " ∷ size ∷ codes "\nfloor " ∷ floor ∷ codes "\nroot " ∷ digits ∷ codes "\n" ∷ [])

-- the lines of a log that begins here, or has no operations
abbrev pub text_from : Option ℕ → Synced → List ℕ
text_from (Some start) s = full_text (database_name s.family) start s.size s.floor (encode_lower s.root)
text_from None s = compact_text (database_name s.family) (decimal s.size) (decimal s.floor) (encode_lower s.root)

-- the lines of a log that was synced
abbrev pub synced_text : Synced → List ℕ
synced_text s = text_from s.start s

-- the line of a fault: that of a session's fault, or of a part or a state that is no log
abbrev pub state_line : StateFault → List ℕ
state_line (faults.Fetch fault) = follow_line (fault_of_sync fault)
state_line (faults.WrongState fault) = codes "error state\n"

-- the line of a refusal; after a failed write there is none
abbrev pub line_of : Refusal → List ℕ
line_of Usage = codes "error usage\n"
line_of Dial = codes "error dial\n"
line_of (Fetch fault) = state_line fault
line_of Output = []
line_of OutOfMemory = codes "error memory\n"
