-- What `serve` writes.
use Rattle.std.specs.Prelude.{ℕ, List, [], ◌∷◌, ◌++◌, Option, codes}
use Rattle.std.specs.Fmt.{decimal}
use Rattle.std.specs.List.{concat}
use Rattle.ledger_codec.specs.Causes.{Rose}
use Rattle.ledger_codec.specs.declared.sink.SinkError.{SinkError}
use Rattle.ledger_codec.specs.declared.sink.SinkError.TheVariants as sink
use Rattle.ledger_program.specs.Writing.{AppendsFront}
use Rattle.ledger_program.specs.declared.outcome.RunFault.{RunFault}
use Rattle.ledger_program.specs.declared.outcome.RunFault.TheVariants.{Output, OutOfMemory}

-- the line once connections are accepted
abbrev pub listening : List ℕ
listening = codes "listening\n"

-- the line once all sessions have ended
unfoldable pub sessions_line : ℕ → List ℕ
sessions_line count = concat (codes "sessions " ∷ decimal count ∷ codes "\n" ∷ [])

-- both lines
abbrev pub both_lines : ℕ → List ℕ
both_lines count = listening ++ sessions_line count

-- a fault of the sink as one of the run
abbrev pub fault_of : SinkError → RunFault
fault_of sink.Failed = Output
fault_of sink.OutOfMemory = OutOfMemory

-- why a text wasn't written whole: a front of it went out, and the sink failed, or memory was wanting
abbrev pub WriteFails : List ℕ → Option (List ℕ) → Option (List ℕ) → ℕ → ℕ → RunFault → Type 0
WriteFails text old new before now Output = AppendsFront old new text × Rose before now
WriteFails text old new before now OutOfMemory = AppendsFront old new text
WriteFails text old new before now fault = ⊥
