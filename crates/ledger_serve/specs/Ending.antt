-- How serving ends.
use Rattle.std.specs.Prelude.{◌≡◌, ℕ, List, Option, Result, Ok, Err}
use Rattle.ledger_program.specs.declared.outcome.RunFault.{RunFault}
use Rattle.ledger_serve.specs.Lines.{sessions_line, WriteFails}

-- why it didn't end with its last line: not all sessions were started, and nothing more was written; or that line wasn't
-- written whole
abbrev pub FinishFails : Result (Unit {0}) RunFault → ℕ → Option (List ℕ) → Option (List ℕ) → ℕ → ℕ → RunFault → Type 0
FinishFails (Err cause) count old new before now fault = (fault ≡ cause) × (new ≡ old)
FinishFails (Ok done) count old new before now fault = WriteFails (sessions_line count) old new before now fault
