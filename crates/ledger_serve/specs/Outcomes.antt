-- What a run of `serve` leaves.
use Rattle.std.specs.Prelude.{◌≡◌, ℕ, Bool, List, Option, Some, None}
use Rattle.ledger_codec.specs.Causes.{Rose}
use Rattle.ledger_program.specs.Run.{status_of}
use Rattle.ledger_program.specs.declared.outcome.RunFault.{RunFault}
use Rattle.ledger_program.specs.declared.outcome.RunFault.TheVariants.{Dial, Output}
use Rattle.serve_parts.specs.declared.form.ServeForm.{ServeForm}
use Rattle.ledger_serve.specs.Serving.{ReadFails, ServedAs, Caused, Wrote, lines_for, line_in}

-- why a job wasn't served to the end: its log wasn't, or no job was read
abbrev pub JobStops : Option (List ℕ) → ℕ → ℕ → ℕ → ℕ → ℕ → ℕ → RunFault → Type 0
JobStops left read read_now listened listened_now wrote wrote_now Dial = Rose listened listened_now
JobStops left read read_now listened listened_now wrote wrote_now Output = Rose wrote wrote_now
JobStops left read read_now listened listened_now wrote wrote_now fault = ReadFails left read read_now fault

-- without a fault the form was served; a fault has its cause, and its line was written behind the lines before it
abbrev pub EndsBy : {L : Type 0} → Option ServeForm → Option (List ℕ) → ℕ → ℕ → ℕ → ℕ → Option (List L) → Option (List L) → ℕ → ℕ → Bool → Option (List ℕ) → Option (List ℕ) → ℕ → ℕ → Option RunFault → Type 0
EndsBy form left read read_now listened listened_now coming coming_now started joined grows old new wrote wrote_now None =
    ServedAs form left coming coming_now started joined old new
EndsBy form left read read_now listened listened_now coming coming_now started joined grows old new wrote wrote_now (Some fault) =
    Caused form left read read_now listened listened_now wrote wrote_now fault × Wrote grows (lines_for form) old new wrote wrote_now fault

-- a run ended with this status and this line: without a fault or with one
pub record Ends {L : Type 0} (form : Option ServeForm) (left : Option (List ℕ)) (read read_now listened listened_now : ℕ) (coming coming_now : Option (List L)) (started joined : ℕ) (grows : Bool) (old new : Option (List ℕ)) (wrote wrote_now status : ℕ) (line : Option ℕ) : Type 0 where
  pub fault : Option RunFault
  pub status_is : status ≡ status_of fault
  pub line_is : line ≡ line_in fault
  pub by : EndsBy form left read read_now listened listened_now coming coming_now started joined grows old new wrote wrote_now fault
