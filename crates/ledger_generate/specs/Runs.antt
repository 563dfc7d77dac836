-- What a call that settles a generated job answers.
use Rattle.std.specs.Prelude.{◌≡◌, ℕ, List, [], Option, Some, None, true, is_some, ◌⊎◌}
use Rattle.ledger_codec.specs.Causes.{Rose}
use Rattle.ledger_program.specs.Run.{ReportsJob}
use Rattle.ledger_program.specs.declared.outcome.RunFault.{RunFault}
use Rattle.ledger_program.specs.declared.outcome.RunFault.TheVariants.{Usage, Output, OutOfMemory}
use Rattle.ledger_settling.specs.declared.report.Report.{Report}
use Rattle.ledger_transfers.specs.declared.sequenced.Sequenced.{Sequenced}
use Rattle.ledger_generate.specs.Generated.{generated}
use Rattle.ledger_generate.specs.Sizes.{SizesView}
use Rattle.ledger_generate.specs.Text.{lines_of}

-- the report is that of the generated job of the sizes that the words ask for
pub record IsGenerated (form : Option SizesView) (report : Report Sequenced) : Type 0 where
  pub sizes : SizesView
  pub form_is : form ≡ Some sizes
  pub reports : ReportsJob (generated sizes) report

-- the three lines of a report, if there is one
abbrev pub lines_if : Option SizesView → Option (Report Sequenced) → List ℕ
lines_if (Some sizes) (Some report) = lines_of sizes report
lines_if form report = []

-- why the three lines weren't written: the words are no form, the sink failed, or memory was wanting
abbrev pub Caused : Option SizesView → ℕ → ℕ → RunFault → Type 0
Caused form before now Usage = form ≡ None
Caused form before now Output = (is_some form ≡ true) × Rose before now
Caused form before now OutOfMemory = is_some form ≡ true
Caused form before now fault = ⊥

-- where the words are a form and the sink's count didn't rise, only want of memory keeps the status from being 0
abbrev pub Completes : Option SizesView → ℕ → ℕ → ℕ → Type 0
Completes form before now status = is_some form ≡ true → (Rose before now → ⊥) → (status ≡ 0) ⊎ (status ≡ 11)
