-- The three lines of a generated job's report.
use Rattle.std.specs.Prelude.{ℕ, ◌++◌, List, [], ◌∷◌, codes}
use Rattle.std.specs.Fmt.{decimal}
use Rattle.ledger_program.specs.Text.{end_lines}
use Rattle.ledger_settling.specs.declared.report.Report.{Report}
use Rattle.ledger_transfers.specs.declared.sequenced.Sequenced.{Sequenced}
use Rattle.ledger_generate.specs.Sizes.{SizesView}

-- the numbers of accounts and of payments
unfoldable pub generated_line : ℕ → ℕ → List ℕ
generated_line accounts transfers = codes "generated " ++ decimal accounts ++ codes " " ++ decimal transfers ++ 10 ∷ []

-- these numbers, and the size and the root
unfoldable pub lines_of : SizesView → Report Sequenced → List ℕ
lines_of sizes report = generated_line sizes.accounts sizes.transfers ++ end_lines report.size report.root
