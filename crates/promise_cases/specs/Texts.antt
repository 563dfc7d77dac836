-- What is answered to a text whose first line is none.
use Rattle.std.specs.Prelude.{◌≡◌, Result, Ok, Err, ⊤}
use Rattle.ledger_job.specs.declared.job.JobFault.{JobFault}
use Rattle.ledger_job.specs.declared.job.JobFault.TheVariants.{BadLine, OutOfMemory}

-- the first line offends, or memory was wanting
abbrev pub OffendsFirst : {X : Type 0} → Result X JobFault → Type 0
OffendsFirst (Ok x) = ⊥
OffendsFirst (Err (BadLine line)) = line ≡ 1
OffendsFirst (Err OutOfMemory) = ⊤
