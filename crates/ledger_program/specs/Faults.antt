-- Why there is no report of a run.
use Rattle.ledger_program.specs.declared.fault.Fault.{Fault}
use Rattle.ledger_program.specs.declared.fault.Fault.TheVariants.{BadLog, BadValue, Rejected, Full, OutOfMemory}
use Rattle.ledger_settling.specs.declared.fault.ReportFault.{ReportFault}
use Rattle.ledger_settling.specs.declared.fault.ReportFault.TheVariants.{BadLog as NoLog, BadValue as NoValue, Rejected as BlockRejected, Full as LogFull, OutOfMemory as NoMemory}

-- the fault of a part and its blocks, as a fault of the whole run
abbrev pub fault_of : ReportFault → Fault
fault_of (NoLog location) = BadLog location
fault_of (NoValue location) = BadValue location
fault_of (BlockRejected block rejection) = Rejected block rejection
fault_of (LogFull block) = Full block
fault_of NoMemory = OutOfMemory
