use Rattle.std.proofs.Common.{◌≡◌, ◌++◌, take}
use Rattle.std.specs.List.{concat}
use Rattle.ledger_merkle.proofs.binding.root_input.Given as goal

abbrev pub invariant-loop-peak : goal.invariant-loop-peak
invariant-loop-peak l = l.input.items ≡ l.initial.input.items ++ concat (take l.peak-index l.peaks)
