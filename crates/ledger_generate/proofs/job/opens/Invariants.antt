use Rattle.std.proofs.Common.{◌≡◌, map}
use Rattle.std.specs.List.{range_with_len}
use Rattle.ledger_generate.specs.Generated.{open_at}
use Rattle.ledger_generate.proofs.job.opens.Given as goal

abbrev pub invariant-loop-number : goal.invariant-loop-number
invariant-loop-number l = l.all.items ≡ map (open_at l.fn.sizes) (range_with_len 0 l.number)
