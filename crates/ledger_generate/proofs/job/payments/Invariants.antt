use Rattle.std.proofs.Common.{◌≡◌, map}
use Rattle.std.specs.List.{range_with_len}
use Rattle.ledger_generate.specs.Generated.{payment_at}
use Rattle.ledger_generate.proofs.job.payments.Given as goal

abbrev pub invariant-loop-place : goal.invariant-loop-place
invariant-loop-place l = l.all.items ≡ map (payment_at l.sizes) (range_with_len 0 l.place)
