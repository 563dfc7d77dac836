use Rattle.std.proofs.Common.{◌≡◌, ◌∷◌, All, take, map, None}
use Rattle.ledger_log.specs.Any.{IsSoundAny}
use Rattle.ledger_log.specs.declared.any.AnyOp.TheVariants.{CommitFloor}
use Rattle.ledger_program.specs.Served.{update_of}
use Rattle.ledger_program.proofs.served.served.Given as goal

abbrev pub invariant-opens : goal.invariant-opens
invariant-opens l = (l.ops.items ≡ CommitFloor None 0 ∷ map update_of (take l.account-index l.accounts)) × All IsSoundAny l.ops.items
