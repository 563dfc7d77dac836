use Rattle.std.proofs.Common.{◌≡◌, subst, arith}
use Rattle.ledger_strategy.specs.Parts.{AreResultsFrom}
use Rattle.ledger_strategy.proofs.PartsLemmas.{AreResultsFrom-none, AreResultsFrom-push}
use Rattle.ledger_transfers.specs.Registering.{IsKeySlot}
use Rattle.ledger_transfers.proofs.register.settle_row.Goals as goal

pub loop-place-init : goal.loop-place-init
loop-place-init g c = rw c.in_ok-slots.ensures.items (AreResultsFrom-none _ c.args.from)

pub loop-place-preserved : goal.loop-place-preserved
loop-place-preserved g c = rw c.in_ok-push.ensures.items (AreResultsFrom-push _ _ _ _ _ c.loop-place.invariant c.in_ok-slot.ensures)

pub returns : goal.returns
returns g c =
    let end : c.loop-place.place ≡ c.args.upto = omega (arith, c.loop-place-test.false, c.loop-place.auto.place-end) in
    subst (λ n. AreResultsFrom (IsKeySlot g.K.PartialEq.eq g.A.PartialEq.eq g.A.Account.rules c.args.keys.now c.args.table.now.entries) c.args.from n c.loop-place.slots.items) end c.loop-place.invariant
