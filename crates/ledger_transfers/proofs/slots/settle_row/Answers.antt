use Rattle.std.proofs.Common.{◌≡◌, subst, arith}
use Rattle.ledger_strategy.specs.Parts.{AreResultsFrom}
use Rattle.ledger_strategy.proofs.PartsLemmas.{AreResultsFrom-none, AreResultsFrom-push}
use Rattle.ledger_transfers.specs.Settling.{IsSlotAt}
use Rattle.ledger_transfers.proofs.slots.settle_row.Goals as goal

pub loop-place-init : goal.loop-place-init
loop-place-init g c = rw c.in-Ok.ensures.items (AreResultsFrom-none _ c.args.from)

pub loop-place-preserved : goal.loop-place-preserved
loop-place-preserved g c = rw c.in_ok-push.ensures.items (AreResultsFrom-push _ _ _ _ _ c.loop-place.invariant c.in_ok-slot.ensures.settled)

pub returns-clause-settled : goal.returns-clause-settled
returns-clause-settled g c =
    let end : c.loop-place.place ≡ c.args.upto = omega (arith, c.loop-place-test.false, c.loop-place.auto.place-end) in
    subst (λ n. AreResultsFrom (IsSlotAt g.A.PartialEq.eq g.A.Account.rules c.args.table.now.entries c.args.reads.now) c.args.from n c.loop-place.slots.items) end c.loop-place.invariant
