use Rattle.std.proofs.Common.{◌≡◌, ℕ, List, length, arith, ap, refl}
use Rattle.ledger_transfers.specs.declared.held.Held.{Held}
use Rattle.transfer_cases.proofs.cases.round.Goals as goal

pub register-requires-after_bounds : goal.register-requires-after_bounds
register-requires-after_bounds g c κs within =
    let kept = ap (λ (v : List ℕ × List (ℕ × Held g.row.A.Denot)). length v.1) c.in_ok-new.ensures.ok in
    let all : length c.args.selection.now.1 ≡ length c.args.selection.now.0 = c.if-not-is_registered.ensures.0 refl in
    let count : length c.in_ok-reads.reads.items ≡ c.in-Some.count = cc in
    omega (arith, kept, all, count, c.in_ok-new.ensures.range.0, c.in_ok-new.ensures.range.1, c.in-Some.ensures.0, c.in-Some.ensures.1)

pub apply-requires-after_bounds : goal.apply-requires-after_bounds
apply-requires-after_bounds g c κs within = c.in_ok-has_registered.ensures.0 cc
