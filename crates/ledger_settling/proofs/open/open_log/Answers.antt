use Rattle.std.proofs.Common.{◌≡◌, ◌+◌, ◌<◌, ◌≤◌, ap, subst, ◌∙◌, length, Some}
use Rattle.ledger_merkle.specs.Leaves.{ListView}
use Rattle.ledger_log.specs.Any.{any_floor}
use Rattle.ledger_log.specs.View.{last_floor}
use Rattle.ledger_settling.proofs.open.open_log.Goals as goal

pub returns-in-Ok-clause-whole : goal.returns-in-Ok-clause-whole
returns-in-Ok-clause-whole c =
    let is = c.in-Ok.ensures.ok in
    let ops : c.in-Ok.log.ops ≡ c.args.ops.items = ap (λ l. l.ops) is in
    let front : c.in-Ok.log.front ≡ c.args.target.now.start = ap (λ l. l.front) is ∙ ap (λ (x : ListView). x.front) c.requires.leaves in
    record {
      floor = c.floor-floor.result;
      commits = subst (λ xs. last_floor any_floor xs ≡ Some c.floor-floor.result) ops c.floor-floor.ensures.floor;
      least = subst (λ n. n ≤ c.floor-floor.result) front c.floor-floor.ensures.least;
      most = subst (λ n. c.floor-floor.result < n + length c.args.ops.items) front (subst (λ xs. c.floor-floor.result < c.in-Ok.log.front + length xs) ops c.floor-floor.ensures.most);
    }
