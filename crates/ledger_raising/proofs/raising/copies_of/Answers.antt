use Rattle.std.proofs.Common.{◌≡◌, ◌+◌, ◌++◌, length, take, arith, ◌∙◌}
use Rattle.ledger_log.specs.View.{log_size}
use Rattle.ledger_log.specs.Active.{living_from}
use Rattle.ledger_raising.proofs.Steps.{copies_found}
use Rattle.ledger_raising.proofs.raising.copies_of.Goals as goal

pub returns-clause-ok : goal.returns-clause-ok
returns-clause-ok g c =
    let found : c.in_ok-found.found.items ≡ take (length c.args.changes.now) (living_from g.F.Family.write_of c.args.log.now (c.args.missing.now ++ c.args.changes.now) c.args.floor) =
    let a = c.in_ok-found.ensures.ok in
    let b = c.in_ok-behind.ensures in
    let s = c.as_slice.ensures.value in
    cc in
    let size : c.get.result + length c.args.missing.now ≡ log_size c.args.log.now + length c.args.missing.now = omega (arith, c.size.ensures.size, c.get.ensures.same) in
    let below = c.in_ok-ops_below.ensures in
    let slice = c.as_slice-2.ensures.value in
    let all = copies_found g.F.Family.floor_of g.F.Family.write_of c.args.log.now c.args.missing.now c.args.changes.now c.args.floor c.requires.floor c.in_ok-found.found.items (c.get.result + length c.args.missing.now) found size in
    cc
