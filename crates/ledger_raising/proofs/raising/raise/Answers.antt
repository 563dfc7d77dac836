use Rattle.std.proofs.Common.{◌≡◌, ◌+◌, ◌++◌, ◌^◌, ◌<◌, ◌≤◌, inr, length, arith, ◌∙◌, sym, ap, length-append}
use Rattle.ledger_log.specs.View.{log_size}
use Rattle.ledger_compact.specs.View.{with_ops}
use Rattle.ledger_raising.specs.Raised.{copies, raised}
use Rattle.ledger_raising.proofs.Steps.{full, fits, floor_left, law}
use Rattle.ledger_raising.proofs.raising.raise.Given as given
use Rattle.ledger_raising.proofs.raising.raise.Goals as goal

-- the changes with the copies, as they are made
made : (g : given.Over) (c : goal.After-drop-copies-2 g) → c.in_ok-ops.ops.items ≡ c.args.changes.now ++ copies g.F.Family.floor_of g.F.Family.write_of (with_ops c.args.log.now c.args.missing.now) c.args.changes.now
made g c =
    let a = c.in_ok-ops.ensures in
    let b = c.in_ok-copies.ensures.ok in
    let s = c.as_slice.ensures.value in
    cc

whole : (g : given.Over) (c : goal.After-drop-copies-2 g) → c.push.new.self.items ≡ raised g.F.Family.floor_of g.F.Family.write_of g.F.Family.commit_of (with_ops c.args.log.now c.args.missing.now) c.args.changes.now c.args.metadata
whole g c =
    let both = made g c in
    let pushed = c.in_ok-push.ensures.items in
    let last = c.commit.ensures in
    let next = c.in_ok-next.ensures.ok in
    let slice = c.as_slice-2.ensures.value in
    cc

pub returns-then-saturating_add-ge-MAX_LEAVES-clause-refuses :
    goal.returns-then-saturating_add-ge-MAX_LEAVES-clause-refuses
returns-then-saturating_add-ge-MAX_LEAVES-clause-refuses g c =
    let size : c.plus.result ≡ log_size c.args.log.now + length c.args.missing.now = omega (arith, c.plus.ensures, c.size.ensures.size, c.get.ensures.same) in
    let long : 2 ^ 62 ≤ c.plus.result + length c.args.changes.now = omega (arith, c.plus.ensures, c.saturating_add.ensures, c.if-saturating_add-ge-MAX_LEAVES.true) in
    inr (full g.F.Family.floor_of g.F.Family.write_of c.args.log.now c.args.missing.now c.args.changes.now c.args.floor c.requires.floor g.F.Family.commit_of g.met.F.Family.commit_has_floor g.met.F.RaisingFamily.writes_are_no_commits c.args.metadata c.requires.low c.requires.writes c.plus.result size (omega (arith, long)))

pub returns-then-saturating_add-ge-MAX_LEAVES-2-clause-refuses :
    goal.returns-then-saturating_add-ge-MAX_LEAVES-2-clause-refuses
returns-then-saturating_add-ge-MAX_LEAVES-2-clause-refuses g c =
    let size : c.plus.result ≡ log_size c.args.log.now + length c.args.missing.now = omega (arith, c.plus.ensures, c.size.ensures.size, c.get.ensures.same) in
    let both : c.in_ok-ops.ops.items ≡ c.args.changes.now ++ copies g.F.Family.floor_of g.F.Family.write_of (with_ops c.args.log.now c.args.missing.now) c.args.changes.now =
    let a = c.in_ok-ops.ensures in
    let b = c.in_ok-copies.ensures.ok in
    let s = c.as_slice.ensures.value in
    cc in
    let count = ap length both ∙ length-append c.args.changes.now (copies g.F.Family.floor_of g.F.Family.write_of (with_ops c.args.log.now c.args.missing.now) c.args.changes.now) in
    let long : 2 ^ 62 ≤ c.plus.result + length c.in_ok-ops.ops.items = omega (arith, c.plus.ensures, c.len.ensures, c.in_ok-ops.ops.ok, c.saturating_add-2.ensures, c.if-saturating_add-ge-MAX_LEAVES-2.true) in
    inr (full g.F.Family.floor_of g.F.Family.write_of c.args.log.now c.args.missing.now c.args.changes.now c.args.floor c.requires.floor g.F.Family.commit_of g.met.F.Family.commit_has_floor g.met.F.RaisingFamily.writes_are_no_commits c.args.metadata c.requires.low c.requires.writes c.plus.result size (omega (arith, long, count)))

pub returns-clause-floor : goal.returns-clause-floor
returns-clause-floor g c =
    let all : c.push.new.self.items ≡ raised g.F.Family.floor_of g.F.Family.write_of g.F.Family.commit_of (with_ops c.args.log.now c.args.missing.now) c.args.changes.now c.args.metadata = whole g c in
    let left = floor_left g.F.Family.floor_of g.F.Family.write_of c.args.log.now c.args.missing.now c.args.changes.now c.args.floor c.requires.floor g.F.Family.commit_of g.met.F.Family.commit_has_floor g.met.F.RaisingFamily.writes_are_no_commits c.args.metadata c.requires.low c.requires.writes c.push.new.self.items all in
    let next = c.in_ok-next.ensures.ok in
    let both = made g c in
    let slice = c.as_slice-2.ensures.value in
    cc

pub returns-clause-may : goal.returns-clause-may
returns-clause-may g c =
    let size : c.plus.result ≡ log_size c.args.log.now + length c.args.missing.now = omega (arith, c.plus.ensures, c.size.ensures.size, c.get.ensures.same) in
    let count = ap length (made g c) ∙ length-append c.args.changes.now (copies g.F.Family.floor_of g.F.Family.write_of (with_ops c.args.log.now c.args.missing.now) c.args.changes.now) in
    let short : c.plus.result + length c.in_ok-ops.ops.items < 2 ^ 62 = omega (arith, c.plus.ensures, c.len.ensures, c.in_ok-ops.ops.ok, c.saturating_add-2.ensures, c.if-saturating_add-ge-MAX_LEAVES-2.false) in
    fits g.F.Family.floor_of g.F.Family.write_of c.args.log.now c.args.missing.now c.args.changes.now c.args.floor c.requires.floor g.F.Family.commit_of g.met.F.Family.commit_has_floor g.met.F.RaisingFamily.writes_are_no_commits c.args.metadata c.requires.low c.requires.writes c.plus.result size (omega (arith, short, count))

pub returns-clause-law : goal.returns-clause-law
returns-clause-law g c =
    law g.F.Family.floor_of g.F.Family.write_of c.args.log.now c.args.missing.now c.args.changes.now c.args.floor c.requires.floor g.F.Family.commit_of g.met.F.Family.commit_has_floor g.met.F.RaisingFamily.writes_are_no_commits c.args.metadata c.requires.low c.requires.writes c.push.new.self.items (whole g c)
