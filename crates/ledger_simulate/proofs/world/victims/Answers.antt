use Rattle.std.proofs.Common.{◌≡◌, ◌<◌, length, arith}
use Rattle.simulate_parts.specs.Seats.{active_peers}
use Rattle.ledger_simulate.specs.Failures.{picked}
use Rattle.ledger_simulate.proofs.SettingOff.{picked_all, picked_out, picked_push}
use Rattle.ledger_simulate.proofs.world.victims.Goals.{else-loop-test, then-loop-test+then-len-eq0}
use Rattle.ledger_simulate.proofs.world.victims.Goals as goal

pub loop-preserved : goal.loop-preserved
loop-preserved g c =
    let some : 0 < length c.loop.left.items = omega arith in
    picked_push c.args.count c.loop.counter c.loop.words c.loop.left.items c.loop.picked.items (picked c.args.count c.args.words.now (active_peers c.args.seats.now.entries))
    c.pick.new.words c.pick.new.left.items c.push.new.self.items c.pick.result c.loop-test.true some c.pick.ensures.taken c.pick.ensures.left c.pick.ensures.words c.in_ok-push.ensures.items c.loop.invariant

pub returns : goal.returns
returns g c =
    let whole = picked c.args.count c.args.words.now (active_peers c.args.seats.now.entries) in
    elim c.loop-test.branch [
      | else-loop-test w ↦ picked_all c.args.count c.loop.counter c.loop.words c.loop.left.items c.loop.picked.items whole w.loop-test.false c.loop.invariant
      | then-loop-test+then-len-eq0 w ↦
          (let nobody : length c.loop.left.items ≡ 0 = omega arith in
          picked_out c.args.count c.loop.counter c.loop.words c.loop.left.items c.loop.picked.items whole nobody c.loop.invariant)
    ]
