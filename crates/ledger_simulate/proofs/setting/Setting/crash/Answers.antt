use Rattle.ledger_simulate.proofs.Building.{runs_more}
use Rattle.ledger_simulate.proofs.setting.Setting.crash.Goals as goal

pub invariant_of-result : goal.invariant_of-result
invariant_of-result c =
    let runs = runs_more c.args.self.participants c.args.self.crashes c.push.new.list c.args.crash c.requires c.in_ok-push.ensures.ok (c.args.self.distinct, c.args.self.one_delay, c.args.self.one_random) in
    record { distinct = runs.0; one_delay = runs.1; one_random = runs.2 }
