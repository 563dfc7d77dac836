use Rattle.std.proofs.Common.{Some, None, refl, ap}
use Rattle.ledger_log.specs.Any.{any_floor, any_write}
use Rattle.ledger_activity.proofs.Meeting.{met_write}
use Rattle.ledger_activity.proofs.later.Later.meet.Goals as goal

pub returns-in_ok-insert-in-Update-clause-met : goal.returns-in_ok-insert-in-Update-clause-met
returns-in_ok-insert-in-Update-clause-met c ops h =
    met_write c.args.self.now (record { keys = c.insert.new.self; commit = c.args.self.now.commit }) c.in-Update.key c.args.op.now (Some c.in-Update.field-1) ops
    (ap any_write c.in-Update.is) (ap any_floor c.in-Update.is) c.in_ok-insert-in-Update.ensures.updates.0 refl h

pub returns-in_ok-insert-in-Delete-clause-met : goal.returns-in_ok-insert-in-Delete-clause-met
returns-in_ok-insert-in-Delete-clause-met c ops h =
    met_write c.args.self.now (record { keys = c.insert-in-Delete.new.self; commit = c.args.self.now.commit }) c.in-Delete.key c.args.op.now None ops
    (ap any_write c.in-Delete.is) (ap any_floor c.in-Delete.is) c.in_ok-insert-in-Delete.ensures.updates.0 refl h
