use Rattle.std.proofs.Common.{Some, map, string_bytes}
use Rattle.ledger_sync.specs.Brought.{link_over}
use Rattle.ledger_sync.specs.Forms.{form_of}
use Rattle.sync_program.specs.Run.{sink_over}
use Rattle.sync_program.proofs.Endings.{ended_printed, ends_refused, statuses_so, usage_so, fault_so, complete_printed, complete_refused}
use Rattle.sync_program.proofs.program.run_sync.Goals as goal

pub returns-in-Ok-clause-ended : goal.returns-in-Ok-clause-ended
returns-in-Ok-clause-ended g c = ended_printed _ _ _ _ _ c.in-Ok.synced c.printed.result c.in-Ok.ensures.arrives c.printed.ensures

pub returns-in-Err-clause-ended : goal.returns-in-Err-clause-ended
returns-in-Err-clause-ended g c = (Some c.in-Err.refusal, c.refused.ensures.outcome, ends_refused _ _ _ _ _ c.in-Err.refusal c.in-Err.ensures.refused c.refused.ensures.lined)

pub returns-in-Ok-clause-complete : goal.returns-in-Ok-clause-complete
returns-in-Ok-clause-complete g c =
    let form = form_of (map string_bytes c.args.words.now) in
    let over = link_over (g.D.Link.service c.args.dialer.now) (g.D.Link.wire c.args.dialer.now) (g.D.Link.wire c.attempt.new.dialer) (g.D.Link.faults c.args.dialer.now) (g.D.Link.faults c.attempt.new.dialer) in
    let out = sink_over g.K.Sink.grows (g.K.Sink.written c.args.out.now) (g.K.Sink.written c.printed.new.out) (g.K.Sink.faults c.args.out.now) (g.K.Sink.faults c.printed.new.out) in
    complete_printed form (g.D.Dialer.dials c.args.dialer.now) (g.D.Dialer.dials c.attempt.new.dialer) over out c.in-Ok.synced c.printed.result c.printed.ensures

pub returns-in-Err-clause-complete : goal.returns-in-Err-clause-complete
returns-in-Err-clause-complete g c =
    let form = form_of (map string_bytes c.args.words.now) in
    let over = link_over (g.D.Link.service c.args.dialer.now) (g.D.Link.wire c.args.dialer.now) (g.D.Link.wire c.attempt.new.dialer) (g.D.Link.faults c.args.dialer.now) (g.D.Link.faults c.attempt.new.dialer) in
    let out = sink_over g.K.Sink.grows (g.K.Sink.written c.args.out.now) (g.K.Sink.written c.refused.new.out) (g.K.Sink.faults c.args.out.now) (g.K.Sink.faults c.refused.new.out) in
    complete_refused form (g.D.Dialer.dials c.args.dialer.now) (g.D.Dialer.dials c.attempt.new.dialer) over out c.in-Err.refusal c.refused.result c.in-Err.ensures.rare c.in-Err.ensures.refused c.refused.ensures.outcome

pub returns-in-Ok-clause-statuses : goal.returns-in-Ok-clause-statuses
returns-in-Ok-clause-statuses g c = statuses_so _ _ _ _ _ c.printed.result (returns-in-Ok-clause-ended g c)

pub returns-in-Err-clause-statuses : goal.returns-in-Err-clause-statuses
returns-in-Err-clause-statuses g c = statuses_so _ _ _ _ _ c.refused.result (returns-in-Err-clause-ended g c)

pub returns-in-Ok-clause-usage : goal.returns-in-Ok-clause-usage
returns-in-Ok-clause-usage g c = usage_so _ _ _ _ _ c.printed.result (returns-in-Ok-clause-ended g c)

pub returns-in-Err-clause-usage : goal.returns-in-Err-clause-usage
returns-in-Err-clause-usage g c = usage_so _ _ _ _ _ c.refused.result (returns-in-Err-clause-ended g c)

pub returns-in-Ok-clause-fault : goal.returns-in-Ok-clause-fault
returns-in-Ok-clause-fault g c = fault_so _ _ _ _ _ c.printed.result (returns-in-Ok-clause-ended g c)

pub returns-in-Err-clause-fault : goal.returns-in-Err-clause-fault
returns-in-Err-clause-fault g c = fault_so _ _ _ _ _ c.refused.result (returns-in-Err-clause-ended g c)
