use Rattle.session_cases.proofs.Sessions.{answered_is}
use Rattle.session_cases.proofs.tests.promises.answered.Goals as goal

pub returns : goal.returns
returns g c =
    answered_is c.args.shared.now.opening c.args.pass.now c.run_session.new.pass c.args.link.now c.run_session.new.link c.requires.unseen c.requires.given c.requires.sent c.run_session.result
    c.args.link.now.calls.faults c.run_session.new.link.calls.faults c.run_session.ensures.runs
