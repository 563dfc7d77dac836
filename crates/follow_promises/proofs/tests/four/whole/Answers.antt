use Rattle.std.proofs.Common.{◌∙◌}
use Rattle.ledger_program.proofs.Locals.{spans_log}
use Rattle.follow_promises.proofs.tests.four.whole.Goals as goal

pub returns-clause-spans : goal.returns-clause-spans
returns-clause-spans c = spans_log c.in-Some.target c.args.log.now c.requires.front c.requires.pinned (c.in-Some.ensures.0 ∙ c.root.ensures) c.in-Some.ensures.1 (c.in-Some.ensures.2 ∙ c.size.ensures.size)
