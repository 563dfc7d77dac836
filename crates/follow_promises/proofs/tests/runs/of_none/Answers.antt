use Rattle.std.proofs.Common.{refl, sym}
use Rattle.std.proofs.lemmas.Result.{IfErr-weaker, IfOk-weaker}
use Rattle.follow_promises.specs.Runs.{nothing_asked}
use Rattle.follow_promises.proofs.tests.runs.of_none.Goals as goal

pub returns-clause-reports : goal.returns-clause-reports
returns-clause-reports g c = IfOk-weaker c.follow_opened.result _ _ (λ report h. h nothing_asked (sym c.new-opens.ensures) (sym c.new-blocks.ensures)) c.follow_opened.ensures.reports

pub returns-clause-fails : goal.returns-clause-fails
returns-clause-fails g c = IfErr-weaker c.follow_opened.result _ _ (λ fault h. h nothing_asked (sym c.new-opens.ensures) (sym c.new-blocks.ensures)) c.follow_opened.ensures.fails
