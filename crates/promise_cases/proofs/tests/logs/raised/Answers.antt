use Rattle.std.proofs.Common.{refl}
use Rattle.std.proofs.lemmas.Result.{IfOk-weaker}
use Rattle.promise_cases.proofs.Raises.{stays_sound}
use Rattle.promise_cases.proofs.tests.logs.raised.Goals as goal

pub returns : goal.returns
returns c = IfOk-weaker c.raise.result _ _ (λ batch law. stays_sound c.in_ok-log.log _ _ batch.ops.items c.in_ok-log.ensures refl law) c.raise.ensures.law
