use Rattle.std.proofs.Common.{refl}
use Rattle.promise_cases.proofs.Texts.{strange_job}
use Rattle.promise_cases.proofs.tests.texts.strange.Goals as goal

pub returns : goal.returns
returns c = strange_job _ c.parse_job.result refl c.parse_job.ensures.job c.parse_job.ensures.bad
