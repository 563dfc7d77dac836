use Rattle.std.proofs.Common.{refl}
use Rattle.promise_cases.proofs.Texts.{reads_full}
use Rattle.promise_cases.proofs.tests.texts.full.Goals as goal

pub returns : goal.returns
returns c = reads_full _ c.parse.result refl c.parse.ensures
