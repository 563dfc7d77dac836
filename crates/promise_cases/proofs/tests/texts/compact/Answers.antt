use Rattle.std.proofs.Common.{refl}
use Rattle.promise_cases.proofs.Texts.{reads_compact}
use Rattle.promise_cases.proofs.tests.texts.compact.Goals as goal

pub returns : goal.returns
returns c = reads_compact _ c.parse.result refl c.parse.ensures
