use Rattle.std.proofs.Common.{ap, ◌∙◌}
use Rattle.std.specs.Prelude.{map, string_bytes}
use Rattle.follow_promises.proofs.Runs.{ends_calmly}
use Rattle.follow_promises.proofs.tests.runs.of_nothing.Goals as goal

pub returns : goal.returns
returns g c = ends_calmly (map string_bytes c.deref.result.now) _ c.run.result.status (ap (map string_bytes) c.deref.ensures.value ∙ c.in_ok-words.ensures) c.run.ensures.complete
