use Rattle.std.proofs.Common.{ap, ◌∙◌}
use Rattle.std.specs.Prelude.{map, string_bytes}
use Rattle.ledger_serve.proofs.Calm.{calm_ends}
use Rattle.program_cases.proofs.tests.serve.calm.calm.Goals as goal

pub returns : goal.returns
returns g c = calm_ends (map string_bytes c.deref.result.now) _ c.run_serve.result.status (ap (map string_bytes) c.deref.ensures.value ∙ c.in_ok-words.ensures) c.run_serve.ensures.complete
