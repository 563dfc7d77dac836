use Rattle.std.proofs.Common.{ap, ◌∙◌}
use Rattle.std.specs.Prelude.{map, string_bytes}
use Rattle.ledger_serve.proofs.Calm.{asks_no_job}
use Rattle.program_cases.proofs.tests.serve.calm.unread.Goals as goal

pub returns : goal.returns
returns g c = c.run_serve.ensures.unread (asks_no_job (map string_bytes c.deref.result.now) (ap (map string_bytes) c.deref.ensures.value ∙ c.in_ok-words.ensures))
