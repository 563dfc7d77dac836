use Rattle.std.proofs.Common.{ap, ◌∙◌}
use Rattle.std.specs.Prelude.{map, string_bytes}
use Rattle.ledger_generate.proofs.Calm.{calm_ends, calm_reports}
use Rattle.ledger_generate.proofs.tests.calm.settled.Goals as goal

pub returns-clause-complete : goal.returns-clause-complete
returns-clause-complete g c = calm_ends (map string_bytes c.deref.result.now) c.run_generate.result.status (ap (map string_bytes) c.deref.ensures.value ∙ c.in_ok-words.ensures) c.run_generate.ensures.complete

pub returns-clause-reported : goal.returns-clause-reported
returns-clause-reported g c =
    let run = c.run_generate.result in
    calm_reports (map string_bytes c.deref.result.now) run.report run.fault run.status (ap (map string_bytes) c.deref.ensures.value ∙ c.in_ok-words.ensures) c.run_generate.ensures.status c.run_generate.ensures.caused c.run_generate.ensures.reported
