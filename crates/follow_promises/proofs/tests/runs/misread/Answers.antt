use Rattle.std.proofs.Common.{ap, ◌∙◌}
use Rattle.std.specs.Prelude.{map, string_bytes}
use Rattle.ledger_codec.specs.Memory.{source_bytes}
use Rattle.follow_promises.proofs.Runs.{no_report_for, or_so, stops_early}
use Rattle.follow_promises.proofs.tests.runs.misread.Goals as goal

pub returns-clause-early : goal.returns-clause-early
returns-clause-early g c =
    let run = c.run.result in
    let words = map string_bytes c.deref.result.now in
    or_so run.status
    (stops_early words (source_bytes c.args.job.now) _ (ap (map string_bytes) c.deref.ensures.value ∙ c.in_ok-words.ensures) c.requires _ _ run.report run.fault run.status
    c.run.ensures.status c.run.ensures.followed c.run.ensures.reported c.run.ensures.caused) c.run.ensures.early

pub returns-clause-unreported : goal.returns-clause-unreported
returns-clause-unreported g c =
    let run = c.run.result in
    let words = map string_bytes c.deref.result.now in
    no_report_for words (source_bytes c.args.job.now) _ (ap (map string_bytes) c.deref.ensures.value ∙ c.in_ok-words.ensures) c.requires run.report run.fault run.status
    c.run.ensures.followed c.run.ensures.reported c.run.ensures.unreported
