use Rattle.follow_laws.proofs.Sequences.{sequenced_keep}
use Rattle.follow_laws.proofs.tests.rows.continued.Goals as goal

pub returns : goal.returns
returns g c = record {
  complete = c.follow_report.ensures.complete sequenced_keep;
  continues = c.follow_report.ensures.continues;
}
