use Rattle.follow_laws.proofs.Above.{sound_at_start}
use Rattle.follow_laws.proofs.Sequences.{sequenced_keep}
use Rattle.follow_laws.proofs.tests.rows.rested.Goals as goal

pub returns : goal.returns
returns g c = record {
  complete = c.follow_floor.ensures.complete sequenced_keep;
  accounts = λ low. c.follow_floor.ensures.replayed (sound_at_start c.args.report.target.start c.args.report.kept low);
}
