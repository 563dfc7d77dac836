use Rattle.std.proofs.Common.{refl}
use Rattle.follow_laws.specs.declared.tests.cuts.TheConstants.{STREAM}
use Rattle.follow_laws.proofs.Pieces.{are_below, bytes_of, tells}
use Rattle.follow_laws.proofs.tests.cuts.cut_twice.Goals as goal

pub returns : goal.returns
unfolding are_below
returns g c =
    c.follow_twice-runs.ensures.one_answer STREAM (bytes_of STREAM refl)
    (tells STREAM c.args.link.now c.follow_twice-runs.new.link c.requires.one c.see.ensures)
    (tells STREAM c.args.other.now c.follow_twice-runs.new.other c.requires.two c.see-2.ensures) c.requires.same
