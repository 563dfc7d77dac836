use Rattle.transfer_cases.proofs.Uses.{same_slots, settles_first}
use Rattle.transfer_cases.proofs.promised.slots_of.Goals as goal

pub returns-clause-same : goal.returns-clause-same
returns-clause-same g c theirs planned =
    same_slots c.args.selection.0 c.args.selection.1 c.in_ok-settle.field-0.items theirs c.requires.keys c.requires.reads (c.in_ok-settle.ensures.planned _ c.requires.stands) planned

pub returns-clause-settled : goal.returns-clause-settled
returns-clause-settled g c =
    settles_first c.args.selection.0 c.args.selection.1 c.in_ok-settle.field-0.items c.requires.keys c.requires.reads (c.in_ok-settle.ensures.slots _ c.requires.stands)
