use Rattle.std.proofs.Common.{◌==◌, ◌∙◌, sym}
use Rattle.ledger_job.proofs.Cuts.{cut_some, cut_none}
use Rattle.ledger_job.proofs.split.cut.Goals as goal

pub returns-in-Some-clause-parts : goal.returns-in-Some-clause-parts
returns-in-Some-clause-parts c = cut_some (λ b. b == c.args.at) c.args.text.now c.in-Some.place c.in-Some.ensures.within (sym c.place_of.ensures.value ∙ c.in-Some.is)

pub returns-in-None-clause-parts : goal.returns-in-None-clause-parts
returns-in-None-clause-parts c = cut_none (λ b. b == c.args.at) c.args.text.now (sym c.place_of.ensures.value ∙ c.in-None.is)
