use Rattle.sync_program.proofs.Endings.{front_went, whole_went}
use Rattle.sync_program.proofs.lines.write_line.Goals as goal

pub returns-clause-front : goal.returns-clause-front
returns-clause-front g c = front_went _ _ _ _ _ c.refusal_line-written.result c.refusal_line-written.ensures

pub returns-clause-whole : goal.returns-clause-whole
returns-clause-whole g c = whole_went _ _ _ _ _ c.refusal_line-written.result c.refusal_line-written.ensures
