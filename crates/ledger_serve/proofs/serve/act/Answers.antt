use Rattle.std.proofs.Common.{Some}
use Rattle.ledger_serve.proofs.Causing.{caused_later}
use Rattle.ledger_serve.proofs.Texts.{wrote_behind}
use Rattle.ledger_serve.proofs.serve.act.Goals as goal

pub returns-in-Err-clause-ends : goal.returns-in-Err-clause-ends
returns-in-Err-clause-ends g c =
    record {
      fault = Some c.in-Err.fault;
      status_is = c.refused.ensures.status;
      line_is = c.refused.ensures.line;
      by = (caused_later _ _ _ _ _ _ _ _ _ c.refused.ensures.later c.in-Err.fault c.in-Err.ensures.caused, wrote_behind _ _ _ _ _ _ _ _ c.in-Err.fault c.in-Err.ensures.leaves c.in-Err.ensures.later c.refused.ensures.front c.refused.ensures.whole);
    }
