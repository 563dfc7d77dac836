use Rattle.std.proofs.Common.{◌∙◌, map, ap}
use Rattle.ledger_log.proofs.Living.{places_from}
use Rattle.ledger_log.proofs.log.Log.active_from.Goals as goal

pub returns-clause-ok : goal.returns-clause-ok
returns-clause-ok g c =
    c.in_ok-places_of.ensures
    ∙ (ap (map (λ e. e.0)) c.as_slice.ensures.value
    ∙ places_from g.F.Family.write_of c.args.self.now c.args.loc c.args.limit c.in_ok-found.found.items c.in_ok-found.ensures.ok)
