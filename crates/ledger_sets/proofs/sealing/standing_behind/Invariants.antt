use Rattle.std.proofs.Common.{◌≡◌, take, drop}
use Rattle.ledger_sets.specs.Meaning.{with_links, first_refusal}
use Rattle.ledger_sets.proofs.sealing.standing_behind.Given as goal

abbrev pub invariant-loop-link : goal.invariant-loop-link
invariant-loop-link g l =
    let m = g.D.SetLog.meaning in
    record {
      size : l.standing.size ≡ (m.state (with_links m l.db (take l.link-index l.links))).size;
      floor : l.standing.floor ≡ m.floor (with_links m l.db (take l.link-index l.links));
      rest : first_refusal m (with_links m l.db (take l.link-index l.links)) (drop l.link-index l.links) ≡ first_refusal m l.db l.links;
    }
