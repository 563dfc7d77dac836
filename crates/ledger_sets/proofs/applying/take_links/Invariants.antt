use Rattle.std.proofs.Common.{◌≡◌, take, drop}
use Rattle.ledger_sets.specs.Meaning.{with_links, with_taken, first_refusal}
use Rattle.ledger_sets.proofs.applying.take_links.Given as goal

abbrev pub invariant-loop-link : goal.invariant-loop-link
invariant-loop-link g l =
    let m = g.D.SetLog.meaning in
    record {
      now : l.log ≡ with_links m l.initial.log (take l.link-index l.links);
      rest : first_refusal m (with_links m l.initial.log (take l.link-index l.links)) (drop l.link-index l.links) ≡ first_refusal m l.initial.log l.links;
      taken : with_taken m (with_links m l.initial.log (take l.link-index l.links)) (drop l.link-index l.links) ≡ with_taken m l.initial.log l.links;
    }
