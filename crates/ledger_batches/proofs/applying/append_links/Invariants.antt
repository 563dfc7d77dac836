use Rattle.std.proofs.Common.{◌≡◌, take, drop}
use Rattle.ledger_compact.specs.View.{with_ops}
use Rattle.ledger_chain.specs.Chain.{ops_of}
use Rattle.ledger_chain.specs.Faults.{first_refusal}
use Rattle.ledger_batches.specs.Applying.{with_taken}
use Rattle.ledger_batches.proofs.applying.append_links.Given as goal

abbrev pub invariant-loop-link : goal.invariant-loop-link
invariant-loop-link g l =
    let f = g.F.Family.floor_of in
    record {
      now : l.log ≡ with_ops l.initial.log (ops_of (take l.link-index l.links));
      rest : first_refusal f (with_ops l.initial.log (ops_of (take l.link-index l.links))) (drop l.link-index l.links) ≡ first_refusal f l.initial.log l.links;
      taken : with_taken f (with_ops l.initial.log (ops_of (take l.link-index l.links))) (drop l.link-index l.links) ≡ with_taken f l.initial.log l.links;
    }
