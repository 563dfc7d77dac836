use Rattle.std.proofs.Common.{◌≡◌, ◌<◌, ◌≤◌, ◌^◌, take, drop}
use Rattle.ledger_log.specs.View.{log_size, log_floor}
use Rattle.ledger_compact.specs.View.{with_ops}
use Rattle.ledger_chain.specs.Chain.{ops_of}
use Rattle.ledger_chain.specs.Faults.{first_refusal}
use Rattle.ledger_chain.proofs.standing.standing_behind.Given as goal

abbrev pub invariant-loop-link : goal.invariant-loop-link
invariant-loop-link g l =
    let f = g.F.Family.floor_of in
    record {
      size : l.standing.size ≡ log_size (with_ops l.log (ops_of (take l.link-index l.links)));
      floor : l.standing.floor ≡ log_floor f (with_ops l.log (ops_of (take l.link-index l.links)));
      least : log_floor f l.log ≤ l.standing.floor;
      low : l.standing.floor < l.standing.size;
      room : l.standing.size ≤ 2 ^ 62;
      rest : first_refusal f (with_ops l.log (ops_of (take l.link-index l.links))) (drop l.link-index l.links) ≡ first_refusal f l.log l.links;
    }
