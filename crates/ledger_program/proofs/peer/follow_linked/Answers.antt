use Rattle.std.proofs.Common.{sym, subst, ◌∙◌}
use Rattle.ledger_program.specs.Peer.{link_over, FollowPeerFails}
use Rattle.ledger_program.proofs.Peers.{reports_peer, failed_peer, fails_peer}
use Rattle.ledger_program.proofs.peer.follow_linked.Goals as goal

pub returns-in-Ok-clause-reports : goal.returns-in-Ok-clause-reports
returns-in-Ok-clause-reports g c =
    let seen = link_over (g.L.Link.service c.args.link.now) (g.L.Link.wire c.args.link.now) (g.L.Link.wire c.follow.new.link) (g.L.Link.faults c.args.link.now) (g.L.Link.faults c.follow.new.link) in
    reports_peer c.args.job seen c.args.target.now c.new-updates.result c.follow.new.updates c.limits_of-limits.result c.as_slice.result.now
    c.requires (c.new-updates.ensures ∙ c.into_vec.ensures) c.limits_of-limits.ensures c.as_slice.ensures c.in-Ok.report c.in-Ok.ensures.follows c.in-Ok.ensures.took

pub returns-clause-fails : goal.returns-clause-fails
returns-clause-fails g c =
    let seen = link_over (g.L.Link.service c.args.link.now) (g.L.Link.wire c.args.link.now) (g.L.Link.wire c.follow.new.link) (g.L.Link.faults c.args.link.now) (g.L.Link.faults c.follow.new.link) in
    subst (FollowPeerFails c.args.job seen) (sym c.run_fault.ensures)
    (fails_peer c.args.job seen c.in-Err.fault
    (failed_peer c.args.job seen c.args.target.now c.new-updates.result c.follow.new.updates c.limits_of-limits.result c.as_slice.result.now
    c.requires (c.new-updates.ensures ∙ c.into_vec.ensures) c.limits_of-limits.ensures c.as_slice.ensures c.in-Err.fault c.in-Err.ensures.fails c.in-Err.ensures.took c.in-Err.ensures.complete))
