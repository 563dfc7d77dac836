use Rattle.std.proofs.Common.{inl, ◌∙◌, Ok}
use Rattle.sha2.specs.Sha256.{sha256}
use Rattle.ledger_sync.proofs.Compacting.{nothing_pending, ended_so, refused_so, kept_then, steady_then}
use Rattle.ledger_sync.proofs.compact.fetch_compact_log.Goals as goal

pub fetch_compact-requires : goal.fetch_compact-requires
fetch_compact-requires g c =
    nothing_pending c.in-Ok.target g.F.Op.Spell.reading g.F.Op.Spell.written c.args.machine.now c.fetch_compact_target.new.machine (g.L.Link.wire c.args.link.now) (g.L.Link.wire c.fetch_compact_target.new.link) (g.L.Link.faults c.args.link.now) (g.L.Link.faults c.fetch_compact_target.new.link) c.in-Ok.ensures.fetched

pub returns-in-Err-clause-fetched : goal.returns-in-Err-clause-fetched
returns-in-Err-clause-fetched g c = inl c.in-Err.ensures.fetched

pub returns-in-Ok-fetch_compact-clause-fetched : goal.returns-in-Ok-fetch_compact-clause-fetched
returns-in-Ok-fetch_compact-clause-fetched g c =
    let e = ended_so sha256 g.F.Op.Leaf.spelling g.F.Family.floor_of g.F.Op.Spell.reading g.F.Op.Spell.written c.args.machine.now c.fetch_compact_target.new.machine c.fetch_compact.new.machine (g.L.Link.wire c.args.link.now) (g.L.Link.wire c.fetch_compact_target.new.link) (g.L.Link.wire c.fetch_compact.new.link) (g.L.Link.faults c.args.link.now) (g.L.Link.faults c.fetch_compact_target.new.link) (g.L.Link.faults c.fetch_compact.new.link) c.in-Ok.target c.in-Ok.ensures.fetched c.in-Ok.ensures.later (Ok c.in-Ok-fetch_compact.log) c.in-Ok-fetch_compact.ensures.fetched in
    (e, c.in-Ok-fetch_compact.ensures.root, c.in-Ok-fetch_compact.ensures.size)

pub returns-in-Err-fetch_compact-clause-fetched : goal.returns-in-Err-fetch_compact-clause-fetched
returns-in-Err-fetch_compact-clause-fetched g c =
    refused_so sha256 g.F.Op.Leaf.spelling g.F.Family.floor_of g.F.Op.Spell.reading g.F.Op.Spell.written c.args.machine.now c.fetch_compact_target.new.machine c.fetch_compact.new.machine (g.L.Link.wire c.args.link.now) (g.L.Link.wire c.fetch_compact_target.new.link) (g.L.Link.wire c.fetch_compact.new.link) (g.L.Link.faults c.args.link.now) (g.L.Link.faults c.fetch_compact_target.new.link) (g.L.Link.faults c.fetch_compact.new.link) c.in-Ok.target c.in-Ok.ensures.fetched c.in-Ok.ensures.later c.in-Err-fetch_compact.fault c.in-Err-fetch_compact.ensures.fetched

pub returns-in-Ok-fetch_compact-clause-exact : goal.returns-in-Ok-fetch_compact-clause-exact
returns-in-Ok-fetch_compact-clause-exact g c = λ t. c.in-Ok-fetch_compact.ensures.exact t ∙ c.in-Ok.ensures.exact t

pub returns-in-Err-fetch_compact-clause-exact : goal.returns-in-Err-fetch_compact-clause-exact
returns-in-Err-fetch_compact-clause-exact g c = λ t. kept_then (Unit {0}) (Unit {0}) c.in-Err-fetch_compact.fault (g.L.Link.faults c.args.link.now) (g.L.Link.faults c.fetch_compact_target.new.link) (g.L.Link.faults c.fetch_compact.new.link) (c.in-Ok.ensures.exact t) (c.in-Err-fetch_compact.ensures.exact t)

pub returns-in-Ok-fetch_compact-clause-steady : goal.returns-in-Ok-fetch_compact-clause-steady
returns-in-Ok-fetch_compact-clause-steady g c = λ t.
    let one = c.in-Ok.ensures.steady t in
    let two = c.in-Ok-fetch_compact.ensures.steady one.0 in
    (two.0, two.1 ∙ one.1)

pub returns-in-Err-fetch_compact-clause-steady : goal.returns-in-Err-fetch_compact-clause-steady
returns-in-Err-fetch_compact-clause-steady g c = λ t.
    let one = c.in-Ok.ensures.steady t in
    let two = c.in-Err-fetch_compact.ensures.steady one.0 in
    (two.0, steady_then (Unit {0}) (Unit {0}) c.in-Err-fetch_compact.fault (g.L.Link.faults c.args.link.now) (g.L.Link.faults c.fetch_compact_target.new.link) (g.L.Link.faults c.fetch_compact.new.link) one.1 two.1)
