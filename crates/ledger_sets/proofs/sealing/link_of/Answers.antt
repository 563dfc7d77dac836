use Rattle.std.proofs.Common.{◌≡◌, ◌++◌, sym, ap, ◌∙◌}
use Rattle.ledger_chain.specs.Chain.{ops_of}
use Rattle.ledger_sets.specs.Meaning.{with_links}
use Rattle.ledger_sets.proofs.Links.{room_behind, joined_behind, same_link}
use Rattle.ledger_sets.proofs.sealing.link_of.Goals as goal

pub state_behind-requires : goal.state_behind-requires
state_behind-requires g c =
    let first = c.in_ok-all.ensures in
    let second = c.as_slice.ensures.value in
    let joined = c.in_ok-extend_from_slice.ensures.items in
    let given = c.as_slice-2.ensures.value in
    let all : c.as_slice-2.result.now ≡ ops_of c.args.lacking.now ++ c.args.ops.items = cc in
    room_behind g.D.SetLog.meaning g.met.D.SetLog.laws c.args.db.now c.args.lacking.now c.args.ops.items c.as_slice-2.result.now all c.requires.room

pub returns : goal.returns
returns g c =
    let m = g.D.SetLog.meaning in
    let db = c.args.db.now in
    let lacking = c.args.lacking.now in
    let ops = c.args.ops.items in
    let first = c.in_ok-all.ensures in
    let second = c.as_slice.ensures.value in
    let joined = c.in_ok-extend_from_slice.ensures.items in
    let given = c.as_slice-2.ensures.value in
    let all : c.as_slice-2.result.now ≡ ops_of c.args.lacking.now ++ c.args.ops.items = cc in
    same_link c.new.result ops c.in_ok-after.after (m.state (m.behind (with_links m db lacking) ops))
    (c.in_ok-after.ensures ∙ ap (λ z. m.state (m.behind db z)) all ∙ sym (joined_behind m g.met.D.SetLog.laws db lacking ops))
    c.new.ensures
