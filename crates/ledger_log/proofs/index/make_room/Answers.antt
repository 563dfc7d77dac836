use Rattle.std.proofs.Common.{◌≡◌, take, get_or, All, subst, ◌∙◌, arith}
use Rattle.std.proofs.lemmas.List.Elements.{All-more}
use Rattle.std.proofs.lemmas.List.{take_all}
use Rattle.ledger_log.specs.View.{key_written}
use Rattle.ledger_log.specs.Index.{HasEntry}
use Rattle.ledger_log.proofs.Indexing.{HasEntry-keys}
use Rattle.ledger_log.proofs.index.make_room.Goals as goal

pub loop-op-preserved : goal.loop-op-preserved
loop-op-preserved g c =
    let key = λ (op : g.row.F-Op.Denot). key_written (g.F.Family.write_of op) in
    let new = c.make_entry.new.index in
    let i = c.loop-op.op-index in
    let ops = c.args.ops.now in
    let op = c.op-item.result in
    let here : HasEntry new (key (get_or ops i op)) = subst (λ o. HasEntry new (key o)) c.op-item.is (subst (HasEntry new) c.written_key.ensures c.in_ok-make_entry.ensures.room) in
    record {
      same = λ k. c.make_entry.ensures.same k ∙ c.loop-op.invariant.same k;
      room = All-more (λ o. HasEntry new (key o)) ops i op c.loop-op-test.true (HasEntry-keys key c.loop-op.index new (take i ops) c.make_entry.ensures.others c.loop-op.invariant.room) here;
    }

pub returns-clause-room : goal.returns-clause-room
returns-clause-room g c =
    let key = λ (op : g.row.F-Op.Denot). key_written (g.F.Family.write_of op) in
    let ops = c.args.ops.now in
    let whole : take c.loop-op.op-index ops ≡ ops = take_all c.loop-op.op-index ops (omega arith) in
    subst (All (λ o. HasEntry c.loop-op.index (key o))) whole c.loop-op.invariant.room
