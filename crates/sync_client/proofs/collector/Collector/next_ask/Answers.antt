use Rattle.std.proofs.Common.{arith, All, subst}
use Rattle.std.proofs.lemmas.List.Elements.{All-head}
use Rattle.sync_client.specs.Collected.{Collected}
use Rattle.sync_client.specs.Tiles.{Within}
use Rattle.sync_client.proofs.Places.{asked_last}
use Rattle.sync_client.proofs.Tiling.{tiles_rest, tiles_fresh}
use Rattle.sync_client.proofs.collector.Collector.next_ask.Goals as goal

pub invariant_of-self-then-len-gt0 : goal.invariant_of-self-then-len-gt0
invariant_of-self-then-len-gt0 g c =
    let v : Collected g.row.Op.Denot = record {
      plan = record { target = c.self.inside.target; limits = c.self.inside.limits; low = c.self.inside.low; taken = c.self.inside.taken };
      fresh = c.self.inside.fresh;
      rests = c.self.inside.rests.items;
      pending = c.self.inside.pending.items;
      pinned = c.self.inside.pinned;
      kept = c.self.inside.kept.items;
    } in
    tiles_rest v c.in_ok-move_first.field-0 c.move_first.new.rests.items c.move_first.new.pending.items c.in_ok-move_first.ensures.ok.0 c.in_ok-move_first.ensures.ok.1 c.self.invariant

pub invariant_of-self-2 : goal.invariant_of-self-2
invariant_of-self-2 g c =
    let v : Collected g.row.Op.Denot = record {
      plan = record { target = c.self.inside.target; limits = c.self.inside.limits; low = c.self.inside.low; taken = c.self.inside.taken };
      fresh = c.self.inside.fresh;
      rests = c.self.inside.rests.items;
      pending = c.self.inside.pending.items;
      pinned = c.self.inside.pinned;
      kept = c.self.inside.kept.items;
    } in
    tiles_fresh v c.end_of_batch-end.result c.push.new.self.items (omega arith) (omega arith) c.in_ok-push.ensures.items c.self.invariant

pub returns-then-len-gt0-clause-tiles : goal.returns-then-len-gt0-clause-tiles
returns-then-len-gt0-clause-tiles g c =
    let v : Collected g.row.Op.Denot = record {
      plan = record { target = c.self.inside.target; limits = c.self.inside.limits; low = c.self.inside.low; taken = c.self.inside.taken };
      fresh = c.self.inside.fresh;
      rests = c.self.inside.rests.items;
      pending = c.self.inside.pending.items;
      pinned = c.self.inside.pinned;
      kept = c.self.inside.kept.items;
    } in
    tiles_rest v c.in_ok-move_first.field-0 c.move_first.new.rests.items c.move_first.new.pending.items c.in_ok-move_first.ensures.ok.0 c.in_ok-move_first.ensures.ok.1 c.self.invariant

pub returns-clause-tiles : goal.returns-clause-tiles
returns-clause-tiles g c =
    let v : Collected g.row.Op.Denot = record {
      plan = record { target = c.self.inside.target; limits = c.self.inside.limits; low = c.self.inside.low; taken = c.self.inside.taken };
      fresh = c.self.inside.fresh;
      rests = c.self.inside.rests.items;
      pending = c.self.inside.pending.items;
      pinned = c.self.inside.pinned;
      kept = c.self.inside.kept.items;
    } in
    tiles_fresh v c.end_of_batch-end.result c.push.new.self.items (omega arith) (omega arith) c.in_ok-push.ensures.items c.self.invariant

pub returns-then-len-gt0-clause-within : goal.returns-then-len-gt0-clause-within
returns-then-len-gt0-clause-within g c =
    rw (← c.self.view_is) (All-head (Within c.self.inside.target.end) c.in_ok-move_first.field-0 c.move_first.new.rests.items (subst (All (Within c.self.inside.target.end)) c.in_ok-move_first.ensures.ok.0 c.self.invariant.rests))

pub returns-then-len-gt0-clause-outstanding : goal.returns-then-len-gt0-clause-outstanding
returns-then-len-gt0-clause-outstanding g c = asked_last c.self.inside.pending.items c.move_first.new.pending.items (record { range = c.in_ok-move_first.field-0; target = c.self.inside.target }) c.in_ok-move_first.ensures.ok.1

pub returns-clause-outstanding : goal.returns-clause-outstanding
returns-clause-outstanding g c =
    asked_last c.self.inside.pending.items c.push.new.self.items (record { range = record { start = c.self.inside.fresh; end = c.end_of_batch-end.result }; target = c.self.inside.target }) c.in_ok-push.ensures.items
