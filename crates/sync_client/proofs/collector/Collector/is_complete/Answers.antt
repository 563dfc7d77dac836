use Rattle.std.proofs.Common.{◌≡◌, ◌∙◌, ap, length}
use Rattle.std.specs.Vec.{vec_len}
use Rattle.sync_client.specs.Collected.{Collected, is_complete, nothing_left}
use Rattle.sync_client.proofs.Tiling.{complete_is}
use Rattle.sync_client.proofs.collector.Collector.is_complete.Goals as goal

pub returns-clause-value : goal.returns-clause-value
returns-clause-value g c =
    let v : Collected g.row.Op.Denot = record {
      plan = record { target = c.self.inside.target; limits = c.self.inside.limits; low = c.self.inside.low; taken = c.self.inside.taken };
      fresh = c.self.inside.fresh;
      rests = c.self.inside.rests.items;
      pending = c.self.inside.pending.items;
      pinned = c.self.inside.pinned;
      kept = c.self.inside.kept.items;
    } in
    let e : nothing_left (length c.self.inside.pending.items) (length c.self.inside.rests.items) c.self.inside.fresh c.self.inside.target.end ≡ is_complete v = complete_is v c.self.invariant in
    let a : vec_len c.self.inside.pending ≡ length c.self.inside.pending.items = c.self.inside.pending.ok.0 in
    let b : vec_len c.self.inside.rests ≡ length c.self.inside.rests.items = c.self.inside.rests.ok.0 in
    let d : c.is_all_kept.result ≡ nothing_left (length c.self.inside.pending.items) (length c.self.inside.rests.items) c.self.inside.fresh c.self.inside.target.end = cc in
    (d ∙ e) ∙ ap is_complete c.self.view_is

pub returns-clause-tiles : goal.returns-clause-tiles
returns-clause-tiles g c = rw (← c.self.view_is) c.self.invariant

pub returns-clause-most : goal.returns-clause-most
returns-clause-most g c = rw (← c.self.view_is) c.is_all_kept.ensures.most
