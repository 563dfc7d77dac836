use Rattle.std.proofs.Common.{◌≡◌, ◌+◌, ◌<◌, ◌≤◌, ◌^◌, ◌∙◌, false, sym, ap, arith}
use Rattle.ledger_log.specs.declared.target.Target.{Target}
use Rattle.sync_client.specs.Collected.{Collected, replanned}
use Rattle.sync_client.specs.Tiles.{Tiles}
use Rattle.sync_client.specs.Updates.{is_stale, with_target}
use Rattle.sync_client.proofs.Aiming.{not_stale, aimed_parts}
use Rattle.sync_client.proofs.Tiling.{tiles_aimed}
use Rattle.sync_client.proofs.collector.Collector.retarget.Goals as goal

pub invariant_of-self : goal.invariant_of-self
invariant_of-self g c =
    let v : Collected g.row.Op.Denot = record {
      plan = record { target = c.self.inside.target; limits = c.self.inside.limits; low = c.self.inside.low; taken = c.self.inside.taken };
      fresh = c.self.inside.fresh;
      rests = c.self.inside.rests.items;
      pending = c.self.inside.pending.items;
      pinned = c.self.inside.pinned;
      kept = c.self.inside.kept.items;
    } in
    let stale : is_stale v.plan c.args.target ≡ false = sym c.if-is_stale.ensures in
    let n = not_stale v.plan c.args.target stale in
    let order : c.self.inside.target.start < c.self.inside.target.end = c.self.inside.target.ordered in
    let behind : c.self.inside.target.end < c.args.target.end = n.1 in
    let j = aimed_parts c.self.inside.target c.args.target (omega arith) in
    let is = c.joined-self-inside.ensures.value in
    let near : c.joined-self-inside.result.end ≤ 2 ^ 62 = c.joined-self-inside.ensures.near in
    let tiles : Tiles (record v { plan = record v.plan { target = c.joined-self-inside.result; low = c.args.target.start; taken = c.self.inside.taken + 1 } }) =
    tiles_aimed v c.joined-self-inside.result c.args.target.start (c.self.inside.taken + 1) (ap (λ (t : Target). t.start) is ∙ j.start) (let e : c.joined-self-inside.result.end ≡ c.args.target.end = ap (λ (t : Target). t.end) is ∙ j.end in omega arith) near c.self.invariant in
    tiles

pub returns-clause-tiles : goal.returns-clause-tiles
returns-clause-tiles g c =
    let v : Collected g.row.Op.Denot = record {
      plan = record { target = c.self.inside.target; limits = c.self.inside.limits; low = c.self.inside.low; taken = c.self.inside.taken };
      fresh = c.self.inside.fresh;
      rests = c.self.inside.rests.items;
      pending = c.self.inside.pending.items;
      pinned = c.self.inside.pinned;
      kept = c.self.inside.kept.items;
    } in
    let stale : is_stale v.plan c.args.target ≡ false = sym c.if-is_stale.ensures in
    let n = not_stale v.plan c.args.target stale in
    let order : c.self.inside.target.start < c.self.inside.target.end = c.self.inside.target.ordered in
    let behind : c.self.inside.target.end < c.args.target.end = n.1 in
    let j = aimed_parts c.self.inside.target c.args.target (omega arith) in
    let is = c.joined-self-inside.ensures.value in
    let near : c.joined-self-inside.result.end ≤ 2 ^ 62 = c.joined-self-inside.ensures.near in
    let tiles : Tiles (record v { plan = record v.plan { target = c.joined-self-inside.result; low = c.args.target.start; taken = c.self.inside.taken + 1 } }) =
    tiles_aimed v c.joined-self-inside.result c.args.target.start (c.self.inside.taken + 1) (ap (λ (t : Target). t.start) is ∙ j.start) (let e : c.joined-self-inside.result.end ≡ c.args.target.end = ap (λ (t : Target). t.end) is ∙ j.end in omega arith) near c.self.invariant in
    tiles

pub returns-clause-retargets : goal.returns-clause-retargets
returns-clause-retargets g c =
    let v : Collected g.row.Op.Denot = record {
      plan = record { target = c.self.inside.target; limits = c.self.inside.limits; low = c.self.inside.low; taken = c.self.inside.taken };
      fresh = c.self.inside.fresh;
      rests = c.self.inside.rests.items;
      pending = c.self.inside.pending.items;
      pinned = c.self.inside.pinned;
      kept = c.self.inside.kept.items;
    } in
    let stale : is_stale v.plan c.args.target ≡ false = sym c.if-is_stale.ensures in
    let now : Collected g.row.Op.Denot → Collected g.row.Op.Denot = λ (x : Collected g.row.Op.Denot). replanned (with_target x.plan c.args.target) x in
    let is : replanned (record v.plan { target = c.joined-self-inside.result; low = c.args.target.start; taken = c.self.inside.taken + 1 }) v ≡ replanned (with_target v.plan c.args.target) v =
    ap (λ (t : Target). let w : Collected g.row.Op.Denot = replanned (record v.plan { target = t; low = c.args.target.start; taken = c.self.inside.taken + 1 }) v in w) c.joined-self-inside.ensures.value in
    (ap (λ (x : Collected g.row.Op.Denot). is_stale x.plan c.args.target) (sym c.self.view_is) ∙ stale, is ∙ ap now c.self.view_is)
