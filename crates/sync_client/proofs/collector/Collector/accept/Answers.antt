use Rattle.std.proofs.Common.{◌≡◌, ◌≤◌, sym, ap, arith}
use Rattle.sha2.specs.Sha256.{sha256}
use Rattle.ledger_log.specs.declared.target.Target.{Target}
use Rattle.sync_client.specs.Asking.{judged_by}
use Rattle.sync_client.specs.Collected.{Collected, ranges_of, target_of, IsOutstanding}
use Rattle.sync_client.specs.Tiles.{Within}
use Rattle.sync_client.proofs.Insides.{All-at}
use Rattle.sync_client.proofs.Places.{target_ends}
use Rattle.sync_client.proofs.Tiling.{tiles_accepted, good_parts}
use Rattle.sync_client.proofs.collector.Collector.accept.Goals as goal

pub keep-requires : goal.keep-requires
keep-requires g c =
    let out : IsOutstanding c.args.asked (ranges_of c.self.inside.pending.items) = rw (← c.self.view_is) at c.requires in
    let asked = All-at (Within c.self.inside.target.end) (ranges_of c.self.inside.pending.items) out.0 c.args.asked out.1 c.self.invariant.pending in
    let p = good_parts (judged_by sha256 g.Op.Leaf.spelling c.target_for-target.result) c.self.inside.target.start c.args.asked c.args.response asked.0 (sym c.if-not-is_good.ensures) in
    p.1

pub is_good-requires-clause-within : goal.is_good-requires-clause-within
is_good-requires-clause-within g c =
    let v : Collected g.row.Op.Denot = record {
      plan = record { target = c.self.inside.target; limits = c.self.inside.limits; low = c.self.inside.low; taken = c.self.inside.taken };
      fresh = c.self.inside.fresh;
      rests = c.self.inside.rests.items;
      pending = c.self.inside.pending.items;
      pinned = c.self.inside.pinned;
      kept = c.self.inside.kept.items;
    } in
    let out : IsOutstanding c.args.asked (ranges_of c.self.inside.pending.items) = rw (← c.self.view_is) at c.requires in
    let ends : c.args.asked.end ≤ (target_of v c.args.asked).end = target_ends v c.args.asked c.self.invariant out in
    let same : c.target_for-target.result.end ≡ (target_of v c.args.asked).end = ap (λ (t : Target). t.end) (rw c.deref.ensures.value at c.target_for-target.ensures) in
    omega (arith, ends, same)

pub invariant_of-self-2 : goal.invariant_of-self-2
invariant_of-self-2 g c =
    let v : Collected g.row.Op.Denot = record {
      plan = record { target = c.self.inside.target; limits = c.self.inside.limits; low = c.self.inside.low; taken = c.self.inside.taken };
      fresh = c.self.inside.fresh;
      rests = c.self.inside.rests.items;
      pending = c.self.inside.pending.items;
      pinned = c.self.inside.pinned;
      kept = c.self.inside.kept.items;
    } in
    let out : IsOutstanding c.args.asked (ranges_of c.self.inside.pending.items) = rw (← c.self.view_is) at c.requires in
    tiles_accepted v c.args.asked c.args.response (judged_by sha256 g.Op.Leaf.spelling c.target_for-target.result)
    c.put_nodes.new.nodes c.forget.new.asked.items c.keep.new.rests.items c.keep.new.kept.items
    out (sym c.if-not-is_good.ensures) c.forget.ensures c.in-Ok.ensures.ok.1 c.in-Ok.ensures.ok.0 (rw (c.get.ensures.same, c.get-2.ensures.same) at c.put_nodes.ensures) c.self.invariant

pub returns-clause-tiles : goal.returns-clause-tiles
returns-clause-tiles g c =
    let v : Collected g.row.Op.Denot = record {
      plan = record { target = c.self.inside.target; limits = c.self.inside.limits; low = c.self.inside.low; taken = c.self.inside.taken };
      fresh = c.self.inside.fresh;
      rests = c.self.inside.rests.items;
      pending = c.self.inside.pending.items;
      pinned = c.self.inside.pinned;
      kept = c.self.inside.kept.items;
    } in
    let out : IsOutstanding c.args.asked (ranges_of c.self.inside.pending.items) = rw (← c.self.view_is) at c.requires in
    tiles_accepted v c.args.asked c.args.response (judged_by sha256 g.Op.Leaf.spelling c.target_for-target.result)
    c.put_nodes.new.nodes c.forget.new.asked.items c.keep.new.rests.items c.keep.new.kept.items
    out (sym c.if-not-is_good.ensures) c.forget.ensures c.in-Ok.ensures.ok.1 c.in-Ok.ensures.ok.0 (rw (c.get.ensures.same, c.get-2.ensures.same) at c.put_nodes.ensures) c.self.invariant
