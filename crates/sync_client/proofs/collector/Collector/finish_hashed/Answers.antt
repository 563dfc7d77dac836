use Rattle.std.proofs.Common.{◌≡◌, ◌<◌, ◌-◌, ◌∙◌, refl, bytes_eq, ap, sym, length, map, arith, true}
use Rattle.std.proofs.lemmas.Slice.Eq.{bytes_eq-Decides}
use Rattle.std.proofs.lemmas.Grind.{common_steps}
use Rattle.sha2.specs.Sha256.{sha256}
use Rattle.ledger_merkle.specs.Tree.{part_root}
use Rattle.ledger_merkle.specs.Leaves.{list_root}
use Rattle.ledger_merkle.proofs.Levels.{root_is_part}
use Rattle.sync_client.specs.Collected.{Collected, is_complete}
use Rattle.sync_client.specs.Parts.{Assembles, leaves_behind}
use Rattle.sync_client.proofs.Chains.{finished, whole, size_is}
use Rattle.sync_client.proofs.Unique.{one_part}
use Rattle.sync_client.proofs.collector.Collector.finish_hashed.Goals as goal

pub list_behind-requires-clause-nodes : goal.list_behind-requires-clause-nodes
list_behind-requires-clause-nodes g c =
    let v : Collected g.row.Op.Denot = record {
      plan = record { target = c.self.inside.target; limits = c.self.inside.limits; low = c.self.inside.low; taken = c.self.inside.taken };
      fresh = c.self.inside.fresh;
      rests = c.self.inside.rests.items;
      pending = c.self.inside.pending.items;
      pinned = c.self.inside.pinned;
      kept = c.self.inside.kept.items;
    } in
    let done : is_complete v ≡ true = ap is_complete c.self.view_is ∙ c.requires in
    let lt : c.self.inside.target.start < c.self.inside.target.end = c.self.inside.target.ordered in
    let f = finished v c.in_ok-ops.ops.items lt c.self.invariant done c.in_ok-ops.ensures in
    let a : c.in_ok-nodes.nodes.items ≡ c.as_slice.result.now = c.in_ok-nodes.ensures.items in
    let e : c.in_ok-nodes.nodes.items ≡ c.self.inside.pinned = cc (a, c.as_slice.ensures) in
    rw e f.1

pub list_behind-requires-clause-room : goal.list_behind-requires-clause-room
list_behind-requires-clause-room g c =
    let v : Collected g.row.Op.Denot = record {
      plan = record { target = c.self.inside.target; limits = c.self.inside.limits; low = c.self.inside.low; taken = c.self.inside.taken };
      fresh = c.self.inside.fresh;
      rests = c.self.inside.rests.items;
      pending = c.self.inside.pending.items;
      pinned = c.self.inside.pinned;
      kept = c.self.inside.kept.items;
    } in
    let done : is_complete v ≡ true = ap is_complete c.self.view_is ∙ c.requires in
    let lt : c.self.inside.target.start < c.self.inside.target.end = c.self.inside.target.ordered in
    let f = finished v c.in_ok-ops.ops.items lt c.self.invariant done c.in_ok-ops.ensures in
    let n : length c.in_ok-ops.ops.items ≡ c.self.inside.target.end - c.self.inside.target.start = f.2 in
    rw c.deref.ensures.value (omega arith)

pub returns-then-ne-clause-finishes : goal.returns-then-ne-clause-finishes
returns-then-ne-clause-finishes g c =
    let v : Collected g.row.Op.Denot = record {
      plan = record { target = c.self.inside.target; limits = c.self.inside.limits; low = c.self.inside.low; taken = c.self.inside.taken };
      fresh = c.self.inside.fresh;
      rests = c.self.inside.rests.items;
      pending = c.self.inside.pending.items;
      pinned = c.self.inside.pinned;
      kept = c.self.inside.kept.items;
    } in
    let done : is_complete v ≡ true = ap is_complete c.self.view_is ∙ c.requires in
    let lt : c.self.inside.target.start < c.self.inside.target.end = c.self.inside.target.ordered in
    let f = finished v c.in_ok-ops.ops.items lt c.self.invariant done c.in_ok-ops.ensures in
    let a : c.in_ok-nodes.nodes.items ≡ c.as_slice.result.now = c.in_ok-nodes.ensures.items in
    let e : c.in_ok-nodes.nodes.items ≡ c.self.inside.pinned = cc (a, c.as_slice.ensures) in
    let l : c.in_ok-list.list ≡ leaves_behind sha256 c.self.inside.pinned c.self.inside.target.start (map g.Op.Leaf.spelling c.in_ok-ops.ops.items) = rw (e, c.deref.ensures.value) at c.in_ok-list.ensures in
    let q : c.root-found.result ≡ part_root sha256 c.self.inside.pinned c.self.inside.target.start (map g.Op.Leaf.spelling c.in_ok-ops.ops.items) =
    c.root-found.ensures.all ∙ (ap (list_root sha256) l ∙ root_is_part sha256 (leaves_behind sha256 c.self.inside.pinned c.self.inside.target.start (map g.Op.Leaf.spelling c.in_ok-ops.ops.items)) (map g.Op.Leaf.spelling c.in_ok-ops.ops.items) refl) in
    rw (← c.self.view_is) (
      c.in_ok-ops.ops.items,
      f.0,
      q,
      λ (w : c.root-found.result ≡ c.self.inside.target.root).
          let same : bytes_eq c.root-found.result c.self.inside.target.root ≡ true = (bytes_eq-Decides c.root-found.result c.self.inside.target.root).1 w in
          grind (arith, common_steps),
    )

pub returns-clause-finishes : goal.returns-clause-finishes
returns-clause-finishes g c =
    let v : Collected g.row.Op.Denot = record {
      plan = record { target = c.self.inside.target; limits = c.self.inside.limits; low = c.self.inside.low; taken = c.self.inside.taken };
      fresh = c.self.inside.fresh;
      rests = c.self.inside.rests.items;
      pending = c.self.inside.pending.items;
      pinned = c.self.inside.pinned;
      kept = c.self.inside.kept.items;
    } in
    let done : is_complete v ≡ true = ap is_complete c.self.view_is ∙ c.requires in
    let lt : c.self.inside.target.start < c.self.inside.target.end = c.self.inside.target.ordered in
    let f = finished v c.in_ok-ops.ops.items lt c.self.invariant done c.in_ok-ops.ensures in
    let a : c.in_ok-nodes.nodes.items ≡ c.as_slice.result.now = c.in_ok-nodes.ensures.items in
    let e : c.in_ok-nodes.nodes.items ≡ c.self.inside.pinned = cc (a, c.as_slice.ensures) in
    let l : c.in_ok-list.list ≡ leaves_behind sha256 c.self.inside.pinned c.self.inside.target.start (map g.Op.Leaf.spelling c.in_ok-ops.ops.items) = rw (e, c.deref.ensures.value) at c.in_ok-list.ensures in
    let q : c.root-found.result ≡ part_root sha256 c.self.inside.pinned c.self.inside.target.start (map g.Op.Leaf.spelling c.in_ok-ops.ops.items) =
    c.root-found.ensures.all ∙ (ap (list_root sha256) l ∙ root_is_part sha256 (leaves_behind sha256 c.self.inside.pinned c.self.inside.target.start (map g.Op.Leaf.spelling c.in_ok-ops.ops.items)) (map g.Op.Leaf.spelling c.in_ok-ops.ops.items) refl) in
    let same : c.root-found.result ≡ c.self.inside.target.root = (bytes_eq-Decides c.root-found.result c.self.inside.target.root).0 (grind (arith, common_steps)) in
    rw (← c.self.view_is) (refl, refl, rw c.from_vec.ensures f.0, rw c.from_vec.ensures (sym q ∙ same))

pub returns-clause-whole : goal.returns-clause-whole
returns-clause-whole g c =
    let v : Collected g.row.Op.Denot = record {
      plan = record { target = c.self.inside.target; limits = c.self.inside.limits; low = c.self.inside.low; taken = c.self.inside.taken };
      fresh = c.self.inside.fresh;
      rests = c.self.inside.rests.items;
      pending = c.self.inside.pending.items;
      pinned = c.self.inside.pinned;
      kept = c.self.inside.kept.items;
    } in
    let done : is_complete v ≡ true = ap is_complete c.self.view_is ∙ c.requires in
    let lt : c.self.inside.target.start < c.self.inside.target.end = c.self.inside.target.ordered in
    let f = finished v c.in_ok-ops.ops.items lt c.self.invariant done c.in_ok-ops.ensures in
    rw (← c.self.view_is) (rw c.from_vec.ensures f.2, f.1)

pub returns-clause-one : goal.returns-clause-one
returns-clause-one g c other =
    let v : Collected g.row.Op.Denot = record {
      plan = record { target = c.self.inside.target; limits = c.self.inside.limits; low = c.self.inside.low; taken = c.self.inside.taken };
      fresh = c.self.inside.fresh;
      rests = c.self.inside.rests.items;
      pending = c.self.inside.pending.items;
      pinned = c.self.inside.pinned;
      kept = c.self.inside.kept.items;
    } in
    let done : is_complete v ≡ true = ap is_complete c.self.view_is ∙ c.requires in
    let lt : c.self.inside.target.start < c.self.inside.target.end = c.self.inside.target.ordered in
    let f = finished v c.in_ok-ops.ops.items lt c.self.invariant done c.in_ok-ops.ensures in
    rw (← c.self.view_is) (λ (h : Assembles c.self.inside.target.start c.self.inside.kept.items other). rw c.from_vec.ensures (one_part c.self.inside.target.start c.self.inside.target.end c.self.inside.kept.items other c.in_ok-ops.ops.items (whole v c.self.invariant done) (size_is v other done h) h f.0))
