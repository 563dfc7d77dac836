use Rattle.std.proofs.Common.{◌-◌, ◌<◌, List, ℕ, length, take, drop, min, ap, ◌∙◌, subst, refl, All, Ok}
use Rattle.sync_server.specs.Links.{MemoryView, next_cut, cut_more, called, started_for}
use Rattle.sync_server.proofs.Serving.{delivers, service_given}
use Rattle.sync_server.proofs.memory.MemoryLink.deliver.Goals as goal

pub returns-clause-delivered : goal.returns-clause-delivered
returns-clause-delivered g c =
    let s = c.self-2.inside in
    let n = c.copy_from-count.result in
    let room = length c.args.buffer.now in
    let more = c.next-most.new.self in
    let one = c.fails.new.self in
    let v = c.self.view_is in
    let count = c.copy_from-count.ensures.count ∙ ap (λ (l : List ℕ). min c.next-most.result (min (length l - s.at) room)) c.as_slice.ensures in
    let bytes = c.copy_from-count.ensures.bytes ∙ ap (λ (l : List ℕ). take n (drop s.at l)) c.as_slice.ensures in
    delivers g.F.Op.Leaf.spelling g.F.Family.floor_of c.args.self.now _ _ s.delivering c.copy_from-count.new.buffer s.at n c.next-most.result room more one
    (c.self-2.view_is ∙ (c.start_for.ensures ∙ ap (λ (k : MemoryView _). started_for room (record k { cuts = more; calls = one })) v)) refl count bytes c.copy_from-count.ensures.room
    (c.next-most.ensures.most ∙ ap (λ (k : MemoryView _). next_cut k.cuts) v) (c.next-most.ensures.counted ∙ ap (λ (k : MemoryView _). cut_more k.cuts) v) (c.fails.ensures.counted ∙ ap (λ (k : MemoryView _). called k.calls) v) refl

pub returns-clause-served : goal.returns-clause-served
returns-clause-served g c =
    service_given g.F.Op.Leaf.spelling g.F.Family.floor_of (Ok c.copy_from-count.result) c.copy_from-count.new.buffer c.args.self.now _
    (subst (λ (k : MemoryView _). All (λ r. 0 < length r) k.waiting) c.self.view_is c.self.invariant.1) (returns-clause-delivered g c)
