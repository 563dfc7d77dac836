use Rattle.std.proofs.Common.{◌+◌, ◌-◌, List, ℕ, length, take, drop, min, ap, ◌∙◌, subst, Ok}
use Rattle.sync_server.specs.Links.{TapeView, TapeReceives}
use Rattle.sync_server.proofs.Tapes.{moves_on, tape_at}
use Rattle.sync_server.proofs.tape.TapeLink.give.Goals as goal

pub returns-clause-given : goal.returns-clause-given
returns-clause-given c =
    let s = c.self.inside in
    let n = c.copy_from-count.result in
    let room = length c.args.buffer.now in
    let count = c.copy_from-count.ensures.count ∙ ap (λ (l : List ℕ). min c.next-most.result (min (length l - s.at) room)) c.deref.ensures.value in
    let bytes = c.copy_from-count.ensures.bytes ∙ ap (λ (l : List ℕ). take n (drop s.at l)) c.deref.ensures.value in
    subst (λ (v : TapeView). TapeReceives (Ok n) c.copy_from-count.new.buffer v (tape_at s.bytes.items (s.at + n) c.is_ended-self-inside.result s.sent.items c.next-most.new.self c.fails.new.self)) c.self.view_is
    (moves_on s.bytes.items s.sent.items c.copy_from-count.new.buffer s.at n c.next-most.result room s.ended c.is_ended-self-inside.result s.cuts c.next-most.new.self s.calls c.fails.new.self
    count c.next-most.ensures.most c.copy_from-count.ensures.room bytes c.is_ended-self-inside.ensures c.next-most.ensures.counted c.fails.ensures.counted)
