use Rattle.std.proofs.Common.{◌≡◌, ◌≢◌, ◌==◌, false, Ok, ap, sym, subst, ◌∙◌}
use Rattle.turn_lock.specs.Passes.{PassValue}
use Rattle.sync_shared.specs.Replies.{Served}
use Rattle.sync_shared.proofs.Replying.{not_spent, serve_gives, serve_ok, serve_err}
use Rattle.sync_shared.proofs.shared.SharedLog.serve.Goals as goal

pub give_back-requires-clause-gives : goal.give_back-requires-clause-gives
give_back-requires-clause-gives g c =
    let s = c.serve_held-reply.ensures in
    serve_gives g.F.Family.floor_of c.self.inside.lock.opening c.args.pass.now c.take-held.new.pass c.take-held.new.pass c.take-held.result c.serve_held-reply.new.held c.take-held.ensures c.caller-caller.result c.args.message c.serve_held-reply.result (c.caller-caller.ensures ∙ ap (λ p. p.caller) c.take-held.ensures.pass) s.log s.entry s.none

pub returns-in-Ok : goal.returns-in-Ok
returns-in-Ok g c =
    let e = c.in-Ok.ensures in
    let p = c.args.pass.now in
    let q = c.give_back.new.pass in
    let left : p.used ≢ p.turns = not_spent p.used p.turns (sym c.is_spent.ensures ∙ c.if-is_spent.false) in
    record {
      answer = subst (λ o. Served g.F.Family.floor_of o g.F.Op.Leaf.spelling p c.args.message q (Ok c.in-Ok.reply)) (ap (λ v. v.opening) c.self.view_is)
          (serve_ok g.F.Family.floor_of c.self.inside.lock.opening p c.take-held.new.pass q c.take-held.result c.serve_held-reply.new.held c.take-held.ensures g.F.Op.Leaf.spelling c.caller-caller.result c.args.message c.in-Ok.reply left (c.caller-caller.ensures ∙ ap (λ x. x.caller) c.take-held.ensures.pass) e.reply e.entry c.give_back.ensures);
      limits = e.limits;
    }

pub returns-in-Err : goal.returns-in-Err
returns-in-Err g c =
    let p = c.args.pass.now in
    let left : p.used ≢ p.turns = not_spent p.used p.turns (sym c.is_spent.ensures ∙ c.if-is_spent.false) in
    record { answer = serve_err g.F.Family.floor_of c.self.inside.lock.opening p c.take-held.new.pass c.give_back.new.pass c.take-held.result c.serve_held-reply.new.held c.take-held.ensures g.F.Op.Leaf.spelling c.args.message left c.in-Err.ensures.none c.give_back.ensures; limits = tt }
