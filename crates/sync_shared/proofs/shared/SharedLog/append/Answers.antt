use Rattle.std.proofs.Common.{◌≡◌, ◌≢◌, ◌==◌, false, ap, sym, subst, ◌∙◌}
use Rattle.turn_lock.specs.Passes.{PassValue}
use Rattle.sync_shared.specs.Replies.{Appends}
use Rattle.sync_shared.proofs.Replying.{not_spent, append_gives, appends}
use Rattle.sync_shared.proofs.shared.SharedLog.append.Goals as goal

pub give_back-requires-clause-gives : goal.give_back-requires-clause-gives
give_back-requires-clause-gives g c =
    let s = c.append_held-answer.ensures in
    append_gives g.F.Family.floor_of c.self.inside.lock.opening c.args.pass.now c.take-held.new.pass c.take-held.new.pass c.take-held.result c.append_held-answer.new.held c.take-held.ensures c.caller-caller.result c.args.ops.now c.append_held-answer.result (c.caller-caller.ensures ∙ ap (λ p. p.caller) c.take-held.ensures.pass) s.answer s.entry

pub returns : goal.returns
returns g c =
    let s = c.append_held-answer.ensures in
    let p = c.args.pass.now in
    let q = c.give_back.new.pass in
    let left : p.used ≢ p.turns = not_spent p.used p.turns (sym c.is_spent.ensures ∙ c.if-is_spent.false) in
    record {
      answer = subst (λ o. Appends g.F.Family.floor_of o p c.args.ops.now q c.result_of.result) (ap (λ v. v.opening) c.self.view_is)
          (subst (λ r. Appends g.F.Family.floor_of c.self.inside.lock.opening p c.args.ops.now q r) (sym c.result_of.ensures)
          (appends g.F.Family.floor_of c.self.inside.lock.opening p c.take-held.new.pass q c.take-held.result c.append_held-answer.new.held c.take-held.ensures c.caller-caller.result c.args.ops.now c.append_held-answer.result left (c.caller-caller.ensures ∙ ap (λ x. x.caller) c.take-held.ensures.pass) s.answer s.entry c.give_back.ensures));
    }
