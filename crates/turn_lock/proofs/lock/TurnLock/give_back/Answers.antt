use Rattle.std.proofs.Common.{◌≡◌, true, Some, sym, ap, subst, ◌∙◌}
use Rattle.turn_lock.specs.Passes.{Gives, having_seen, is_holding}
use Rattle.turn_lock.specs.Seated.{pass_value}
use Rattle.turn_lock.proofs.Passing.{is_held, placed, gives_back, given_back}
use Rattle.turn_lock.proofs.lock.TurnLock.give_back.Goals as goal

pub leave-requires-clause-turn : goal.leave-requires-clause-turn
leave-requires-clause-turn g c =
    let within : is_holding c.pass.inside.seat.me.0.stage ≡ true = ap (λ p. p.within) c.pass.view_is ∙ c.requires.within in
    is_held c.pass.inside.seat.me.0.stage c.pass.inside.seat.me.1 c.pass.invariant.carries within

pub leave-requires-clause-place : goal.leave-requires-clause-place
leave-requires-clause-place g c =
    let p = c.pass.inside in
    let opens : p.seat.me.0.opening ≡ Some c.args.self.now.opening = ap (λ p. p.from.opening) c.pass.view_is ∙ ap (λ x. x.opening) c.requires.from ∙ sym (ap (λ v. v.from.opening) c.self.view_is) ∙ ap (λ v. Some v.opening) c.self.view_is in
    placed g.F.Guarded.after g.F.Guarded.Answers p.seat c.args.self.now.opening p.caller p.used p.turns c.args.held c.pass.invariant opens
    (subst (λ x. Gives g.F.Guarded.after g.F.Guarded.Answers c.args.self.now.opening x c.args.held) (sym c.pass.view_is) c.requires.gives)

pub returns : goal.returns
returns g c =
    let p = c.pass.inside in
    let b = c.leave.new.seat in
    subst (λ x. pass_value b p.caller p.used p.turns ≡ having_seen x c.args.held.history.items) c.pass.view_is
    (gives_back g.F.Guarded.after g.F.Guarded.Answers p.seat b p.caller p.used p.turns c.args.held c.leave.ensures.same c.leave.ensures.left)

pub invariant_of-pass : goal.invariant_of-pass
invariant_of-pass g c =
    let p = c.pass.inside in
    let opens : p.seat.me.0.opening ≡ Some c.args.self.now.opening = ap (λ p. p.from.opening) c.pass.view_is ∙ ap (λ x. x.opening) c.requires.from ∙ sym (ap (λ v. v.from.opening) c.self.view_is) ∙ ap (λ v. Some v.opening) c.self.view_is in
    given_back g.F.Guarded.after g.F.Guarded.Answers p.seat c.leave.new.seat c.args.self.now.opening p.caller p.used p.turns c.args.held c.pass.invariant opens
    (subst (λ x. Gives g.F.Guarded.after g.F.Guarded.Answers c.args.self.now.opening x c.args.held) (sym c.pass.view_is) c.requires.gives) c.leave.ensures.left
