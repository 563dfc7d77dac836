use Rattle.std.proofs.Common.{◌≡◌, ◌+◌, false, Some, refl, sym, ap, subst, inl, ◌∙◌}
use Rattle.turn_lock.specs.Rule.{StandsFor}
use Rattle.turn_lock.specs.Passes.{Takes, is_holding}
use Rattle.turn_lock.specs.Seated.{pass_value}
use Rattle.turn_lock.proofs.Passing.{takes, is_idle}
use Rattle.turn_lock.proofs.lock.TurnLock.take.Goals as goal

pub enter-held-requires-clause-idle : goal.enter-held-requires-clause-idle
enter-held-requires-clause-idle g c =
    let between : is_holding c.pass.inside.seat.me.0.stage ≡ false = ap (λ p. p.within) c.pass.view_is ∙ c.requires.idle in
    is_idle c.pass.inside.seat.me.0.stage c.pass.inside.seat.me.1 c.pass.invariant.carries between

pub enter-held-requires-clause-stands : goal.enter-held-requires-clause-stands
enter-held-requires-clause-stands g c = (c.pass.inside.caller, subst (StandsFor c.pass.inside.caller) (sym c.pass.invariant.mine) (inl refl))

pub returns : goal.returns
returns g c =
    let p = c.pass.inside in
    let b = c.enter-held.new.seat in
    let key = c.self.inside.table.shared.key in
    let opens : p.seat.me.0.opening ≡ Some key.opening.value = ap (λ p. p.from.opening) c.pass.view_is ∙ ap (λ x. x.opening) c.requires.from ∙ sym (ap (λ v. v.from.opening) c.self.view_is) in
    subst (λ o. Takes g.F.Guarded.after g.F.Guarded.Answers o c.args.pass.now (pass_value b p.caller (p.used + 1) p.turns) c.enter-held.result.1) (ap (λ v. v.opening) c.self.view_is)
    (subst (λ x. Takes g.F.Guarded.after g.F.Guarded.Answers key.opening.value x (pass_value b p.caller (p.used + 1) p.turns) c.enter-held.result.1) c.pass.view_is
    (takes g.F.Guarded.after g.F.Guarded.Answers p.seat b key.opening.value p.caller p.used p.turns c.enter-held.result.0 c.enter-held.result.1 c.pass.invariant opens c.enter-held.ensures.same c.enter-held.ensures.took))
