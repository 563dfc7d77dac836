use Rattle.std.proofs.Common.{◌≡◌, false, ap, ◌∙◌, subst}
use Rattle.turn_lock.specs.Passes.{Meets, is_holding}
use Rattle.turn_lock.specs.Seated.{pass_value}
use Rattle.turn_lock.proofs.Passing.{is_idle, meets}
use Rattle.turn_lock.proofs.lock.TurnLock.meet.Goals as goal

pub join_at-requires-clause-idle : goal.join_at-requires-clause-idle
join_at-requires-clause-idle g c =
    let between : is_holding c.pass.inside.seat.me.0.stage ≡ false = ap (λ p. p.within) c.pass.view_is ∙ c.requires.idle in
    (is_idle c.pass.inside.seat.me.0.stage c.pass.inside.seat.me.1 c.pass.invariant.carries between, c.note.invariant.idle)

pub returns : goal.returns
returns g c =
    let p = c.pass.inside in
    let b = c.join_at.new.seat in
    let between : is_holding p.seat.me.0.stage ≡ false = ap (λ p. p.within) c.pass.view_is ∙ c.requires.idle in
    let idle = is_idle p.seat.me.0.stage p.seat.me.1 c.pass.invariant.carries between in
    subst (λ x. Meets x c.args.note.seen (pass_value b p.caller p.used p.turns)) c.pass.view_is
    (subst (λ x. Meets (pass_value p.seat p.caller p.used p.turns) x (pass_value b p.caller p.used p.turns)) (ap (λ n. n.seen) c.note.view_is)
    (meets g.F.Guarded.after g.F.Guarded.Answers p.seat b c.note.inside.seat p.caller p.used p.turns c.pass.invariant idle.0 c.join_at.ensures.same c.join_at.ensures.joined))
