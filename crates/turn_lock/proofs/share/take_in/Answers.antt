use Rattle.std.proofs.Common.{◌≡◌, false, ◌∷◌, [], ap, ◌∙◌, subst}
use Rattle.turn_lock.specs.Passes.{is_holding}
use Rattle.turn_lock.specs.Seated.{Gathers}
use Rattle.turn_lock.proofs.Passing.{takes_in, is_idle}
use Rattle.turn_lock.proofs.share.take_in.Goals as goal

pub join_at-requires-clause-idle : goal.join_at-requires-clause-idle
join_at-requires-clause-idle g c =
    let between : is_holding c.pass.inside.seat.me.0.stage ≡ false = ap (λ p. p.within) c.pass.view_is ∙ c.requires.between in
    (c.requires.idle, is_idle c.pass.inside.seat.me.0.stage c.pass.inside.seat.me.1 c.pass.invariant.carries between)

pub returns : goal.returns
returns g c =
    let p = c.pass.inside in
    subst (λ x. Gathers c.args.seat.now c.join_at.new.seat (x ∷ [])) c.pass.view_is
    (takes_in g.F.Guarded.after g.F.Guarded.Answers c.args.seat.now c.join_at.new.seat p.seat p.caller p.used p.turns c.join_at.ensures.same c.requires.idle c.join_at.ensures.joined c.pass.invariant.mine)
