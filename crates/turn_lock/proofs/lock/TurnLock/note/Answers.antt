use Rattle.std.proofs.Common.{◌≡◌, false, ap, ◌∙◌}
use Rattle.turn_lock.specs.Passes.{is_holding}
use Rattle.turn_lock.proofs.Passing.{is_idle}
use Rattle.turn_lock.proofs.lock.TurnLock.note.Goals as goal

pub note_at-requires-clause-idle : goal.note_at-requires-clause-idle
note_at-requires-clause-idle g c =
    let between : is_holding c.pass.inside.seat.me.0.stage ≡ false = ap (λ p. p.within) c.pass.view_is ∙ c.requires.idle in
    is_idle c.pass.inside.seat.me.0.stage c.pass.inside.seat.me.1 c.pass.invariant.carries between
