use Rattle.std.proofs.Common.{◌≡◌, Some, sym, subst, ◌∙◌, refl}
use Rattle.std.specs.Prelude.{IsSome}
use Rattle.turn_lock.specs.Turns.{Left}
use Rattle.turn_lock.proofs.Steps.{finishes}
use Rattle.turn_lock.proofs.share.finish_at.Goals as goal

pub unwrap-requires : goal.unwrap-requires
unwrap-requires g c =
    let h = finishes g.F.Guarded.after g.F.Guarded.Answers _ _ _ _ _ c.take-slot.result c.requires.idle.0 c.requires.all c.close_with-closed.ensures.values.2 c.take-slot.ensures.value in subst IsSome (sym h.1) refl

pub returns : goal.returns
returns g c =
    let h = finishes g.F.Guarded.after g.F.Guarded.Answers _ _ _ _ _ c.take-slot.result c.requires.idle.0 c.requires.all c.close_with-closed.ensures.values.2 c.take-slot.ensures.value in
    let e : Some h.0 ≡ Some c.unwrap.result = sym h.1 ∙ c.unwrap.ensures in
    let is : h.0 ≡ c.unwrap.result = cc in subst (Left g.F.Guarded.after g.F.Guarded.Answers c.args.board.shared.key c.args.seat.me.0) is h.2
