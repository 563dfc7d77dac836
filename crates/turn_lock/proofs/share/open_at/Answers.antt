use Rattle.std.proofs.Common.{◌∙◌, ◌++◌, ◌∷◌, [], Some, ap, sym}
use Rattle.turn_lock.proofs.Steps.{begins_at}
use Rattle.turn_lock.proofs.share.open_at.Goals as goal

pub new-requires-2 : goal.new-requires-2
new-requires-2 g c =
    begins_at g.F.Guarded.after g.F.Guarded.Answers _ _ record { value = c.args.value; history = c.new.result }
    (c.in_ok-push.ensures.items ∙ ap (λ l. l ++ Some record { value = c.args.value; history = c.new.result } ∷ []) c.new-slots.ensures.items) (sym c.of.ensures) c.new.ensures.items c.requires
