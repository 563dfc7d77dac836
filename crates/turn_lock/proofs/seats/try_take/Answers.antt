use Rattle.std.proofs.Common.{◌∷◌, Some, arith, sym, ap, ◌∙◌}
use Rattle.atomic_table.specs.Table.{rest}
use Rattle.turn_lock.proofs.Steps.{watches_at}
use Rattle.turn_lock.proofs.seats.try_take.Goals as goal

pub load-over-requires : goal.load-over-requires
load-over-requires g c = (c.requires.seat.0, (let e = c.requires.seat.1 in omega arith), watches_at g.F.Guarded.after g.F.Guarded.Answers _ _ _ _ _ c.requires.seat.2 c.requires.waits.0 c.requires.waits.1)

pub exchange-requires : goal.exchange-requires
exchange-requires g c =
    let taken = (c.load-over.ensures.2 c.args.ticket c.requires.waits.0).0 c.if-over-ticket.true in
    let e = ap (λ m. m.1) taken.2 in
    (c.load-over.ensures.0 ∙ c.requires.seat.0, (Some taken.1, e ∙ ap (λ l. (0, Some taken.1) ∷ rest l) (sym e)))
