use Rattle.std.proofs.Common.{[], ◌∷◌, Some, None, arith, sym, ap, ◌∙◌, subst, refl}
use Rattle.atomic_table.specs.Table.{rest}
use Rattle.turn_lock.proofs.Steps.{raises_at, Raising}
use Rattle.turn_lock.proofs.seats.leave.Goals as goal

pub exchange-requires : goal.exchange-requires
exchange-requires g c = let e = c.requires.turn.2 in (c.requires.seat.0, (None, e ∙ ap (λ l. (0, None) ∷ rest l) (sym e)))

pub fetch_add-requires : goal.fetch_add-requires
fetch_add-requires g c =
    let p = c.requires.place in
    let e = c.exchange.ensures.3 ∙ ap (λ l. (c.args.seat.now.me.0, (0, Some c.args.held) ∷ rest l)) c.requires.turn.2 in (
      c.exchange.ensures.0 ∙ c.requires.seat.0,
      (let w = c.requires.seat.1 in omega arith),
      subst (Raising g.F.Guarded.after g.F.Guarded.Answers c.args.board.now.shared.key c.args.board.now.shared.table_id.slots c.exchange.new.seat.id) (sym e) (raises_at g.F.Guarded.after g.F.Guarded.Answers _ _ _ (c.args.seat.now.me.0, (0, Some c.args.held) ∷ []) _ p.0 c.args.held p.1 c.requires.seat.2 refl c.requires.turn.1 p.2 p.4 p.5 p.3),
    )
