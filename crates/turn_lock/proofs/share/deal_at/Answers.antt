use Rattle.std.proofs.Common.{arith}
use Rattle.turn_lock.proofs.Steps.{deals_at}
use Rattle.turn_lock.proofs.share.deal_at.Goals as goal

pub split_seat-one-requires : goal.split_seat-one-requires
split_seat-one-requires g c =
    let d = c.requires.dealer in
    (c.requires.seat.0, (let w = c.requires.seat.1 in omega arith), deals_at g.F.Guarded.after g.F.Guarded.Answers _ _ _ c.args.caller c.args.left c.requires.some d.idle.0 d.mine d.budget)
