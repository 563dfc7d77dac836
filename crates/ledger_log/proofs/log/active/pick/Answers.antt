use Rattle.std.proofs.Common.{◌≡◌, ◌++◌, ◌∷◌, ◌+◌, ◌<◌, ◌-◌, drop, length, refl, ap, sym, ◌∙◌, arith}
use Rattle.std.proofs.lemmas.List.{drop_more, length-append, get_or-append_right}
use Rattle.ledger_log.proofs.log.active.pick.Goals as goal

pub returns-else-place-first : goal.returns-else-place-first
returns-else-place-first g c =
    let a = c.args.first.now in
    let b = c.args.second.now in
    let x = c.index-second-place.result in
    drop_more (a ++ b) c.args.place x (omega (arith, length-append a b, c.requires))
    ∙ ap (λ z. z ∷ drop (c.args.place + 1) (a ++ b)) (get_or-append_right a b (length a) c.args.place x refl (omega arith) ∙ sym c.index-second-place.is)
