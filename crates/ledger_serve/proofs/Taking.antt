-- One link more.
use Rattle.std.proofs.Common.{◌≡◌, ℕ, zero, suc, ◌+◌, ◌≤◌, List, [], ◌∷◌, length, drop, Option, Some, None, Ok, refl, sym, ap, ◌∙◌, arith, add-one}
use Rattle.sync_dial.specs.Listening.{Accepts}
use Rattle.ledger_serve.specs.Links.{Took}

drop_more : {L : Type 0} (n : ℕ) (links first : List L) → drop n links ≡ first → 1 ≤ length first → (suc n ≤ length links) × (drop (suc n) links ≡ drop 1 first)
drop_more zero [] first e l = absurd (omega (arith, l, ap length e))
drop_more zero (x ∷ links) first e l = (omega arith, ap (drop 1) e)
drop_more (suc n) [] first e l = absurd (omega (arith, l, ap length e))
drop_more (suc n) (x ∷ links) first e l = let h = drop_more n links first e l in (omega (arith, h.0), h.1)

-- no link was taken
pub took_none : {L : Type 0} (coming : Option (List L)) → Took 0 coming coming
took_none None = refl
took_none (Some links) = (omega arith, refl)

-- an accept takes one
pub took_one : {L : Type 0} (E : Type 0) (mid now : Option (List L)) (link : L) → Accepts {L = L} {E = E} mid now (Ok link) → Took 1 mid now
took_one E None now link h = h
took_one E (Some []) now link h = absurd (let e = h.1 in cc)
took_one E (Some (first ∷ rest)) now link h = (omega arith, h.0)

-- which stands behind those before
pub took_more : {L : Type 0} (n : ℕ) (before mid now : Option (List L)) → Took n before mid → Took 1 mid now → Took (n + 1) before now
took_more n None None now h k = k
took_more n None (Some left) now h k = absurd cc
took_more n (Some links) None now h k = absurd (let e = h.1 in cc)
took_more n (Some links) (Some left) now h k =
    let d = drop_more n links left (let e = h.1 in cc) k.0 in
    (omega (arith, d.0), k.1 ∙ ap Some (sym d.1 ∙ ap (λ (i : ℕ). drop i links) (sym (add-one n))))
