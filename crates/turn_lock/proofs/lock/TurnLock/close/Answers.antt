use Rattle.std.proofs.Common.{◌≡◌, ◌<◌, ◌∷◌, [], ℕ, List, ap, sym, subst, ◌∙◌}
use Rattle.turn_lock.specs.Passes.{PassValue, call_of, Present, Closes}
use Rattle.turn_lock.proofs.Passing.{all_stand, closing}
use Rattle.turn_lock.proofs.lock.TurnLock.close.Goals as goal

-- all callers are there, as the fields have it
all_there : {V E A : Type 0} (n m : ℕ) (xs ys : List (PassValue V E A)) → n ≡ m → xs ≡ ys → ((c : ℕ) → c < m → Present c xs) → (c : ℕ) → c < n → Present c ys
all_there n m xs ys e f h c lt = subst (Present c) f (h c (subst (λ k. c < k) e lt))

pub finish_at-requires-clause-all : goal.finish_at-requires-clause-all
finish_at-requires-clause-all g c =
    let mine = c.first.invariant.mine ∙ ap (λ p. call_of p ∷ []) c.first.view_is in
    all_stand c.first.inside.seat c.gather_all-seat.result c.in-Some.first c.pop.new.self.items c.self.inside.table.shared.key.passes mine c.gather_all-seat.ensures
    (all_there _ _ _ _ (ap (λ v. v.passes) c.self.view_is) c.in-Some.ensures.items c.requires.all)

pub returns : goal.returns
returns g c =
    let mine = c.first.invariant.mine ∙ ap (λ p. call_of p ∷ []) c.first.view_is in
    let h = closing g.F.Guarded.after g.F.Guarded.Answers c.self.inside.table.shared.key c.first.inside.seat c.gather_all-seat.result c.in-Some.first c.pop.new.self.items c.finish_at.result mine (ap (λ p. p.seen) (sym c.first.view_is)) c.gather_all-seat.ensures c.finish_at.ensures
    (all_there _ _ _ _ (ap (λ v. v.passes) c.self.view_is) c.in-Some.ensures.items c.requires.all) in
    let r = c.finish_at.result in
    subst (λ o. Closes g.F.Guarded.after g.F.Guarded.Answers o c.args.passes.items r) (ap (λ v. v.opening) c.self.view_is) (subst (λ ps. Closes g.F.Guarded.after g.F.Guarded.Answers c.self.inside.table.shared.key.opening.value ps r) (sym c.in-Some.ensures.items) h)
