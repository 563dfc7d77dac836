-- What may be given back at the end of a turn.
use Rattle.std.proofs.Common.{◌≡◌, [], ◌∷◌, ◌++◌, Some, None, refl, sym, ap, ◌∙◌, subst, append-nil}
use Rattle.turn_lock.specs.declared.held.Held.{Held}
use Rattle.turn_lock.specs.History.{value_after, entry}
use Rattle.turn_lock.specs.Passes.{PassValue, Takes, Gives}
use Rattle.turn_lock.proofs.Histories.{value_after-snoc}

module _ {V E A : Type 0} (after : V → E → A → V) (Answers : V → E → A → Type 0) where
  -- a turn that added a call, as the value answers it
  pub gives_one : (o : V) (p q : PassValue V E A) (y z : Held V E A) (event : E) (outcome : A) → Takes after Answers o p q y → Answers y.value event outcome → z.value ≡ after y.value event outcome
      → z.history.items ≡ y.history.items ++ entry p.caller event outcome ∷ [] → Gives after Answers o q z
  gives_one o p q y z event outcome t answers value history = subst (λ x. Gives after Answers o x z) (sym t.pass) record {
    place = Some (entry p.caller event outcome);
    turn = (refl, subst (λ v. Answers v event outcome) t.value answers);
    history = history;
    value = value ∙ ap (λ v. after v event outcome) t.value ∙ sym (value_after-snoc after Answers o y.history.items (entry p.caller event outcome)) ∙ ap (value_after after o) (sym history);
  }

  -- a turn that added none
  pub gives_none : (o : V) (p q : PassValue V E A) (y z : Held V E A) → Takes after Answers o p q y → z.value ≡ y.value → z.history.items ≡ y.history.items → Gives after Answers o q z
  gives_none o p q y z t value history = subst (λ x. Gives after Answers o x z) (sym t.pass) record {
    place = None;
    turn = tt;
    history = history ∙ sym (append-nil y.history.items);
    value = value ∙ t.value ∙ ap (value_after after o) (sym history);
  }
