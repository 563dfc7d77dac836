-- The touches of lists of transfers.
use Rattle.std.proofs.Common.{◌≡◌, ◌∷◌, [], ◌++◌, List, filter, not, sym, ap, refl, ◌∙◌}
use Rattle.std.specs.List.{flat_map}
use Rattle.std.proofs.lemmas.List.{append-nil, append_assoc}
use Rattle.std.proofs.lemmas.List.Elements.{filter-append}
use Rattle.ledger_transfers.specs.declared.change.Change.{Change}
use Rattle.ledger_transfers.specs.Changes.{is_empty_change}
use Rattle.ledger_transfers.specs.Touches.{touches}

module _ {T K E : Type 0} (changes_of : T → List (K × Change E)) where
  pub touches_cons : (c : T) (cs : List T) → touches changes_of (c ∷ cs) ≡ touches changes_of (c ∷ []) ++ touches changes_of cs
  touches_cons c cs = filter-append (λ (t : K × Change E). not (is_empty_change t.1)) (changes_of c) (flat_map changes_of cs)
      ∙ ap (λ us. filter (λ (t : K × Change E). not (is_empty_change t.1)) us ++ touches changes_of cs) (sym (append-nil (changes_of c)))

  -- the touches of two lists are those of the first and then those of the second
  pub touches_append : (bs cs : List T) → touches changes_of (bs ++ cs) ≡ touches changes_of bs ++ touches changes_of cs
  touches_append [] cs = refl
  touches_append (b ∷ bs) cs = touches_cons b (bs ++ cs) ∙ ap (λ us. touches changes_of (b ∷ []) ++ us) (touches_append bs cs)
      ∙ sym (append_assoc (touches changes_of (b ∷ [])) (touches changes_of bs) (touches changes_of cs)) ∙ ap (λ us. us ++ touches changes_of cs) (sym (touches_cons b bs))
