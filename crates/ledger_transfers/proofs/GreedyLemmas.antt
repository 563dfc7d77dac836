-- Verdicts over touches are greedy's over transfers.
use Rattle.std.proofs.Common.{◌≡◌, Bool, true, false, cond, List, [], ◌∷◌, ◌++◌, sym, ap, subst, refl, ◌∙◌}
use Rattle.std.specs.Prelude.{MatchBool}
use Rattle.std.proofs.lemmas.List.{append-nil, append_assoc}
use Rattle.ledger_transfers.specs.declared.change.Change.{Change}
use Rattle.ledger_transfers.specs.declared.held.Held.{Held}
use Rattle.ledger_transfers.specs.Rules.{Rules}
use Rattle.ledger_transfers.specs.Touches.{touches}
use Rattle.ledger_transfers.specs.Selecting.{StandsFor, SettledBy, AreVerdicts, taken_after, AllDecided}
use Rattle.ledger_transfers.specs.Greedy.{AreGreedy, taken, IsChosen}
use Rattle.ledger_transfers.proofs.TouchesLemmas.{touches_cons, touches_append}

module _ {T K E : Type 0} (settled : List (K × Change E) → Type 0) (changes_of : T → List (K × Change E)) where
  -- what was taken before, with one candidate more or without it
  next_touches : (before : List T) (ts : List (K × Change E)) (c : T) (v : Bool) → ts ≡ touches changes_of before
      → cond v (ts ++ touches changes_of (c ∷ [])) ts ≡ touches changes_of (cond v (before ++ c ∷ []) before)
  next_touches before ts c true e = ap (λ us. us ++ touches changes_of (c ∷ [])) e ∙ sym (touches_append changes_of before (c ∷ []))
  next_touches before ts c false e = e

  pub greedy_of : (before : List T) (ts : List (K × Change E)) (cs : List T) (vs : List Bool) → ts ≡ touches changes_of before → AreVerdicts settled changes_of ts cs vs
      → AreGreedy (λ batch. settled (touches changes_of batch)) before cs vs
  greedy_of before ts [] [] e h = tt
  greedy_of before ts [] (v ∷ vs) e h = h
  greedy_of before ts (c ∷ cs) [] e h = h
  greedy_of before ts (c ∷ cs) (v ∷ vs) e h = (
    subst (λ us. MatchBool v (settled us) (settled us → ⊥)) (next_touches before ts c true e) h.0,
    greedy_of (cond v (before ++ c ∷ []) before) (cond v (ts ++ touches changes_of (c ∷ [])) ts) cs vs (next_touches before ts c v e) h.1,
  )

  -- the touches taken in the end are those of the taken candidates
  pub taken_touches : (ts : List (K × Change E)) (cs : List T) (vs : List Bool) → taken_after settled changes_of ts cs vs ≡ ts ++ touches changes_of (taken cs vs)
  taken_touches ts [] [] = sym (append-nil ts)
  taken_touches ts [] (v ∷ vs) = sym (append-nil ts)
  taken_touches ts (c ∷ cs) [] = sym (append-nil ts)
  taken_touches ts (c ∷ cs) (v ∷ vs) = taken_touches (cond v (ts ++ touches changes_of (c ∷ [])) ts) cs vs ∙ by v
    where
      by : (v : Bool) → cond v (ts ++ touches changes_of (c ∷ [])) ts ++ touches changes_of (taken cs vs) ≡ ts ++ touches changes_of (cond v (c ∷ taken cs vs) (taken cs vs))
      by true = append_assoc ts (touches changes_of (c ∷ [])) (touches changes_of (taken cs vs)) ∙ ap (λ us. ts ++ us) (sym (touches_cons changes_of c (taken cs vs)))
      by false = refl

module _ {A E K : Type 0} (eq : K → K → Bool) (same : A → A → Bool) (rules : Rules A E) where
  pub is_chosen : {T : Type 0} (changes_of : T → List (K × Change E)) (old new : List (K × Held A)) (cs : List T) (vs : List Bool) → AllDecided eq same rules changes_of old new cs vs
      → IsChosen eq same rules changes_of old new cs vs
  is_chosen {T} changes_of old new cs vs decided before stands =
      let h = decided (touches changes_of before) stands in
      let settled = SettledBy eq same rules old in (
        greedy_of settled changes_of before (touches changes_of before) cs vs refl h.0,
        subst (StandsFor eq same rules new) (taken_touches settled changes_of (touches changes_of before) cs vs ∙ sym (touches_append changes_of before (taken cs vs))) h.1,
      )
