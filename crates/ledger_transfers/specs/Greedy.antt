-- Greedy choice among candidates.
use Rattle.std.specs.Prelude.{Bool, List, [], ◌∷◌, ◌++◌, MatchBool, if◌then◌else◌, ⊤}
use Rattle.ledger_transfers.specs.declared.change.Change.{Change}
use Rattle.ledger_transfers.specs.declared.held.Held.{Held}
use Rattle.ledger_transfers.specs.Rules.{Rules}
use Rattle.ledger_transfers.specs.Touches.{touches}
use Rattle.ledger_transfers.specs.Selecting.{StandsFor, SettledBy}

module _ {T : Type 0} where
  -- each candidate is taken exactly where those taken before it settle with it
  abbrev pub AreGreedy : (List T → Type 0) → List T → List T → List Bool → Type 0
  AreGreedy Settles before [] [] = ⊤
  AreGreedy Settles before (c ∷ cs) (v ∷ vs) =
      MatchBool v (Settles (before ++ c ∷ [])) (Settles (before ++ c ∷ []) → ⊥) × AreGreedy Settles (if v then before ++ c ∷ [] else before) cs vs
  AreGreedy Settles before cs vs = ⊥

  -- the candidates that were taken
  abbrev pub taken : List T → List Bool → List T
  taken (c ∷ cs) (v ∷ vs) = if v then c ∷ taken cs vs else taken cs vs
  taken cs vs = []

module _ {A E K : Type 0} (eq : K → K → Bool) (same : A → A → Bool) (rules : Rules A E) where
  -- after each list of transfers that a selection stands for the verdicts are greedy's, and then it stands for that list with the taken candidates
  abbrev pub IsChosen : {T : Type 0} → (T → List (K × Change E)) → List (K × Held A) → List (K × Held A) → List T → List Bool → Type 0
  IsChosen {T} changes_of old new candidates verdicts = (before : List T) → StandsFor eq same rules old (touches changes_of before)
      → AreGreedy (λ batch. SettledBy eq same rules old (touches changes_of batch)) before candidates verdicts × StandsFor eq same rules new (touches changes_of (before ++ taken candidates verdicts))
