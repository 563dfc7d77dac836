-- What a selection stands for.
use Rattle.std.specs.Prelude.{◌≡◌, ℕ, ◌≤◌, ◌++◌, Bool, List, [], ◌∷◌, Some, IsSome, MatchBool, option_and_then, slice_get, if◌then◌else◌, ⊤}
use Rattle.std.specs.List.{All}
use Rattle.std.specs.Option.{option_map}
use Rattle.std.specs.Map.{lookup, keys_of}
use Rattle.ledger_transfers.specs.Rules.{Rules}
use Rattle.ledger_transfers.specs.Touches.{total_of, touches, max_amount}
use Rattle.ledger_transfers.specs.Settling.{opened, Settled}
use Rattle.ledger_transfers.specs.declared.change.Change.{Change}
use Rattle.ledger_transfers.specs.Taking.{IsHeld}
use Rattle.ledger_transfers.specs.declared.held.Held.{Held}

module _ {A E K : Type 0} (eq : K → K → Bool) (same : A → A → Bool) (rules : Rules A E) where
  -- the account that a registered key opened with
  abbrev pub opened_at : List (K × Held A) → K → A
  opened_at entries k = opened rules (option_and_then (λ h. h.read) (lookup (eq k) entries))

  -- the batch is settled against the reads, each key that it touches is registered, and the sums and accounts are those of the batch
  pub record StandsFor (entries : List (K × Held A)) (ts : List (K × Change E)) : Type 0 where
    pub settled : Settled eq rules (opened_at entries) ts
    pub registered : All (λ t. IsSome (lookup (eq t.0) entries)) ts
    pub amounts : (k : K) (h : Held A) → lookup (eq k) entries ≡ Some h → rules.balance_of (opened rules h.read) ≤ max_amount
    pub each : (k : K) (h : Held A) → lookup (eq k) entries ≡ Some h → IsHeld same rules h.read h.sums (total_of eq ts k)

-- what stands at a place of both lists belongs together
abbrev pub StandTogether : {X Y : Type 0} → (X → Y → Type 0) → List X → List Y → Type 0
StandTogether {X} {Y} R xs ys = (i : ℕ) (x : X) (y : Y) → slice_get xs i ≡ Some x → slice_get ys i ≡ Some y → R x y

module _ {T K E : Type 0} (settled : List (K × Change E) → Type 0) (changes_of : T → List (K × Change E)) where
  -- the touches taken in the end, by the verdicts
  abbrev pub taken_after : List (K × Change E) → List T → List Bool → List (K × Change E)
  taken_after ts (c ∷ cs) (v ∷ vs) = taken_after (if v then ts ++ touches changes_of (c ∷ []) else ts) cs vs
  taken_after ts cs vs = ts

  -- each candidate is taken exactly where it settles with those taken before it
  abbrev pub AreVerdicts : List (K × Change E) → List T → List Bool → Type 0
  AreVerdicts ts [] [] = ⊤
  AreVerdicts ts (c ∷ cs) (v ∷ vs) = MatchBool v (settled (ts ++ touches changes_of (c ∷ []))) (settled (ts ++ touches changes_of (c ∷ [])) → ⊥)
      × AreVerdicts (if v then ts ++ touches changes_of (c ∷ []) else ts) cs vs
  AreVerdicts ts cs vs = ⊥

module _ {A E K : Type 0} (eq : K → K → Bool) (same : A → A → Bool) (rules : Rules A E) where
  -- the batch settles against the reads of the registered keys
  abbrev pub SettledBy : List (K × Held A) → List (K × Change E) → Type 0
  SettledBy entries ts = Settled eq rules (opened_at eq same rules entries) ts

  -- after a candidate: with it where it settles, and unchanged where it doesn't
  abbrev pub Decided : List (K × Held A) → List (K × Held A) → List (K × Change E) → Bool → Type 0
  Decided old new cs verdict = (ts : List (K × Change E)) → StandsFor eq same rules old ts
      → MatchBool verdict (SettledBy old (ts ++ cs) × StandsFor eq same rules new (ts ++ cs)) ((SettledBy old (ts ++ cs) → ⊥) × StandsFor eq same rules new ts)

  -- after all candidates: greedy's verdicts, and the selection stands for what was taken
  abbrev pub AllDecided : {T : Type 0} → (T → List (K × Change E)) → List (K × Held A) → List (K × Held A) → List T → List Bool → Type 0
  AllDecided changes_of old new candidates verdicts = (ts : List (K × Change E)) → StandsFor eq same rules old ts
      → AreVerdicts (SettledBy old) changes_of ts candidates verdicts × StandsFor eq same rules new (taken_after (SettledBy old) changes_of ts candidates verdicts)

module _ {A K : Type 0} (eq : K → K → Bool) where
  -- the same keys are registered, with the same reads
  pub record AreReadBy (old new : List (K × Held A)) : Type 0 where
    pub keys : keys_of new ≡ keys_of old
    pub reads : (k : K) → option_map (λ h. h.read) (lookup (eq k) new) ≡ option_map (λ h. h.read) (lookup (eq k) old)
