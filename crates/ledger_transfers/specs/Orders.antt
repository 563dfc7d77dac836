-- What the order of a batch doesn't change, and what nothing added to a batch mends.
use Rattle.std.specs.Prelude.{◌≡◌, ◌↔◌, Bool, true, List, IsNone}
use Rattle.std.specs.List.{All}
use Rattle.ledger_transfers.specs.declared.change.Change.{Change}
use Rattle.ledger_transfers.specs.Rules.{Rules}
use Rattle.ledger_transfers.specs.Touches.{total_of}
use Rattle.ledger_transfers.specs.Settling.{Settled, after}

-- no change of the batch has an effect
abbrev pub HasNoEffects : {K E : Type 0} → List (K × Change E) → Type 0
HasNoEffects ts = All (λ t. IsNone t.1.effect) ts

-- equal keys open with one account
abbrev pub OpensByKey : {A K : Type 0} → (K → K → Bool) → (K → A) → Type 0
OpensByKey {A} {K} eq opened_at = (k q : K) → eq k q ≡ true → opened_at k ≡ opened_at q

module _ {A E K : Type 0} (eq : K → K → Bool) (rules : Rules A E) (opened_at : K → A) where
  -- both batches are settled or neither is, and each key ends with the same account
  pub record EndsAlike (ts us : List (K × Change E)) : Type 0 where
    pub settled : Settled eq rules opened_at ts ↔ Settled eq rules opened_at us
    pub ends : (k : K) → after rules (opened_at k) (total_of eq ts k) ≡ after rules (opened_at k) (total_of eq us k)
