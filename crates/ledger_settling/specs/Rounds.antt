-- What a selection makes of rounds of candidates, against the accounts of a map.
use Rattle.std.specs.Prelude.{◌≡◌, ℕ, ◌++◌, Bool, List, bytes_eq, Some}
use Rattle.std.specs.List.{IsDistinct}
use Rattle.std.specs.Map.{lookup, keys_of}
use Rattle.std.specs.BTreeMap.{BTreeMap}
use Rattle.ledger_transfers.specs.Rules.{Rules, SameOutcome}
use Rattle.ledger_transfers.specs.Touches.{touches}
use Rattle.ledger_transfers.specs.Settling.{Settled}
use Rattle.ledger_transfers.specs.Selecting.{StandsFor}
use Rattle.ledger_transfers.specs.Greedy.{AreGreedy, taken}
use Rattle.ledger_transfers.specs.declared.change.Change.{Change}
use Rattle.ledger_transfers.specs.declared.held.Held.{Held}
use Rattle.ledger_settling.specs.Reports.{held}
use Rattle.ledger_settling.specs.Slots.{opening_of}

-- each touched key is registered, no two are equal, and the read of each is the account under it
pub record AreOpened {A : Type 0} (same : A → A → Bool) (accounts : BTreeMap (List ℕ) A) (keys : List (List ℕ)) (entries : List (List ℕ × Held A)) : Type 0 where
  pub all : keys_of entries ≡ keys
  pub distinct : IsDistinct bytes_eq keys
  pub reads : (key : List ℕ) (h : Held A) → lookup (bytes_eq key) entries ≡ Some h → SameOutcome same h.read (held accounts key)

-- the batch settles against these accounts
abbrev pub SettlesOn : {T A E : Type 0} → Rules A E → (T → List (List ℕ × Change E)) → BTreeMap (List ℕ) A → List T → Type 0
SettlesOn rules changes_of accounts batch = Settled bytes_eq rules (opening_of rules accounts) (touches changes_of batch)

-- behind each list that a selection stood for the verdicts are greedy's, and then it stands for that list with what was taken
abbrev pub AreChosen : {T A E : Type 0} → (A → A → Bool) → Rules A E → (T → List (List ℕ × Change E)) → BTreeMap (List ℕ) A → List (List ℕ × Held A) → List (List ℕ × Held A) → List T → List Bool → Type 0
AreChosen {T} same rules changes_of accounts old new candidates verdicts = (before : List T) → StandsFor bytes_eq same rules old (touches changes_of before)
    → AreGreedy (SettlesOn rules changes_of accounts) before candidates verdicts × StandsFor bytes_eq same rules new (touches changes_of (before ++ taken candidates verdicts))
