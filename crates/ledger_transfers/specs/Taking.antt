-- What a candidate does to the sums of a key.
use Rattle.std.specs.Prelude.{◌≡◌, ◌+◌, ◌++◌, Bool, Option, Some, unwrap_or}
use Rattle.ledger_transfers.specs.Rules.{Rules, SameOutcome}
use Rattle.ledger_transfers.specs.Settling.{folded, opened}
use Rattle.ledger_transfers.specs.declared.totals.Totals.{Totals}
use Rattle.ledger_transfers.specs.declared.held.Sums.{Sums}

-- what two batches in a row do to a key
abbrev pub merged : {E : Type 0} → Totals E → Totals E → Totals E
merged s t = record { debits = s.debits + t.debits; credits = s.credits + t.credits; effects = s.effects ++ t.effects }

module _ {A E : Type 0} (rules : Rules A E) where
  -- the account after the accepted effects, where none is kept the one that the key opened with
  abbrev pub kept : Option A → Sums A → A
  kept read sums = unwrap_or sums.account (opened rules read)

module _ {A E : Type 0} (same : A → A → Bool) (rules : Rules A E) where
  -- the sums and the account after the effects are those of a key that opened with this read
  pub record IsHeld (read : Option A) (sums : Sums A) (total : Totals E) : Type 0 where
    pub debits : sums.debits ≡ total.debits
    pub credits : sums.credits ≡ total.credits
    pub account : SameOutcome same (Some (kept rules read sums)) (folded rules (opened rules read) total.effects)
