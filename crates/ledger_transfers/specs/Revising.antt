-- Sums that replace those of registered keys, and their undoing.
use Rattle.std.specs.Prelude.{ℕ, zero, suc, List, [], ◌∷◌, unwrap_or}
use Rattle.ledger_transfers.specs.declared.held.Held.{Held}
use Rattle.ledger_transfers.specs.declared.revise.Revision.{Revision}

-- a key's entry with the revision's sums, and with its account if it has one
abbrev pub revised : {A : Type 0} → Revision A → Held A → Held A
revised r h = record h { sums = record { debits = r.debits; credits = r.credits; account = unwrap_or r.account h.sums.account } }

module _ {A K : Type 0} where
  -- the entries with the revision's sums at a place
  abbrev pub revised_at : List (K × Held A) → ℕ → Revision A → List (K × Held A)
  revised_at [] i r = []
  revised_at (e ∷ es) zero r = (e.0, revised r e.1) ∷ es
  revised_at (e ∷ es) (suc i) r = e ∷ revised_at es i r

  -- the entries after the log's revisions are written at their places, the last one first
  abbrev pub undone : List (ℕ × Revision A) → List (K × Held A) → List (K × Held A)
  undone [] es = es
  undone (b ∷ bs) es = revised_at (undone bs es) b.0 b.1
