-- The connections that a listener gives.
use Rattle.std.specs.Prelude.{◌≡◌, ℕ, List, [], ◌∷◌, Option, Some, None, Result, Ok, Err, IsErr}
use Rattle.sync_dial.specs.declared.list.ListListener.{ListListener}

-- an accept gives the first of the links that are to come; past them it fails, and where it fails all are still to come
abbrev pub Accepts : {L E : Type 0} → Option (List L) → Option (List L) → Result L E → Type 0
Accepts None now result = now ≡ None
Accepts (Some []) now result = (now ≡ Some []) × IsErr result
Accepts (Some (first ∷ rest)) now (Ok link) = (now ≡ Some rest) × (link ≡ first)
Accepts (Some (first ∷ rest)) now (Err e) = now ≡ Some (first ∷ rest)

-- the links of a list that are to come
abbrev pub links_to_come : {L : Type 0} → ListListener L → List L
links_to_come listener = listener.links.items

-- how many accepts of a list failed
abbrev pub failed_accepts : {L : Type 0} → ListListener L → ℕ
failed_accepts listener = listener.faults
