-- The targets that a job names.
use Rattle.std.specs.Prelude.{◌≡◌, ℕ, ◌^◌, Bool, true, false, List, Some, None, nat_le, nat_lt, if◌then◌else◌, refl}
use Rattle.std.specs.declared.option.Option.{Option}
use Rattle.std.proofs.lemmas.Bool.{ltb-true}
use Rattle.ledger_log.specs.declared.target.Target.{Target}

-- a range that isn't empty, with a root
abbrev pub target_if : (ordered : Bool) → List ℕ → (start end : ℕ) → nat_lt start end ≡ ordered → Option Target
target_if true root start end less = Some (record { root = root; start = start; end = end; ordered = ltb-true start end less })
target_if false root start end less = None

-- START below END, and END at most the greatest size of a log
unfoldable pub target_of : List ℕ → ℕ → ℕ → Option Target
target_of root start end = if nat_le end (2 ^ 62) then target_if (nat_lt start end) root start end refl else None

-- the same of parts that may be missing
abbrev pub target_from : Option (List ℕ) → Option ℕ → Option ℕ → Option Target
target_from (Some root) (Some start) (Some end) = target_of root start end
target_from _ _ _ = None
