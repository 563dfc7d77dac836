use Rattle.std.specs.Prelude.{◌≡◌, ℕ, suc, ◌+◌, Bool, true, false, cond, nat_le, List, [], ◌∷◌, Option, Some, None, is_some, IsSome}
use Rattle.std.specs.BTreeMap.{BTreeMap, get}
use Rattle.std.specs.Str.{bytes_eq}
use Rattle.std.specs.Cmp.Lexicographic.{slice_cmp}
use Rattle.std.specs.Ordering.{nat_cmp}
use Rattle.ledger_log.specs.View.{written_at}

-- An index has for each key the place behind the last operation that writes it. What it has up to the front
-- of its log is of operations that the log dropped, and counts for nothing, as 0 does.

-- what a map has at the key
abbrev pub entry_at : BTreeMap (List ℕ) ℕ → List ℕ → Option ℕ
entry_at index key = get (slice_cmp nat_cmp) index key

-- the number, or 0 where there is none
abbrev pub or_zero : Option ℕ → ℕ
or_zero None = 0
or_zero (Some n) = n

-- the place behind the last operation at the key, as the index has it
abbrev pub end_at : BTreeMap (List ℕ) ℕ → List ℕ → ℕ
end_at index key = or_zero (entry_at index key)

-- a place behind an operation from the front on, else 0
abbrev pub retained : ℕ → ℕ → ℕ
retained front end = cond (nat_le end front) 0 end

-- whether a write is one of this key
abbrev pub writes_key : List ℕ → Option (List ℕ × Option (List ℕ)) → Bool
writes_key key write = is_some (written_at key write)

-- the place in a list after one item more at its front, which counts where nothing later does
abbrev pub place_after : Bool → Option ℕ → Option ℕ
place_after first (Some i) = Some (suc i)
place_after true None = Some 0
place_after false None = None

-- the place behind operation i of a list that begins at `start`, else what was there before
abbrev pub end_after : ℕ → ℕ → Option ℕ → ℕ
end_after start before None = before
end_after start before (Some i) = start + i + 1

-- the place behind the last operation at the key k, after a place was noted at a key, if any
abbrev pub end_where : Option (List ℕ) → List ℕ → ℕ → ℕ → ℕ
end_where None k end before = before
end_where (Some key) k end before = cond (bytes_eq key k) end before

-- the index has an entry for the key, if there is one
abbrev pub HasEntry : BTreeMap (List ℕ) ℕ → Option (List ℕ) → Type 0
HasEntry index None = Unit {0}
HasEntry index (Some key) = IsSome (entry_at index key)

module _ {Op : Type 0} where
  -- the place in the list of the last operation that writes the key
  abbrev pub last_write : (Op → Option (List ℕ × Option (List ℕ))) → List ℕ → List Op → Option ℕ
  last_write write_of key [] = None
  last_write write_of key (op ∷ ops) = place_after (writes_key key (write_of op)) (last_write write_of key ops)

  -- the index of a log with this front and these operations
  abbrev pub IsIndex : (Op → Option (List ℕ × Option (List ℕ))) → BTreeMap (List ℕ) ℕ → ℕ → List Op → Type 0
  IsIndex write_of index front ops = (key : List ℕ) → retained front (end_at index key) ≡ end_after front 0 (last_write write_of key ops)
