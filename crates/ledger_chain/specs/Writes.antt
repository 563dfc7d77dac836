-- Writes of keys: each is a key with its new value, which is None of a deletion.
use Rattle.std.specs.Prelude.{ℕ, List, [], ◌∷◌, Option, Some, None, not, map, filter, filter_map, bytes_eq}
use Rattle.std.specs.List.{last_or}
use Rattle.ledger_log.specs.View.{written_at, value_or_none}

abbrev pub Write : Type 0
Write = List ℕ × Option (List ℕ)

-- what the last write of the key leaves, None where none is of this key
abbrev pub last_write : List ℕ → List Write → Option (Option (List ℕ))
last_write key writes = last_or None (filter_map (λ w. written_at key (Some w)) writes)

-- the keys, each once, in the order of their first places
abbrev pub firsts : List (List ℕ) → List (List ℕ)
firsts [] = []
firsts (k ∷ ks) = k ∷ filter (λ q. not (bytes_eq k q)) (firsts ks)

-- each written key once, in the order of the first writes, with what its last write leaves
abbrev pub settled : List Write → List Write
settled writes = map (λ key. (key, value_or_none (last_write key writes))) (firsts (map (λ w. w.0) writes))
