-- The words of `generate`.
use Rattle.std.specs.Prelude.{ℕ, List, [], ◌∷◌, Option, Some, None, codes, if◌then◌else◌}
use Rattle.std.specs.Str.{bytes_eq}
use Rattle.ledger_job.specs.Number.{number_of}
use Rattle.ledger_program.specs.Forms.{workers_of, with_workers}
use Rattle.ledger_generate.specs.Sizes.{SizesView, sizes_with}

-- the sizes of three numbers
abbrev pub sizes_read : Option ℕ → Option ℕ → Option ℕ → Option SizesView
sizes_read (Some seed) (Some accounts) (Some transfers) = sizes_with seed accounts transfers
sizes_read seed accounts transfers = None

-- the sizes that four words ask for
abbrev pub sizes_of : List ℕ → List ℕ → List ℕ → List ℕ → Option SizesView
sizes_of word seed accounts transfers = if bytes_eq word (codes "generate") then sizes_read (number_of seed) (number_of accounts) (number_of transfers) else None

-- the sizes that the words ask for: `generate` and three numbers, and behind these an option for workers, or none
abbrev pub form_of : List (List ℕ) → Option SizesView
form_of (word ∷ seed ∷ accounts ∷ transfers ∷ []) = sizes_of word seed accounts transfers
form_of (word ∷ seed ∷ accounts ∷ transfers ∷ name ∷ value ∷ []) = with_workers (workers_of name value) (sizes_of word seed accounts transfers)
form_of _ = None

-- the workers that the words ask for, if an option ends them
abbrev pub workers_in : List (List ℕ) → Option ℕ
workers_in (word ∷ seed ∷ accounts ∷ transfers ∷ name ∷ value ∷ []) = workers_of name value
workers_in _ = None
