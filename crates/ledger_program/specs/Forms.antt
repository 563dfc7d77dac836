-- The words of the program.
use Rattle.std.specs.Prelude.{ℕ, ◌&&◌, List, [], ◌∷◌, Option, Some, None, codes, nat_le, option_and_then, if◌then◌else◌}
use Rattle.std.specs.Str.{bytes_eq}
use Rattle.ledger_job.specs.Number.{number_of}
use Rattle.ledger_job.specs.declared.kind.JobKind.{JobKind}
use Rattle.ledger_job.specs.declared.kind.JobKind.TheVariants.{Local, Follow}
use Rattle.ledger_strategy.specs.Parts.{max_workers}

-- the kind that a word alone asks for
abbrev pub one_word : List ℕ → Option JobKind
one_word word = if bytes_eq word (codes "local") then Some Local else None

-- the kind that a word with an address asks for
abbrev pub two_words : List ℕ → Option JobKind
two_words word = if bytes_eq word (codes "follow") then Some Follow else None

-- so many workers, where that is 1 to 64
abbrev pub few_workers : ℕ → Option ℕ
few_workers n = if nat_le 1 n && nat_le n max_workers then Some n else None

-- the workers that an option asks for: `--workers`, and how many
abbrev pub workers_of : List ℕ → List ℕ → Option ℕ
workers_of name value = if bytes_eq name (codes "--workers") then option_and_then few_workers (number_of value) else None

-- what the words before an option ask for, where it asks for workers
abbrev pub with_workers : {X : Type 0} → Option ℕ → Option X → Option X
with_workers None form = None
with_workers (Some n) form = form

-- the kind of job that the words ask for: `local` alone, or `follow` and an address, and behind these an option for workers, or none
abbrev pub form_of : List (List ℕ) → Option JobKind
form_of (word ∷ []) = one_word word
form_of (word ∷ address ∷ []) = two_words word
form_of (word ∷ name ∷ value ∷ []) = with_workers (workers_of name value) (one_word word)
form_of (word ∷ address ∷ name ∷ value ∷ []) = with_workers (workers_of name value) (two_words word)
form_of _ = None

-- the workers that the words ask for, if an option ends them
abbrev pub workers_in : List (List ℕ) → Option ℕ
workers_in (word ∷ name ∷ value ∷ []) = workers_of name value
workers_in (word ∷ address ∷ name ∷ value ∷ []) = workers_of name value
workers_in _ = None
