-- What is left of a text that is cut at each byte of one kind.
use Rattle.std.specs.Prelude.{◌≡◌, ℕ, ◌+◌, ◌==◌, List, [], ◌∷◌, Option, Some, None, length}
use Rattle.std.specs.Borrow.{Bor}
use Rattle.std.specs.List.{slice_split}

-- the parts of what is left
abbrev pub parts_left : ℕ → Option (Bor (List ℕ)) → List (List ℕ)
parts_left at None = []
parts_left at (Some text) = slice_split (λ b. b == at) text.now

-- how many bytes are left, with the cut before them
abbrev pub bytes_left : Option (Bor (List ℕ)) → ℕ
bytes_left None = 0
bytes_left (Some text) = length text.now + 1

-- the first part was taken, where there is one
abbrev pub Takes : ℕ → Option (Bor (List ℕ)) → Option (Bor (List ℕ)) → Option (Bor (List ℕ)) → Type 0
Takes at before after None = parts_left at before ≡ []
Takes at before after (Some part) = parts_left at before ≡ part.now ∷ parts_left at after
