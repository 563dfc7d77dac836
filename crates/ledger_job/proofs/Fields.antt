-- What the fields of a line say, where they were taken one after another.
use Rattle.std.proofs.Common.{◌≡◌, ℕ, List, [], ◌∷◌, ◌==◌, Some, None, Option, Bor, sym, ◌∙◌, ap}
use Rattle.std.specs.List.{slice_split}
use Rattle.ledger_job.specs.Lines.{fields_of, line_of_fields}
use Rattle.ledger_job.specs.Parts.{parts_left, Takes}
use Rattle.ledger_job.specs.declared.line.Line.{Line}

pub taken : (before after : Option (Bor (List ℕ))) (result : Option (Bor (List ℕ))) (part : Bor (List ℕ)) → Takes 32 before after result → result ≡ Some part → parts_left 32 before ≡ part.now ∷ parts_left 32 after
taken before after None part t e = absurd cc
taken before after (Some x) part t e = let same : x ≡ part = cc in t ∙ ap (λ p. p.now ∷ parts_left 32 after) same

pub all_taken : (before after : Option (Bor (List ℕ))) (result : Option (Bor (List ℕ))) → Takes 32 before after result → result ≡ None → parts_left 32 before ≡ []
all_taken before after None t e = t
all_taken before after (Some x) t e = absurd cc

-- what a line says by its fields
pub said_by : (line : List ℕ) (fields : List (List ℕ)) (said : Option Line) → slice_split (λ b. b == 32) line ≡ fields → said ≡ line_of_fields fields → said ≡ line_of_fields (fields_of line)
unfolding fields_of
said_by line fields said e h = h ∙ sym (ap line_of_fields e)
