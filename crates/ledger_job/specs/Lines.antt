-- The lines of a job, each by itself.
use Rattle.std.specs.Prelude.{ℕ, ◌-◌, ◌==◌, Bool, true, List, [], ◌∷◌, Some, None, length, take, slice_index, codes, if◌then◌else◌}
use Rattle.std.specs.declared.option.Option.{Option}
use Rattle.ledger_log.specs.declared.target.Target.{Target}
use Rattle.std.specs.List.{slice_split}
use Rattle.std.specs.Str.{bytes_eq}
use Rattle.ledger_job.specs.Number.{number_of}
use Rattle.ledger_job.specs.Bounds.{in_range}
use Rattle.ledger_job.specs.Keys.{digest_of, key_of}
use Rattle.ledger_job.specs.Ranges.{target_from}
use Rattle.ledger_job.specs.declared.line.Line.{Line}
use Rattle.ledger_job.specs.declared.line.Line.TheVariants.{Skipped, Open, Target as TargetLine, Update, Limits, Body, Rounds, Round, Pay}

-- a text without a line feed at its end
abbrev pub without_end : List ℕ → List ℕ
without_end text = if slice_index text (length text - 1) == 10 then take (length text - 1) text else text

-- the lines of a text: they end with a line feed, which the last one may lack, and the empty text has none
unfoldable pub lines_of : List ℕ → List (List ℕ)
lines_of text = if length text == 0 then [] else slice_split (λ b. b == 10) (without_end text)

-- the fields of a line, which are parted by exactly one space
unfoldable pub fields_of : List ℕ → List (List ℕ)
fields_of line = slice_split (λ b. b == 32) line

-- an empty line or a comment
abbrev pub is_skipped : List ℕ → Bool
is_skipped [] = true
is_skipped (b ∷ more) = b == 35

-- the words that stand alone
abbrev pub one_word : List ℕ → Option Line
one_word word =
    if bytes_eq word (codes "body") then Some Body
    else if bytes_eq word (codes "rounds") then Some Rounds
    else if bytes_eq word (codes "round") then Some Round
    else None

-- limits within their range
abbrev pub limits_from : Option ℕ → Option ℕ → Option Line
limits_from (Some batch) (Some outstanding) =
    if in_range batch outstanding then Some (Limits (record { batch = batch; outstanding = outstanding })) else None
limits_from _ _ = None

-- `limits BATCH OUTSTANDING`
abbrev pub three_words : List ℕ → List ℕ → List ℕ → Option Line
three_words word batch outstanding = if bytes_eq word (codes "limits") then limits_from (number_of batch) (number_of outstanding) else None

-- an account: a key, a balance and a nonce
abbrev pub open_from : Option (List ℕ) → Option ℕ → Option ℕ → Option Line
open_from (Some key) (Some balance) (Some nonce) = Some (Open (record { key = key; balance = balance; nonce = nonce }))
open_from _ _ _ = None

-- the target of the peer's log, if it is one
abbrev pub target_line : Option Target → Option Line
target_line None = None
target_line (Some target) = Some (TargetLine target)

-- a later target, if it is one
abbrev pub update_line : Option Target → Option Line
update_line None = None
update_line (Some target) = Some (Update target)

-- `open KEY BALANCE NONCE`, `target ROOT START END` and `update ROOT START END`
abbrev pub four_words : List ℕ → List ℕ → List ℕ → List ℕ → Option Line
four_words word first second third =
    if bytes_eq word (codes "open") then open_from (key_of first) (number_of second) (number_of third)
    else if bytes_eq word (codes "target") then target_line (target_from (digest_of first) (number_of second) (number_of third))
    else if bytes_eq word (codes "update") then update_line (target_from (digest_of first) (number_of second) (number_of third))
    else None

-- a payment: who pays, who is paid, how much, and at which nonce
abbrev pub pay_from : Option (List ℕ) → Option (List ℕ) → Option ℕ → Option ℕ → Option Line
pay_from (Some from) (Some to) (Some amount) (Some nonce) = Some (Pay (record { from = from; to = to; amount = amount; nonce = nonce }))
pay_from _ _ _ _ = None

-- `pay FROM TO AMOUNT NONCE`
abbrev pub five_words : List ℕ → List ℕ → List ℕ → List ℕ → List ℕ → Option Line
five_words word from to amount nonce =
    if bytes_eq word (codes "pay") then pay_from (key_of from) (key_of to) (number_of amount) (number_of nonce) else None

-- what the fields of a line say
abbrev pub line_of_fields : List (List ℕ) → Option Line
line_of_fields (word ∷ []) = one_word word
line_of_fields (word ∷ batch ∷ outstanding ∷ []) = three_words word batch outstanding
line_of_fields (word ∷ first ∷ second ∷ third ∷ []) = four_words word first second third
line_of_fields (word ∷ from ∷ to ∷ amount ∷ nonce ∷ []) = five_words word from to amount nonce
line_of_fields _ = None

-- what a line says, if it is a line of a job
unfoldable pub line_of : List ℕ → Option Line
line_of line = if is_skipped line then Some Skipped else line_of_fields (fields_of line)
