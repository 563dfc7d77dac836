-- The printed report.
use Rattle.std.specs.Prelude.{ℕ, ◌+◌, ◌++◌, ◌&&◌, ◌==◌, Bool, List, [], ◌∷◌, Some, None, map, take, position, codes, if◌then◌else◌}
use Rattle.std.specs.Fmt.{decimal}
use Rattle.std.specs.List.{flat_map}
use Rattle.std.specs.declared.option.Option.{Option}
use Rattle.std.specs.Str.{bytes_eq}
use Rattle.hex.specs.Hex.{encode_lower}
use Rattle.ledger_job.specs.Keys.{is_name, filled}
use Rattle.ledger_job.specs.declared.block.BlockVerdicts.{BlockVerdicts}
use Rattle.ledger_job.specs.declared.block.BlockVerdicts.TheVariants.{Body, Rounds}
use Rattle.ledger_settling.specs.declared.report.Report.{Report}
use Rattle.ledger_transfers.specs.declared.sequenced.Sequenced.{Sequenced}

-- the key before its first zero byte
abbrev pub cut_at : Option ℕ → List ℕ → List ℕ
cut_at None key = key
cut_at (Some n) key = take n key

-- what stands before the first zero byte of a key
abbrev pub name_of : List ℕ → List ℕ
name_of key = cut_at (position (λ b. b == 0) key) key

-- a key is a name, filled with zero bytes
unfoldable pub is_filled_name : List ℕ → Bool
is_filled_name key = is_name (name_of key) && bytes_eq (filled (name_of key)) key

-- a filled name as the name, another key in hexadecimal digits
unfoldable pub key_text : List ℕ → List ℕ
key_text key = if is_filled_name key then name_of key else codes "0x" ++ encode_lower key

-- the range that was synced
unfoldable pub synced_line : ℕ → ℕ → List ℕ
synced_line start until = codes "synced " ++ decimal start ++ codes " " ++ decimal until ++ 10 ∷ []

-- 1 for a candidate that was taken, 0 for another
abbrev pub digits_of : List Bool → List ℕ
digits_of verdicts = map (λ v. if v then 49 else 48) verdicts

-- a space, and the digits of a round, or `-` where it has no candidate
unfoldable pub round_field : List Bool → List ℕ
round_field [] = codes " -"
round_field (v ∷ vs) = codes " " ++ digits_of (v ∷ vs)

-- the fields of the rounds
abbrev pub round_fields : List (List Bool) → List ℕ
round_fields rounds = flat_map round_field rounds

-- the line of a body
unfoldable pub body_line : ℕ → List ℕ
body_line place = codes "block " ++ decimal place ++ codes " body\n"

-- the line of a block of rounds
unfoldable pub rounds_line : ℕ → List (List Bool) → List ℕ
rounds_line place rounds = codes "block " ++ decimal place ++ codes " rounds" ++ round_fields rounds ++ 10 ∷ []

-- the line of a block
abbrev pub block_line : ℕ → BlockVerdicts → List ℕ
block_line place Body = body_line place
block_line place (Rounds rounds) = rounds_line place rounds

-- the lines of the blocks, of which the first stands at this place
abbrev pub block_lines : ℕ → List BlockVerdicts → List ℕ
block_lines place [] = []
block_lines place (v ∷ vs) = block_line place v ++ block_lines (place + 1) vs

-- the line of an account
unfoldable pub account_line : List ℕ × Sequenced → List ℕ
account_line entry = codes "account " ++ key_text entry.0 ++ codes " " ++ decimal entry.1.balance ++ codes " " ++ decimal entry.1.nonce ++ 10 ∷ []

-- the size and the root
unfoldable pub end_lines : ℕ → List ℕ → List ℕ
end_lines size root = codes "size " ++ decimal size ++ 10 ∷ [] ++ codes "root " ++ encode_lower root ++ 10 ∷ []

-- the text of a report
unfoldable pub text_of : Report Sequenced → List ℕ
text_of report = synced_line report.start report.end ++ block_lines 0 report.verdicts ++ flat_map account_line report.accounts.entries ++ end_lines report.size report.root
