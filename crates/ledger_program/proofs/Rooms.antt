-- How many operations a job of a given length can make.
use Rattle.std.proofs.Common.{◌≡◌, ℕ, zero, suc, ◌+◌, ◌-◌, ◌*◌, ◌≤◌, Bool, true, false, cond, List, [], ◌∷◌, length, map, take, filter_map, Option, Some, None, Result, Ok, subst, refl, arith, length-append, ◌==◌}
use Rattle.std.specs.Prelude.{slice_index}
use Rattle.std.specs.List.{slice_split, onto_first}
use Rattle.std.proofs.lemmas.List.{length-map}
use Rattle.ledger_job.specs.Jobs.{job_of, job_from, job_or_offence, read_lines, first_offence, open_in, payments_of, rounds_of, blocks_of}
use Rattle.ledger_job.specs.Lines.{lines_of, line_of, without_end}
use Rattle.ledger_job.specs.declared.job.Job.{Job}
use Rattle.ledger_job.specs.declared.kind.JobKind.{JobKind}
use Rattle.ledger_job.specs.declared.line.Line.{Line}
use Rattle.ledger_job.specs.declared.line.Line.TheVariants.{Skipped, Open, Target as TargetLine, Update, Limits, Body, Rounds, Round, Pay}
use Rattle.ledger_job.specs.declared.line.Open.{Open as Opened}
use Rattle.ledger_log.specs.declared.any.AnyOp.TheVariants.{CommitFloor}
use Rattle.ledger_program.specs.Served.{served, update_of}
use Rattle.ledger_settling.proofs.CauseLemmas.{room_for, map_short}
use Rattle.ledger_settling.specs.Blocks.{joined}

onto_short : {X : Type 0} (x : X) (xss : List (List X)) (n : ℕ) → length xss ≤ n + 1 → length (onto_first x xss) ≤ (n + 1) + 1
onto_short x [] n h = omega arith
onto_short x (xs ∷ xss) n h = omega (arith, h)

split_short : {X : Type 0} (p : X → Bool) (xs : List X) → length (slice_split p xs) ≤ length xs + 1
split_short p [] = omega arith
split_short p (x ∷ xs) = by (p x) (split_short p xs)
  where
    by : (b : Bool) → length (slice_split p xs) ≤ length xs + 1 → length (cond b ([] ∷ slice_split p xs) (onto_first x (slice_split p xs))) ≤ length (x ∷ xs) + 1
    by true h = omega (arith, h)
    by false h = omega (arith, onto_short x (slice_split p xs) (length xs) h)

take_short : {X : Type 0} (n : ℕ) (xs : List X) → length (take n xs) ≤ length xs
take_short zero xs = omega arith
take_short (suc n) [] = omega arith
take_short (suc n) (x ∷ xs) = omega (arith, take_short n xs)

end_short : (text : List ℕ) → length (without_end text) ≤ length text
end_short text = by (slice_index text (length text - 1) == 10)
  where
    by : (b : Bool) → length (cond b (take (length text - 1) text) text) ≤ length text
    by true = take_short (length text - 1) text
    by false = omega arith

lines_short : (text : List ℕ) → length (lines_of text) ≤ length text + 1
unfolding lines_of
lines_short text = by (length text == 0)
  where
    by : (b : Bool) → length (cond b [] (slice_split (λ c. c == 10) (without_end text))) ≤ length text + 1
    by true = omega arith
    by false = omega (arith, split_short (λ c. c == 10) (without_end text), end_short text)

-- the operations of a list of lines, with its first payments and rounds
blocks_short : (lines : List Line) → room_for (blocks_of lines) + (4 * length (payments_of lines) + 4 * length (joined (rounds_of lines))) ≤ 4 * length lines
blocks_short [] = omega arith
blocks_short (Skipped ∷ lines) = omega (arith, blocks_short lines)
blocks_short (Open account ∷ lines) = omega (arith, blocks_short lines)
blocks_short (TargetLine target ∷ lines) = omega (arith, blocks_short lines)
blocks_short (Update target ∷ lines) = omega (arith, blocks_short lines)
blocks_short (Limits limits ∷ lines) = omega (arith, blocks_short lines)
blocks_short (Body ∷ lines) = omega (arith, blocks_short lines)
blocks_short (Rounds ∷ lines) = omega (arith, blocks_short lines)
blocks_short (Round ∷ lines) = omega (arith, blocks_short lines, length-append (payments_of lines) (joined (rounds_of lines)))
blocks_short (Pay payment ∷ lines) = omega (arith, blocks_short lines)

served_length : (accounts : List Opened) → length (served accounts) ≡ length accounts + 2
unfolding served
served_length accounts = omega (arith, length-append (map update_of accounts) (CommitFloor None 0 ∷ []), length-map accounts update_of)

from_short : (lines : List Line) → length (served (job_from lines).opens) + room_for (job_from lines).blocks ≤ 5 * length lines + 2
unfolding job_from
from_short lines = omega (arith, served_length (filter_map open_in lines), map_short open_in lines, blocks_short lines)

same_job : (i j : Job) (r : Result Job ℕ) → r ≡ Ok i → r ≡ Ok j → i ≡ j
same_job i j r e f = cc

-- all operations of a job's log are few
pub job_short : (kind : JobKind) (text : List ℕ) (job : Job) → job_of kind text ≡ Ok job → length (served job.opens) + room_for job.blocks ≤ 5 * length text + 7
unfolding job_of
job_short kind text job h = by (first_offence kind [] (read_lines text)) h
  where
    lines : List Line
    lines = filter_map (λ line. line) (read_lines text)

    few : length lines ≤ length text + 1
    few = omega (arith, map_short (λ line. line) (read_lines text), length-map (lines_of text) line_of, lines_short text)

    by : (o : Option ℕ) → job_or_offence lines o ≡ Ok job → length (served job.opens) + room_for job.blocks ≤ 5 * length text + 7
    by None e = subst (λ j. length (served j.opens) + room_for j.blocks ≤ 5 * length text + 7) (same_job (job_from lines) job (Ok (job_from lines)) refl e) (omega (arith, from_short lines, few))
    by (Some n) e = absurd cc
