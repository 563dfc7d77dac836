-- The lines of a job that is served, read one after another.
use Rattle.std.proofs.Common.{◌≡◌, ℕ, ◌+◌, ◌<◌, ◌≤◌, ◌==◌, Bool, true, false, List, [], ◌∷◌, ◌++◌, length, map, Some, None, Option, Ok, Err, option_map, refl, sym, ◌∙◌, ap, subst, arith, zero-add, append-nil, append_assoc, Bor, if◌then◌else◌}
use Rattle.std.specs.List.{filter_map, slice_split}
use Rattle.ledger_job.specs.Jobs.{read_lines}
use Rattle.ledger_job.specs.Lines.{line_of, lines_of}
use Rattle.ledger_job.specs.Parts.{parts_left, bytes_left}
use Rattle.ledger_job.specs.declared.line.Line.{Line}
use Rattle.ledger_job.specs.declared.line.Open.{Open}
use Rattle.serve_parts.specs.Accounts.{is_account_line, account_in, listed, first_stray, accounts_or_stray, accounts_of}

-- a place that lies i lines further on
abbrev pub moved : ℕ → Option ℕ → Option ℕ
moved i None = None
moved i (Some n) = Some (i + n)

moved_on : (i : ℕ) (o : Option ℕ) → moved i (option_map (λ n. n + 1) o) ≡ moved (i + 1) o
moved_on i None = refl
moved_on i (Some n) = ap Some (omega arith)

moved_none : (o : Option ℕ) → moved 0 o ≡ o
moved_none None = refl
moved_none (Some n) = ap Some (zero-add n)

-- the lines that are left
abbrev pub lines_left : Option (Bor (List ℕ)) → List (Option Line)
lines_left left = map line_of (parts_left 10 left)

-- so many lines of the text were read, none of them a stray, and these accounts opened; this is left of it
pub record Here (text : List ℕ) (left : Option (Bor (List ℕ))) (number : ℕ) (accounts : List Open) : Type 0 where
  pub right : first_stray (read_lines text) ≡ moved number (first_stray (lines_left left))
  pub opened : filter_map account_in (read_lines text) ≡ accounts ++ filter_map account_in (lines_left left)
  pub counted : number + bytes_left left ≤ length text + 1

pub here_first : (text : List ℕ) (left : Option (Bor (List ℕ))) → parts_left 10 left ≡ lines_of text → bytes_left left ≤ length text + 1 → Here text left 0 []
here_first text left e b = record {
  right = sym (ap (λ l. moved 0 (first_stray (map line_of l))) e ∙ moved_none (first_stray (read_lines text)));
  opened = ap (λ l. filter_map account_in (map line_of l)) (sym e);
  counted = omega arith;
}

strays : (line : Option Line) (more : List (Option Line)) (b : Bool) → is_account_line line ≡ b → first_stray (line ∷ more) ≡ (if b then option_map (λ n. n + 1) (first_stray more) else Some 0)
strays line more b e = ap (λ b. if b then option_map (λ n. n + 1) (first_stray more) else Some 0) e

by_account : (line : Option Line) (more : List (Option Line)) (o : Option Open) → account_in line ≡ o → filter_map account_in (line ∷ more) ≡ listed o ++ filter_map account_in more
by_account line more None e = rw e refl
by_account line more (Some account) e = rw e refl

module _ (text : List ℕ) (rest : Bor (List ℕ)) (more : Option (Bor (List ℕ))) (bytes : List ℕ) (number : ℕ) (accounts : List Open) (h : Here text (Some rest) number accounts) (cut : slice_split (λ b. b == 10) rest.now ≡ bytes ∷ parts_left 10 more) where
  next_is : lines_left (Some rest) ≡ line_of bytes ∷ lines_left more
  next_is = ap (map line_of) cut

  stray_is : (b : Bool) → is_account_line (line_of bytes) ≡ b → first_stray (read_lines text) ≡ moved number (if b then option_map (λ n. n + 1) (first_stray (lines_left more)) else Some 0)
  stray_is b e = h.right ∙ ap (λ l. moved number (first_stray l)) next_is ∙ ap (moved number) (strays (line_of bytes) (lines_left more) b e)

  pub here_stray : is_account_line (line_of bytes) ≡ false → accounts_of text ≡ Err (number + 1)
  unfolding accounts_of
  here_stray e = ap (accounts_or_stray (read_lines text)) (stray_is false e) ∙ ap Err (omega arith)

  pub here_more : is_account_line (line_of bytes) ≡ true → bytes_left more < length rest.now + 1 → Here text more (number + 1) (accounts ++ listed (account_in (line_of bytes)))
  here_more e b = record {
    right = stray_is true e ∙ moved_on number (first_stray (lines_left more));
    opened = h.opened ∙ ap (λ l. accounts ++ filter_map account_in l) next_is ∙ ap (λ l. accounts ++ l) (by_account (line_of bytes) (lines_left more) (account_in (line_of bytes)) refl) ∙ sym (append_assoc accounts (listed (account_in (line_of bytes))) (filter_map account_in (lines_left more)));
    counted = let before = h.counted in omega arith;
  }

pub here_last : (text : List ℕ) (number : ℕ) (accounts : List Open) → Here text None number accounts → accounts_of text ≡ Ok accounts
unfolding accounts_of
here_last text number accounts h = ap (accounts_or_stray (read_lines text)) h.right ∙ ap Ok (h.opened ∙ append-nil accounts)
