-- The first offence among the lines of a job, line by line.
use Rattle.std.proofs.Common.{◌≡◌, ℕ, ◌+◌, ◌<◌, ◌≤◌, ◌==◌, true, false, List, [], ◌∷◌, ◌++◌, length, map, Some, None, Option, Ok, Err, option_map, unwrap_or, is_some, refl, sym, ◌∙◌, ap, subst, arith, zero-add, append-nil, Bor}
use Rattle.std.specs.List.{filter_map, slice_split}
use Rattle.ledger_job.specs.Gathered.{Seen, Stands, before_next, gathered_after, all_blocks}
use Rattle.ledger_job.specs.Gathering.{Gathers, Offends}
use Rattle.ledger_job.specs.Lines.{line_of, lines_of}
use Rattle.ledger_job.specs.Parts.{parts_left, bytes_left}
use Rattle.ledger_job.specs.Places.{fits, lacks_target}
use Rattle.ledger_job.specs.Jobs.{section_after, has_limits, has_target, before_line, first_offence, read_lines, job_from, job_or_offence, job_of, blocks_of, default_limits}
use Rattle.ledger_job.specs.declared.job.Job.{Job}
use Rattle.ledger_job.specs.declared.kind.JobKind.{JobKind}
use Rattle.ledger_job.specs.declared.line.Line.{Line}
use Rattle.ledger_job.specs.declared.place.Section.TheVariants.{Opening}
use Rattle.ledger_job.proofs.Behind.{stands_after, blocks_done}

-- a place that lies i lines further on
abbrev pub moved : ℕ → Option ℕ → Option ℕ
moved i None = None
moved i (Some n) = Some (i + n)

some_push : (kept : List Line) (line : Line) (more : List (Option Line)) → map Some (kept ++ line ∷ []) ++ more ≡ map Some kept ++ (Some line ∷ more)
some_push [] line more = refl
some_push (k ∷ kept) line more = ap (λ l. Some k ∷ l) (some_push kept line more)

moved_on : (i : ℕ) (o : Option ℕ) → moved i (option_map (λ n. n + 1) o) ≡ moved (i + 1) o
moved_on i None = refl
moved_on i (Some n) = ap Some (omega arith)

moved_none : (o : Option ℕ) → moved 0 o ≡ o
moved_none None = refl
moved_none (Some n) = ap Some (zero-add n)

fitting : (kind : JobKind) (kept : List Line) (line : Line) (more : List (Option Line)) → fits (before_line kind kept) line ≡ true
    → first_offence kind kept (Some line ∷ more) ≡ option_map (λ n. n + 1) (first_offence kind (kept ++ line ∷ []) more)
unfolding first_offence
fitting kind kept line more f = rw f refl

misplaced : (kind : JobKind) (kept : List Line) (line : Line) (more : List (Option Line)) → fits (before_line kind kept) line ≡ false → first_offence kind kept (Some line ∷ more) ≡ Some 0
unfolding first_offence
misplaced kind kept line more f = rw f refl

unread : (kind : JobKind) (kept : List Line) (more : List (Option Line)) → first_offence kind kept (None ∷ more) ≡ Some 0
unfolding first_offence
unread kind kept more = refl

none_left : (kind : JobKind) (kept : List Line) → lacks_target kind (has_target kept) ≡ false → first_offence kind kept [] ≡ None
unfolding first_offence
none_left kind kept f = rw f refl

none_yet : (kind : JobKind) (kept : List Line) → lacks_target kind (has_target kept) ≡ true → first_offence kind kept [] ≡ Some 0
unfolding first_offence
none_yet kind kept f = rw f refl

-- so many lines of the text were gathered, and this is left of it
pub record Here (kind : JobKind) (text : List ℕ) (left : Option (Bor (List ℕ))) (number : ℕ) (s : Seen) : Type 0 where
  pub lines : List Line
  pub read : map Some lines ++ map line_of (parts_left 10 left) ≡ read_lines text
  pub right : first_offence kind [] (read_lines text) ≡ moved number (first_offence kind lines (map line_of (parts_left 10 left)))
  pub stands : Stands s lines
  pub counted : number + bytes_left left ≤ length text + 1

stands_nothing : Stands (record { opens = []; target = None; updates = []; limits = None; section = Opening; payments = []; rounds = []; blocks = [] }) []
unfolding section_after has_limits has_target
stands_nothing = record { section = refl; limited = refl; targeted = refl; limits = refl; opens = refl; target = refl; updates = refl; blocks = λ more. refl }

pub here_first : (kind : JobKind) (text : List ℕ) (left : Option (Bor (List ℕ))) (s : Seen) → parts_left 10 left ≡ lines_of text → bytes_left left ≤ length text + 1
    → s ≡ record { opens = []; target = None; updates = []; limits = None; section = Opening; payments = []; rounds = []; blocks = [] } → Here kind text left 0 s
here_first kind text left s e b n = record {
  lines = [];
  read = ap (map line_of) e;
  right = sym (ap (λ l. moved 0 (first_offence kind [] (map line_of l))) e ∙ moved_none (first_offence kind [] (read_lines text)));
  stands = subst (λ s. Stands s []) (sym n) stands_nothing;
  counted = omega arith;
}

-- what decides on one more line is said of the lines so far
before_is : (kind : JobKind) (s : Seen) (lines : List Line) → Stands s lines → before_next kind s ≡ before_line kind lines
before_is kind s lines h = λ i. record { kind = kind; section = h.section i; limited = h.limited i; targeted = h.targeted i; updates = ap length h.updates i }

module _ (kind : JobKind) (text : List ℕ) (rest : Bor (List ℕ)) (more : Option (Bor (List ℕ))) (bytes : List ℕ) (number : ℕ) (s : Seen) (h : Here kind text (Some rest) number s) (cut : slice_split (λ b. b == 10) rest.now ≡ bytes ∷ parts_left 10 more) where
  next_is : (o : Option Line) → line_of bytes ≡ o → map line_of (parts_left 10 (Some rest)) ≡ o ∷ map line_of (parts_left 10 more)
  next_is o e = ap (map line_of) cut ∙ ap (λ o. o ∷ map line_of (parts_left 10 more)) e

  offence_is : (o : Option Line) → line_of bytes ≡ o → first_offence kind [] (read_lines text) ≡ moved number (first_offence kind h.lines (o ∷ map line_of (parts_left 10 more)))
  offence_is o e = h.right ∙ ap (λ l. moved number (first_offence kind h.lines l)) (next_is o e)

  fits_as : (line : Line) → fits (before_next kind s) line ≡ fits (before_line kind h.lines) line
  fits_as line = ap (λ before. fits before line) (before_is kind s h.lines h.stands)

  pub here_unread : line_of bytes ≡ None → Offends kind text (number + 1)
  here_unread e = record { place = number; first = offence_is None e ∙ ap (moved number) (unread kind h.lines _) ∙ ap Some (omega arith); counted = refl }

  module _ (line : Line) (e : line_of bytes ≡ Some line) where
    pub here_misplaced : fits (before_next kind s) line ≡ false → Offends kind text (number + 1)
    here_misplaced f = record { place = number; first = offence_is (Some line) e ∙ ap (moved number) (misplaced kind h.lines line _ (sym (fits_as line) ∙ f)) ∙ ap Some (omega arith); counted = refl }

    pub here_more : (t : Seen) → fits (before_next kind s) line ≡ true → t ≡ gathered_after s line → bytes_left more < length rest.now + 1 → Here kind text more (number + 1) t
    here_more t f n b = record {
      lines = h.lines ++ line ∷ [];
      read = some_push h.lines line (map line_of (parts_left 10 more)) ∙ ap (λ l. map Some h.lines ++ l) (sym (next_is (Some line) e)) ∙ h.read;
      right = offence_is (Some line) e ∙ ap (moved number) (fitting kind h.lines line _ (sym (fits_as line) ∙ f)) ∙ moved_on number _;
      stands = subst (λ t. Stands t (h.lines ++ line ∷ [])) (sym n) (stands_after kind s h.lines line f h.stands);
      counted = let before = h.counted in omega arith;
    }

pub here_last : (kind : JobKind) (text : List ℕ) (number : ℕ) (s : Seen) → Here kind text None number s → lacks_target kind (is_some s.target) ≡ false → Gathers kind text s
here_last kind text number s h f = record {
  lines = h.lines;
  all = sym (append-nil (map Some h.lines)) ∙ h.read;
  right = h.right ∙ ap (moved number) (none_left kind h.lines (ap (lacks_target kind) (sym h.stands.targeted) ∙ f));
  stands = h.stands;
}

pub here_lacking : (kind : JobKind) (text : List ℕ) (number : ℕ) (s : Seen) → Here kind text None number s → lacks_target kind (is_some s.target) ≡ true → Offends kind text (number + 1)
here_lacking kind text number s h f = record {
  place = number;
  first = h.right ∙ ap (moved number) (none_yet kind h.lines (ap (lacks_target kind) (sym h.stands.targeted) ∙ f)) ∙ ap Some (omega arith);
  counted = refl;
}

kept_some : (kept : List Line) → filter_map (λ line. line) (map Some kept) ≡ kept
kept_some [] = refl
kept_some (k ∷ kept) = ap (λ l. k ∷ l) (kept_some kept)

job_made : (lines : List Line) (job : Job) → job.opens ≡ (job_from lines).opens → job.target ≡ (job_from lines).target → job.updates ≡ (job_from lines).updates → job.limits ≡ (job_from lines).limits → job.blocks ≡ blocks_of lines → job ≡ job_from lines
unfolding job_from
job_made lines job o t u l b = λ i. record { opens = o i; target = t i; updates = u i; limits = l i; blocks = b i }

opens_made : (s : Seen) (lines : List Line) → Stands s lines → s.opens ≡ (job_from lines).opens
unfolding job_from
opens_made s lines h = h.opens

target_made : (s : Seen) (lines : List Line) → Stands s lines → s.target ≡ (job_from lines).target
unfolding job_from
target_made s lines h = h.target

updates_made : (s : Seen) (lines : List Line) → Stands s lines → s.updates ≡ (job_from lines).updates
unfolding job_from
updates_made s lines h = h.updates

limits_made : (s : Seen) (lines : List Line) → Stands s lines → unwrap_or s.limits default_limits ≡ (job_from lines).limits
unfolding job_from
limits_made s lines h = ap (λ o. unwrap_or o default_limits) h.limits

pub job_gathered : (kind : JobKind) (text : List ℕ) (s : Seen) (job : Job) → Gathers kind text s → job.opens ≡ s.opens → job.target ≡ s.target → job.updates ≡ s.updates → job.limits ≡ unwrap_or s.limits default_limits → job.blocks ≡ all_blocks s
    → job_of kind text ≡ Ok job
unfolding job_of
job_gathered kind text s job g o t u l b =
    let made : job ≡ job_from g.lines = job_made g.lines job (o ∙ opens_made s g.lines g.stands) (t ∙ target_made s g.lines g.stands) (u ∙ updates_made s g.lines g.stands) (l ∙ limits_made s g.lines g.stands) (b ∙ blocks_done s g.lines g.stands) in
    ap (job_or_offence (filter_map (λ line. line) (read_lines text))) g.right ∙ ap (λ l. Ok (job_from (filter_map (λ line. line) l))) (sym g.all)
    ∙ ap (λ l. Ok (job_from l)) (kept_some g.lines) ∙ ap Ok (sym made)

pub job_offends : (kind : JobKind) (text : List ℕ) (n : ℕ) → Offends kind text n → job_of kind text ≡ Err n
unfolding job_of
job_offends kind text n o = ap (job_or_offence (filter_map (λ line. line) (read_lines text))) o.first ∙ ap Err (sym o.counted)
