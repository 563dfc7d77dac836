-- What the lines so far say, with one line more.
use Rattle.std.proofs.Common.{◌≡◌, Bool, true, false, ◌||◌, List, [], ◌∷◌, ◌++◌, Some, None, Option, unwrap_or, refl, sym, ◌∙◌, ap, append-nil, append_assoc}
use Rattle.std.proofs.lemmas.List.Elements.{filter_map-append}
use Rattle.std.proofs.lemmas.List.Folds.{list_any-append}
use Rattle.std.specs.List.{filter_map, last_or, list_any}
use Rattle.ledger_job.specs.Gathered.{Seen, Stands, before_next, gathered_after, blocks_from, open_block, with_round}
use Rattle.ledger_job.specs.Jobs.{begins, section_after, has_limits, is_limits, has_target, is_target, limits_in, open_in, target_in, answer_in, payments_of, rounds_of, blocks_of}
use Rattle.ledger_job.specs.Places.{fits, is_in_rounds, takes_payments}
use Rattle.ledger_job.specs.declared.kind.JobKind.{JobKind}
use Rattle.ledger_job.specs.declared.block.Block.TheVariants.{Body as BodyOf, Rounds as RoundsOf}
use Rattle.ledger_job.specs.declared.line.Line.{Line}
use Rattle.ledger_job.specs.declared.line.Line.TheVariants.{Skipped, Open, Target as TargetLine, Update, Limits, Body, Rounds, Round, Pay}
use Rattle.ledger_job.specs.declared.payment.Payment.{Payment}
use Rattle.ledger_job.specs.declared.place.Section.{Section}
use Rattle.ledger_job.specs.declared.place.Section.TheVariants.{Opening, InBody, InRounds, InRound}

-- ---- sections, limits and accounts

last_push : {B : Type 0} (o : Option B) (xs : List B) (x : B) → last_or o (xs ++ x ∷ []) ≡ Some x
last_push o [] x = refl
last_push o (y ∷ xs) x = last_push (Some y) xs x

none_more : {B : Type 0} (f : Line → Option B) (lines : List Line) (line : Line) → filter_map f (line ∷ []) ≡ [] → filter_map f (lines ++ line ∷ []) ≡ filter_map f lines
none_more f lines line e = filter_map-append f lines (line ∷ []) ∙ ap (λ l. filter_map f lines ++ l) e ∙ append-nil (filter_map f lines)

one_more : {B : Type 0} (f : Line → Option B) (lines : List Line) (line : Line) (x : B) → filter_map f (line ∷ []) ≡ x ∷ [] → filter_map f (lines ++ line ∷ []) ≡ filter_map f lines ++ x ∷ []
one_more f lines line x e = filter_map-append f lines (line ∷ []) ∙ ap (λ l. filter_map f lines ++ l) e

section_kept : (lines : List Line) (line : Line) → filter_map begins (line ∷ []) ≡ [] → section_after lines ≡ section_after (lines ++ line ∷ [])
unfolding section_after
section_kept lines line e = sym (ap (λ l. unwrap_or (last_or None l) Opening) (none_more begins lines line e))

section_begun : (lines : List Line) (line : Line) (section : Section) → filter_map begins (line ∷ []) ≡ section ∷ [] → section ≡ section_after (lines ++ line ∷ [])
unfolding section_after
section_begun lines line section e = sym (ap (λ l. unwrap_or (last_or None l) Opening) (one_more begins lines line section e) ∙ ap (λ o. unwrap_or o Opening) (last_push None (filter_map begins lines) section))

or_nothing : (a b : Bool) → b ≡ false → (a || (b || false)) ≡ a
or_nothing true b e = refl
or_nothing false b e = rw e refl

or_all : (a b : Bool) → b ≡ true → (a || (b || false)) ≡ true
or_all true b e = refl
or_all false b e = rw e refl

any_kept : (p : Line → Bool) (lines : List Line) (line : Line) → p line ≡ false → list_any p lines ≡ list_any p (lines ++ line ∷ [])
any_kept p lines line e = sym (list_any-append p lines (line ∷ []) ∙ or_nothing (list_any p lines) (p line) e)

any_set : (p : Line → Bool) (lines : List Line) (line : Line) → p line ≡ true → true ≡ list_any p (lines ++ line ∷ [])
any_set p lines line e = sym (list_any-append p lines (line ∷ []) ∙ or_all (list_any p lines) (p line) e)

limited_kept : (lines : List Line) (line : Line) → is_limits line ≡ false → has_limits lines ≡ has_limits (lines ++ line ∷ [])
unfolding has_limits
limited_kept lines line e = any_kept is_limits lines line e

limited_set : (lines : List Line) (line : Line) → is_limits line ≡ true → true ≡ has_limits (lines ++ line ∷ [])
unfolding has_limits
limited_set lines line e = any_set is_limits lines line e

targeted_kept : (lines : List Line) (line : Line) → is_target line ≡ false → has_target lines ≡ has_target (lines ++ line ∷ [])
unfolding has_target
targeted_kept lines line e = any_kept is_target lines line e

targeted_set : (lines : List Line) (line : Line) → is_target line ≡ true → true ≡ has_target (lines ++ line ∷ [])
unfolding has_target
targeted_set lines line e = any_set is_target lines line e

last_kept : {B : Type 0} (f : Line → Option B) (lines : List Line) (line : Line) → filter_map f (line ∷ []) ≡ [] → last_or None (filter_map f lines) ≡ last_or None (filter_map f (lines ++ line ∷ []))
last_kept f lines line e = sym (ap (last_or None) (none_more f lines line e))

last_set : {B : Type 0} (f : Line → Option B) (lines : List Line) (line : Line) (x : B) → filter_map f (line ∷ []) ≡ x ∷ [] → Some x ≡ last_or None (filter_map f (lines ++ line ∷ []))
last_set f lines line x e = sym (ap (last_or None) (one_more f lines line x e) ∙ last_push None (filter_map f lines) x)

-- ---- blocks

-- a line that belongs to no block passes the open one
passing : (section : Section) (rounds : List (List Payment)) (payments : List Payment) (line : Line) (more : List Line)
    → payments_of (line ∷ more) ≡ payments_of more → rounds_of (line ∷ more) ≡ rounds_of more → blocks_of (line ∷ more) ≡ blocks_of more
    → blocks_from section rounds payments (line ∷ more) ≡ blocks_from section rounds payments more
passing Opening rounds payments line more p r b = b
passing InBody rounds payments line more p r b = rw (p, b) refl
passing InRounds rounds payments line more p r b = rw (r, b) refl
passing InRound rounds payments line more p r b = rw (p, r, b) refl

-- a payment in a body or a round
paid : (section : Section) (rounds : List (List Payment)) (payments : List Payment) (payment : Payment) (more : List Line) → takes_payments section ≡ true
    → blocks_from section rounds payments (Pay payment ∷ more) ≡ blocks_from section rounds (payments ++ payment ∷ []) more
paid Opening rounds payments payment more t = absurd cc
paid InBody rounds payments payment more t = ap (λ l. BodyOf l ∷ blocks_of more) (sym (append_assoc payments (payment ∷ []) (payments_of more)))
paid InRounds rounds payments payment more t = absurd cc
paid InRound rounds payments payment more t = ap (λ l. RoundsOf (rounds ++ l ∷ rounds_of more) ∷ blocks_of more) (sym (append_assoc payments (payment ∷ []) (payments_of more)))

-- a line that begins a block ends the open one
ended : (section : Section) (rounds : List (List Payment)) (payments : List Payment) (lines : List Line) → payments_of lines ≡ [] → rounds_of lines ≡ []
    → blocks_from section rounds payments lines ≡ open_block section rounds payments ++ blocks_of lines
ended Opening rounds payments lines p r = refl
ended InBody rounds payments lines p r = ap (λ l. BodyOf l ∷ blocks_of lines) (ap (λ l. payments ++ l) p ∙ append-nil payments)
ended InRounds rounds payments lines p r = ap (λ l. RoundsOf l ∷ blocks_of lines) (ap (λ l. rounds ++ l) r ∙ append-nil rounds)
ended InRound rounds payments lines p r = ap (λ l. RoundsOf (rounds ++ l) ∷ blocks_of lines) (ap (λ l. l ∷ rounds_of lines) (ap (λ l. payments ++ l) p ∙ append-nil payments) ∙ ap (λ l. payments ∷ l) r)

-- a line that begins a round ends the open one
rounded : (section : Section) (rounds : List (List Payment)) (payments : List Payment) (more : List Line) → is_in_rounds section ≡ true
    → blocks_from section rounds payments (Round ∷ more) ≡ blocks_from InRound (with_round section rounds payments) [] more
rounded Opening rounds payments more t = absurd cc
rounded InBody rounds payments more t = absurd cc
rounded InRounds rounds payments more t = refl
rounded InRound rounds payments more t =
    ap (λ l. RoundsOf (rounds ++ l ∷ payments_of more ∷ rounds_of more) ∷ blocks_of more) (append-nil payments)
    ∙ ap (λ l. RoundsOf l ∷ blocks_of more) (sym (append_assoc rounds (payments ∷ []) (payments_of more ∷ rounds_of more)))

-- the blocks of lines behind which one more stands
behind : (s : Seen) (lines : List Line) (line : Line) → Stands s lines → (more : List Line) → blocks_of ((lines ++ line ∷ []) ++ more) ≡ s.blocks ++ blocks_from s.section s.rounds s.payments (line ∷ more)
behind s lines line h more = ap blocks_of (append_assoc lines (line ∷ []) more) ∙ h.blocks (line ∷ more)

-- a block is begun
begun : (s : Seen) (more : List Line) → payments_of more ≡ [] → rounds_of more ≡ [] → s.blocks ++ blocks_from s.section s.rounds s.payments more ≡ (s.blocks ++ open_block s.section s.rounds s.payments) ++ blocks_of more
begun s more p r = ap (λ l. s.blocks ++ l) (ended s.section s.rounds s.payments more p r) ∙ sym (append_assoc s.blocks (open_block s.section s.rounds s.payments) (blocks_of more))

-- ---- one line more

pub stands_after : (kind : JobKind) (s : Seen) (lines : List Line) (line : Line) → fits (before_next kind s) line ≡ true → Stands s lines → Stands (gathered_after s line) (lines ++ line ∷ [])
stands_after kind s lines Skipped f h = record {
  section = h.section ∙ section_kept lines Skipped refl;
  limited = h.limited ∙ limited_kept lines Skipped refl;
  targeted = h.targeted ∙ targeted_kept lines Skipped refl;
  limits = h.limits ∙ last_kept limits_in lines Skipped refl;
  opens = h.opens ∙ sym (none_more open_in lines Skipped refl);
  target = h.target ∙ last_kept target_in lines Skipped refl;
  updates = h.updates ∙ sym (none_more answer_in lines Skipped refl);
  blocks = λ more. behind s lines Skipped h more ∙ ap (λ l. s.blocks ++ l) (passing s.section s.rounds s.payments Skipped more refl refl refl);
}
stands_after kind s lines (Open account) f h = record {
  section = h.section ∙ section_kept lines (Open account) refl;
  limited = h.limited ∙ limited_kept lines (Open account) refl;
  targeted = h.targeted ∙ targeted_kept lines (Open account) refl;
  limits = h.limits ∙ last_kept limits_in lines (Open account) refl;
  opens = ap (λ l. l ++ account ∷ []) h.opens ∙ sym (one_more open_in lines (Open account) account refl);
  target = h.target ∙ last_kept target_in lines (Open account) refl;
  updates = h.updates ∙ sym (none_more answer_in lines (Open account) refl);
  blocks = λ more. behind s lines (Open account) h more ∙ ap (λ l. s.blocks ++ l) (passing s.section s.rounds s.payments (Open account) more refl refl refl);
}
stands_after kind s lines (TargetLine target) f h = record {
  section = h.section ∙ section_kept lines (TargetLine target) refl;
  limited = h.limited ∙ limited_kept lines (TargetLine target) refl;
  targeted = targeted_set lines (TargetLine target) refl;
  limits = h.limits ∙ last_kept limits_in lines (TargetLine target) refl;
  opens = h.opens ∙ sym (none_more open_in lines (TargetLine target) refl);
  target = last_set target_in lines (TargetLine target) target refl;
  updates = h.updates ∙ sym (none_more answer_in lines (TargetLine target) refl);
  blocks = λ more. behind s lines (TargetLine target) h more ∙ ap (λ l. s.blocks ++ l) (passing s.section s.rounds s.payments (TargetLine target) more refl refl refl);
}
stands_after kind s lines (Update target) f h = record {
  section = h.section ∙ section_kept lines (Update target) refl;
  limited = h.limited ∙ limited_kept lines (Update target) refl;
  targeted = h.targeted ∙ targeted_kept lines (Update target) refl;
  limits = h.limits ∙ last_kept limits_in lines (Update target) refl;
  opens = h.opens ∙ sym (none_more open_in lines (Update target) refl);
  target = h.target ∙ last_kept target_in lines (Update target) refl;
  updates = ap (λ l. l ++ Some target ∷ []) h.updates ∙ sym (one_more answer_in lines (Update target) (Some target) refl);
  blocks = λ more. behind s lines (Update target) h more ∙ ap (λ l. s.blocks ++ l) (passing s.section s.rounds s.payments (Update target) more refl refl refl);
}
stands_after kind s lines (Limits limits) f h = record {
  section = h.section ∙ section_kept lines (Limits limits) refl;
  limited = limited_set lines (Limits limits) refl;
  targeted = h.targeted ∙ targeted_kept lines (Limits limits) refl;
  limits = last_set limits_in lines (Limits limits) limits refl;
  opens = h.opens ∙ sym (none_more open_in lines (Limits limits) refl);
  target = h.target ∙ last_kept target_in lines (Limits limits) refl;
  updates = h.updates ∙ sym (none_more answer_in lines (Limits limits) refl);
  blocks = λ more. behind s lines (Limits limits) h more ∙ ap (λ l. s.blocks ++ l) (passing s.section s.rounds s.payments (Limits limits) more refl refl refl);
}
stands_after kind s lines (Pay payment) f h = record {
  section = h.section ∙ section_kept lines (Pay payment) refl;
  limited = h.limited ∙ limited_kept lines (Pay payment) refl;
  targeted = h.targeted ∙ targeted_kept lines (Pay payment) refl;
  limits = h.limits ∙ last_kept limits_in lines (Pay payment) refl;
  opens = h.opens ∙ sym (none_more open_in lines (Pay payment) refl);
  target = h.target ∙ last_kept target_in lines (Pay payment) refl;
  updates = h.updates ∙ sym (none_more answer_in lines (Pay payment) refl);
  blocks = λ more. behind s lines (Pay payment) h more ∙ ap (λ l. s.blocks ++ l) (paid s.section s.rounds s.payments payment more f);
}
stands_after kind s lines Body f h = record {
  section = section_begun lines Body InBody refl;
  limited = h.limited ∙ limited_kept lines Body refl;
  targeted = h.targeted ∙ targeted_kept lines Body refl;
  limits = h.limits ∙ last_kept limits_in lines Body refl;
  opens = h.opens ∙ sym (none_more open_in lines Body refl);
  target = h.target ∙ last_kept target_in lines Body refl;
  updates = h.updates ∙ sym (none_more answer_in lines Body refl);
  blocks = λ more. behind s lines Body h more ∙ begun s (Body ∷ more) refl refl;
}
stands_after kind s lines Rounds f h = record {
  section = section_begun lines Rounds InRounds refl;
  limited = h.limited ∙ limited_kept lines Rounds refl;
  targeted = h.targeted ∙ targeted_kept lines Rounds refl;
  limits = h.limits ∙ last_kept limits_in lines Rounds refl;
  opens = h.opens ∙ sym (none_more open_in lines Rounds refl);
  target = h.target ∙ last_kept target_in lines Rounds refl;
  updates = h.updates ∙ sym (none_more answer_in lines Rounds refl);
  blocks = λ more. behind s lines Rounds h more ∙ begun s (Rounds ∷ more) refl refl;
}
stands_after kind s lines Round f h = record {
  section = section_begun lines Round InRound refl;
  limited = h.limited ∙ limited_kept lines Round refl;
  targeted = h.targeted ∙ targeted_kept lines Round refl;
  limits = h.limits ∙ last_kept limits_in lines Round refl;
  opens = h.opens ∙ sym (none_more open_in lines Round refl);
  target = h.target ∙ last_kept target_in lines Round refl;
  updates = h.updates ∙ sym (none_more answer_in lines Round refl);
  blocks = λ more. behind s lines Round h more ∙ ap (λ l. s.blocks ++ l) (rounded s.section s.rounds s.payments more f);
}

-- all blocks of the lines so far
pub blocks_done : (s : Seen) (lines : List Line) → Stands s lines → s.blocks ++ open_block s.section s.rounds s.payments ≡ blocks_of lines
blocks_done s lines h = sym (ap blocks_of (sym (append-nil lines)) ∙ h.blocks [] ∙ begun s [] refl refl ∙ append-nil (s.blocks ++ open_block s.section s.rounds s.payments))
