-- When the delayed participants are started, said of more.
use Rattle.std.proofs.Common.{◌≡◌, ◌≢◌, ◌+◌, ◌-◌, ◌||◌, ◌++◌, ℕ, Bool, true, false, All, Contains, List, [], ◌∷◌, IfOk, IfSome, MatchOption, OnOk, Option, Some, None, Result, Ok, Err, ◌≤◌, drop, get_or, length, option_map, subst, take, unwrap_or, refl, sym, ap, ◌∙◌, arith, length-append}
use Rattle.std.specs.List.{list_any}
use Rattle.std.specs.Ordering.{is_ge}
use Rattle.std.specs.declared.cmp.Ordering.{Ordering}
use Rattle.std.specs.declared.cmp.Ordering.TheVariants.{Equal, Greater, Less}
use Rattle.std.specs.Cmp.{IsTotalOrder}
use Rattle.std.proofs.lemmas.Cmp.{nat_cmp_total, on_total, then_total}
use Rattle.std.proofs.lemmas.List.Folds.{list_any_at, list_any_none}
use Rattle.std.proofs.lemmas.List.{append_assoc, take-append-le}
use Rattle.std.proofs.Math.Seq.{drop-append_seam, drop-length, take-nil}
use Rattle.simulate_parts.specs.Tracker.{round_cmp, tracker_of}
use Rattle.simulate_parts.specs.declared.peer.Peer.{Peer}
use Rattle.simulate_parts.specs.declared.peer.Round.{Round}
use Rattle.simulate_parts.specs.declared.schedule.Crash.{Crash}
use Rattle.simulate_parts.specs.declared.tracker.FinalizationUpdate.{FinalizationUpdate}
use Rattle.ledger_simulate.specs.Delays.{Launches, reaches, started_after, started_by, starts, target_at}
use Rattle.ledger_simulate.specs.Opening.{starts as first_starts}
use Rattle.ledger_simulate.specs.Plans.{target_count}
use Rattle.ledger_simulate.specs.Queue.{AgendaView}
use Rattle.ledger_simulate.specs.declared.event.Event.{Event}
use Rattle.ledger_simulate.specs.declared.event.Event.TheVariants.{Started}
use Rattle.ledger_simulate.specs.declared.reports.Reached.{Reached}

-- as many of these as the first list has
front : (xs ys : List FinalizationUpdate) (n : ℕ) → n ≡ length xs → take n (xs ++ ys) ≡ xs
front [] ys n is = ap (λ k. take k ys) is
front (x ∷ xs) ys n is = ap (λ k. take k (x ∷ (xs ++ ys))) is ∙ ap (λ zs. x ∷ zs) (front xs ys (length xs) refl)

-- all but the last of these
pub all_but_last : (done : List FinalizationUpdate) (u : FinalizationUpdate) → take (length (done ++ u ∷ []) - 1) (done ++ u ∷ []) ≡ done
all_but_last done u =
    let long : length (done ++ u ∷ []) ≡ length done + 1 = length-append done (u ∷ []) in
    front done (u ∷ []) (length (done ++ u ∷ []) - 1) (omega arith)

-- rounds are in order
ordered_rounds : IsTotalOrder round_cmp
ordered_rounds = then_total (on_total (λ (r : Round). r.epoch) nat_cmp_total) (on_total (λ (r : Round). r.view) nat_cmp_total)

is_before : (o : Ordering) → is_ge o ≡ false → o ≡ Less
is_before Less is = refl
is_before Equal is = absurd (cc)
is_before Greater is = absurd (cc)

-- a round that isn't behind one before the third is before the third
below : (q r due : Round) → round_cmp q r ≢ Greater → is_ge (round_cmp r due) ≡ false → is_ge (round_cmp q due) ≡ false
below q r due upto before = ap is_ge (by (round_cmp q r) refl)
  where
    by : (o : Ordering) → round_cmp q r ≡ o → round_cmp q due ≡ Less
    by Less is = ordered_rounds.trans q r due is (is_before (round_cmp r due) before)
    by Equal is = ordered_rounds.congr q r due is ∙ is_before (round_cmp r due) before
    by Greater is = absurd (upto is)

-- a round of these reaches one that is due where the greatest does
pub any_reached : (due : Option Round) (rounds : List Round) (top : Option Round) → MatchOption top (rounds ≡ []) (λ r. Contains rounds r × All (λ q. round_cmp q r ≢ Greater) rounds) → list_any (reaches due) rounds ≡ unwrap_or (option_map (reaches due) top) false
any_reached due rounds None none = ap (list_any (reaches due)) none
any_reached None rounds (Some r) top = list_any_none (reaches None) rounds (λ k d l. refl)
any_reached (Some due) rounds (Some r) top = by (is_ge (round_cmp r due)) refl
  where
    by : (b : Bool) → is_ge (round_cmp r due) ≡ b → list_any (reaches (Some due)) rounds ≡ is_ge (round_cmp r due)
    by true is = list_any_at (reaches (Some due)) rounds top.0.0 r top.0.1 (ap (reaches (Some due)) top.0.2 ∙ is) ∙ sym is
    by false is =
        list_any_none (reaches (Some due)) rounds
        (λ k d l. below (get_or rounds k d) r due (top.1 k d l) is)
        ∙ sym is

-- a fact of a value that is there
pub some_map : {X : Type 0} {P Q : X → Type 0} (o : Option X) → ((x : X) → P x → Q x) → IfSome o P → IfSome o Q
some_map None f h = tt
some_map (Some x) f h = f x h

-- a fact of this value
pub some_is : {X : Type 0} (P : X → Type 0) (o : Option X) (x : X) → o ≡ Some x → IfSome o P → P x
some_is P o x is h = subst (λ p. IfSome p P) is h

-- a fact of an answer that is Ok, beside another one
pub if_ok_with : {A E X : Type 0} {P Q : A → Type 0} (r : Result A E) → (X → (a : A) → P a → Q a) → OnOk r X → IfOk r P → IfOk r Q
if_ok_with (Ok a) f x h = f x a h
if_ok_with (Err e) f x h = tt

-- a fact of every value
pub if_ok_any : {A E : Type 0} {Q : A → Type 0} (r : Result A E) → ((a : A) → Q a) → IfOk r Q
if_ok_any (Ok a) f = f a
if_ok_any (Err e) f = tt

-- a fact of every value, where another answer was Ok
pub if_ok_of : {A B E F X : Type 0} {Q : A → Type 0} (r : Result A E) (done : Result B F) (b : B) → (X → (a : A) → Q a) → OnOk r (done ≡ Ok b) → OnOk done X → IfOk r Q
if_ok_of {X} (Ok a) done b f same fact = f (subst (λ d. OnOk d X) same fact) a
if_ok_of (Err e) done b f same fact = tt

-- the same of two facts
pub if_ok_of_both : {A B E F X Y : Type 0} {Q : A → Type 0} (r : Result A E) (done : Result B F) (b : B) → (X → Y → (a : A) → Q a) → OnOk r (done ≡ Ok b) → OnOk done X → OnOk done Y → IfOk r Q
if_ok_of_both {X} {Y} (Ok a) done b f same first second = f (subst (λ d. OnOk d X) same first) (subst (λ d. OnOk d Y) same second) a
if_ok_of_both (Err e) done b f same first second = tt

-- what follows from a fact of the value that may be there
pub if_ok_some_map : {A E : Type 0} {P Q : A → Type 0} (r : Result (Option A) E) → ((a : A) → P a → Q a) → IfOk r (λ o. IfSome o P) → IfOk r (λ o. IfSome o Q)
if_ok_some_map (Ok o) f h = some_map o f h
if_ok_some_map (Err e) f h = tt

-- the same of two facts
pub if_ok_some_both : {A E : Type 0} {P Q R : A → Type 0} (r : Result (Option A) E) → ((a : A) → P a → Q a → R a) → IfOk r (λ o. IfSome o P) → IfOk r (λ o. IfSome o Q) → IfOk r (λ o. IfSome o R)
if_ok_some_both (Ok None) f p q = tt
if_ok_some_both (Ok (Some a)) f p q = f a p q
if_ok_some_both (Err e) f p q = tt

-- a fact of a value that isn't there
pub if_ok_no : {A E : Type 0} (P : A → Type 0) (r : Result (Option A) E) → IfOk r (λ o. o ≡ None) → IfOk r (λ o. IfSome o P)
if_ok_no P (Ok o) none = subst (λ x. IfSome x P) (sym none) tt
if_ok_no P (Err e) none = tt

-- one participant more is started
pub starts_more : (start : List (ℕ × Event)) (all left rest : List Peer) (now new : AgendaView) (pk : Peer) → now.events ++ first_starts left ≡ start ++ first_starts all → left ≡ pk ∷ rest → new ≡ record now { events = now.events ++ (0, Started pk) ∷ [] } → new.events ++ first_starts rest ≡ start ++ first_starts all
starts_more start all left rest now new pk so_far first made =
    ap (λ (a : AgendaView). a.events ++ first_starts rest) made
    ∙ append_assoc now.events ((0, Started pk) ∷ []) (first_starts rest)
    ∙ ap (λ ps. now.events ++ first_starts ps) (sym first)
    ∙ so_far

module _ (participants : List Peer) (crashes : List Crash) where
  -- nobody is started where nothing changes
  pub launches_none : (b : Bool) → Launches participants crashes b b []
  launches_none true = refl
  launches_none false = refl

  -- one report more
  pub started_more : (before done : List FinalizationUpdate) (started : Bool) (u : FinalizationUpdate) → started_after participants crashes before started (done ++ u ∷ []) ≡ (started_after participants crashes before started done || starts participants crashes (tracker_of (before ++ (done ++ u ∷ []))))
  started_more before [] started u = refl
  started_more before (x ∷ xs) started u =
      started_more (before ++ x ∷ []) xs (started || starts participants crashes (tracker_of (before ++ x ∷ []))) u
      ∙ ap (λ us. started_after participants crashes (before ++ x ∷ []) (started || starts participants crashes (tracker_of (before ++ x ∷ []))) xs || starts participants crashes (tracker_of us)) (append_assoc before (x ∷ []) (xs ++ u ∷ []))

  -- one report more, once the exit condition may have been met
  pub started_step : (before done now_reports new_reports : List FinalizationUpdate) (started now new : Bool) (prior next : Option Reached) (u : FinalizationUpdate) → now_reports ≡ before ++ done → new_reports ≡ now_reports ++ u ∷ [] → now ≡ started_by participants crashes before started done prior → IfSome prior (λ r. r.count ≤ length now_reports) → (next ≡ None → (prior ≡ None) × (new ≡ (now || starts participants crashes (tracker_of new_reports)))) → IfSome next (λ r. (new ≡ now) × MatchOption prior (r.count ≡ length new_reports) (λ q. r.count ≡ q.count)) → new ≡ started_by participants crashes before started (done ++ u ∷ []) next
  started_step before done now_reports new_reports started now new prior None u since grown is within none met =
      let p = none refl in
      p.1
      ∙ ap (λ b. b || starts participants crashes (tracker_of new_reports)) (is ∙ ap (started_by participants crashes before started done) p.0)
      ∙ ap (λ us. started_after participants crashes before started done || starts participants crashes (tracker_of us)) (grown ∙ ap (λ us. us ++ u ∷ []) since ∙ append_assoc before done (u ∷ []))
      ∙ sym (started_more before done started u)
  started_step before done now_reports new_reports started now new None (Some r) u since grown is within none met =
      let all : length now_reports ≡ length before + length done = ap length since ∙ length-append before done in
      let long : length new_reports ≡ length now_reports + 1 = ap length grown ∙ length-append now_reports (u ∷ []) in
      let at : r.count ≡ length new_reports = met.1 in
      met.0 ∙ is ∙ ap (started_after participants crashes before started) (sym (front done (u ∷ []) (r.count - length before - 1) (omega arith)))
  started_step before done now_reports new_reports started now new (Some q) (Some r) u since grown is within none met =
      let all : length now_reports ≡ length before + length done = ap length since ∙ length-append before done in
      let same : r.count ≡ q.count = met.1 in
      let inside : q.count ≤ length now_reports = within in
      met.0
      ∙ is
      ∙ ap (started_after participants crashes before started)
      (sym (ap (λ n. take (n - length before - 1) (done ++ u ∷ [])) same ∙ take-append-le (q.count - length before - 1) done (u ∷ []) (omega arith)))

  -- no report is new
  pub started_rests : (before after : List FinalizationUpdate) (started now : Bool) (o : Option Reached) → after ≡ before → now ≡ started → now ≡ started_by participants crashes before started (drop (length before) after) o
  started_rests before after started now o same kept =
      let none : drop (length before) after ≡ [] = ap (drop (length before)) same ∙ drop-length before in
      kept ∙ sym (ap (λ us. started_by participants crashes before started us o) none ∙ of_none o)
    where
      of_none : (o : Option Reached) → started_by participants crashes before started [] o ≡ started
      of_none None = refl
      of_none (Some r) = ap (started_after participants crashes before started) (take-nil (r.count - length before - 1))

  -- these reports are new
  pub started_turns : (before after more : List FinalizationUpdate) (started mid now : Bool) (o : Option Reached) → after ≡ before ++ more → mid ≡ started → now ≡ started_by participants crashes before mid more o → now ≡ started_by participants crashes before started (drop (length before) after) o
  started_turns before after more started mid now o grown kept is =
      is
      ∙ ap (λ b. started_by participants crashes before b more o) kept
      ∙ ap (λ us. started_by participants crashes before started us o) (sym (ap (drop (length before)) grown ∙ drop-append_seam before more))

  -- the target at one report more
  pub target_more : (before done more : List FinalizationUpdate) (started now : Bool) (u : FinalizationUpdate) (n : ℕ) → now ≡ started_after participants crashes before started done → more ≡ u ∷ [] → n ≡ target_count participants crashes now → n ≡ target_at participants crashes before started (done ++ more)
  target_more before done more started now u n is one counts =
      counts ∙ ap (target_count participants crashes) (is ∙ ap (started_after participants crashes before started) (sym (ap (λ us. take (length (done ++ us) - 1) (done ++ us)) one ∙ all_but_last done u)))

  -- the target where no report is new
  pub target_none : (before more : List FinalizationUpdate) (started : Bool) (n : ℕ) → more ≡ [] → n ≡ target_count participants crashes started → n ≡ target_at participants crashes before started more
  target_none before more started n none counts = counts ∙ sym (ap (target_at participants crashes before started) none)
