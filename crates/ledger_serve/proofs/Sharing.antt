-- The passes of a log that is shared.
use Rattle.std.proofs.Common.{◌≡◌, ℕ, zero, suc, ◌+◌, ◌<◌, Bool, true, false, List, [], ◌∷◌, ◌++◌, length, map, Option, Some, None, refl, sym, ap, subst, ◌∙◌, arith}
use Rattle.std.specs.List.{All, range_with_len, remove}
use Rattle.std.specs.Prelude.{IfSome, slice_index_or}
use Rattle.std.proofs.lemmas.List.Elements.{All-map, All-tail}
use Rattle.std.proofs.lemmas.List.FromFn.{length-map-range_with_len, map-range_with_len_more}
use Rattle.ledger_log.specs.View.{LogView}
use Rattle.sync_shared.specs.Replies.{Belongs, Made}
use Rattle.sync_shared.specs.declared.event.Event.{Event}
use Rattle.sync_shared.specs.declared.event.Event.TheVariants.{Batch}
use Rattle.sync_shared.specs.declared.event.EventOutcome.{EventOutcome}
use Rattle.turn_lock.specs.declared.entry.Entry.{Entry}
use Rattle.turn_lock.specs.History.{calls}
use Rattle.turn_lock.specs.Passes.{Origin, PassValue, fresh}
use Rattle.ledger_serve.specs.Growing.{turns, Appended, Grown, SetsAside, batch_for}
use Rattle.ledger_serve.specs.declared.growing.Growth.{Growth}

module _ {Op : Type 0} (floor_of : Op → Option ℕ) (opening : LogView Op) where
  -- a batch that made an entry is one call more of its pass
  pub made_appended : (p q : PassValue (LogView Op) (Event Op) EventOutcome) (before : List (Entry (Event Op) EventOutcome)) (ops : List Op) (outcome : EventOutcome) → Made floor_of opening p q before (Batch ops) outcome → Appended ops p q
  made_appended p q before ops outcome made = record {
    from = ap (λ (p : PassValue (LogView Op) (Event Op) EventOutcome). p.from) made.pass;
    between = ap (λ (p : PassValue (LogView Op) (Event Op) EventOutcome). p.within) made.pass;
    used = ap (λ (p : PassValue (LogView Op) (Event Op) EventOutcome). p.used) made.pass;
    turns = ap (λ (p : PassValue (LogView Op) (Event Op) EventOutcome). p.turns) made.pass;
    own = ap (λ (p : PassValue (LogView Op) (Event Op) EventOutcome). calls p.caller p.seen) made.pass ∙ made.own;
  }

module _ {Op : Type 0} (floor_of : Op → Option ℕ) (commit_of : Option (List ℕ) → ℕ → Op) (write : List ℕ → List ℕ → Op) (commit : ℕ → ℕ → Bool → Op) (from : Origin (LogView Op)) (growth : Growth) where
  -- and one batch more
  pub grown_more : (n : ℕ) (p q : PassValue (LogView Op) (Event Op) EventOutcome) (ops : List Op) → Grown floor_of commit_of write commit from growth n p → Appended ops p q → Batch ops ≡ batch_for floor_of commit_of write commit growth n
      → Grown floor_of commit_of write commit from growth (n + 1) q
  grown_more n p q ops g a e = record {
    belongs = (a.from ∙ g.belongs.0, a.between);
    used = a.used ∙ ap (λ (k : ℕ). k + 1) g.used;
    turns = a.turns ∙ g.turns;
    own =
        a.own ∙ ap (λ (es : List (Event Op)). es ++ Batch ops ∷ []) g.own ∙ ap (λ (b : Event Op). map (batch_for floor_of commit_of write commit growth) (range_with_len 0 n) ++ b ∷ []) e
        ∙ sym (map-range_with_len_more (batch_for floor_of commit_of write commit growth) 0 n n (omega arith));
  }

  -- a pass without a call has none yet
  pub grown_none : (caller : ℕ) → Grown floor_of commit_of write commit from growth 0 (fresh from turns caller)
  grown_none caller = record { belongs = (refl, refl); used = refl; turns = refl; own = refl }

module _ {Op : Type 0} (from : Origin (LogView Op)) where
  abbrev Passes : Type 0
  Passes = List (PassValue (LogView Op) (Event Op) EventOutcome)

  all_fresh : (callers : List ℕ) → All (Belongs from) (map (fresh from turns) callers)
  all_fresh callers = All-map (Belongs from) (fresh from turns) callers (λ k d h. (refl, refl))

  -- passes as they are made
  abbrev pub IsNew : ℕ → Passes → Type 0
  IsNew count passes = passes ≡ map (fresh from turns) (range_with_len 0 count)

  new_belong : (count : ℕ) (passes : Passes) → IsNew count passes → All (Belongs from) passes
  new_belong count passes e = subst (All (Belongs from)) (sym e) (all_fresh (range_with_len 0 count))

  -- there are some
  pub new_some : (count : ℕ) (passes : Passes) → IsNew count passes → 0 < count → 0 < length passes
  new_some count passes e l = subst (λ (n : ℕ). 0 < n) (sym (ap length e ∙ length-map-range_with_len (fresh {E = Event Op} {A = EventOutcome} from turns) 0 count)) l

  -- those that are left for sessions are of the lock
  pub left_belong : (grows : Bool) (count : ℕ) (before now : Passes) (own : Option (PassValue (LogView Op) (Event Op) EventOutcome)) → IsNew count before → SetsAside grows before own now → All (Belongs from) now
  left_belong true count before now (Some first) e s = All-tail (Belongs from) first now (subst (All (Belongs from)) s (new_belong count before e))
  left_belong true count before now None e s = absurd s
  left_belong false count before now own e s = subst (All (Belongs from)) (sym s.1) (new_belong count before e)

  -- one a connection
  pub left_count : (grows : Bool) (count more : ℕ) (before now : Passes) (own : Option (PassValue (LogView Op) (Event Op) EventOutcome)) → (grows ≡ true → more ≡ count + 1) → (grows ≡ false → more ≡ count) → IsNew more before → SetsAside grows before own now → length now ≡ count
  left_count true count more before now (Some first) t f e s = omega (arith, ap length s, ap length e, length-map-range_with_len (fresh {E = Event Op} {A = EventOutcome} from turns) 0 more, t refl)
  left_count true count more before now None t f e s = absurd s
  left_count false count more before now own t f e s = ap length s.1 ∙ ap length e ∙ length-map-range_with_len (fresh {E = Event Op} {A = EventOutcome} from turns) 0 more ∙ f refl

first_of : {P : Type 0} (x y : P) (xs ys : List P) → x ∷ xs ≡ y ∷ ys → x ≡ y
first_of x y xs ys e = cc

-- the pass that was set aside has no call yet
pub own_grown : {Op : Type 0} (floor_of : Op → Option ℕ) (commit_of : Option (List ℕ) → ℕ → Op) (write : List ℕ → List ℕ → Op) (commit : ℕ → ℕ → Bool → Op) (from : Origin (LogView Op)) (growth : Growth) (grows : Bool) (count : ℕ)
    (before now : List (PassValue (LogView Op) (Event Op) EventOutcome)) (own : Option (PassValue (LogView Op) (Event Op) EventOutcome)) → IsNew from count before → SetsAside grows before own now → IfSome own (Grown floor_of commit_of write commit from growth 0)
own_grown floor_of commit_of write commit from growth true zero before now (Some first) e s = absurd (omega (arith, ap length s, ap length e))
own_grown floor_of commit_of write commit from growth true (suc count) before now (Some first) e s =
    subst (Grown floor_of commit_of write commit from growth 0) (sym (first_of first (fresh from turns 0) now (map (fresh from turns) (range_with_len 1 count)) (sym s ∙ e))) (grown_none floor_of commit_of write commit from growth 0)
own_grown floor_of commit_of write commit from growth true count before now None e s = tt
own_grown floor_of commit_of write commit from growth false count before now own e s = subst (λ o. IfSome o (Grown floor_of commit_of write commit from growth 0)) (sym s.0) tt

-- the first of some passes, and those that are left
pub taken_first : {P : Type 0} (before now : List P) (first : P) → 0 < length before → first ≡ slice_index_or before 0 first → now ≡ remove before 0 → before ≡ first ∷ now
taken_first [] now first l e h = absurd (omega arith)
taken_first (x ∷ xs) now first l e h = sym (ap (λ p. p ∷ now) e ∙ ap (λ ps. x ∷ ps) h)
