-- From what a seat says of a turn to what its pass says.
use Rattle.std.proofs.Common.{◌≡◌, ◌⊎◌, ℕ, ◌+◌, List, [], ◌∷◌, ◌++◌, length, Option, Some, None, Bool, true, false, cond, leb, get_or, refl, sym, ap, ◌∙◌, subst, ⊎_elim, inl, inr, append-nil, append_assoc, map, ◌<◌, arith}
use Rattle.std.proofs.lemmas.List.{map-append}
use Rattle.std.proofs.lemmas.List.Elements.{All-nil, All-cons, All-append}
use native.Mathlib.Decide.{dec_lt}
use Rattle.std.specs.List.{All}
use Rattle.atomic_table.specs.Table.{Me}
use Rattle.atomic_table.specs.declared.shared.Seat.{Seat}
use Rattle.turn_lock.specs.declared.entry.Entry.{Entry}
use Rattle.turn_lock.specs.declared.held.Held.{Held}
use Rattle.turn_lock.specs.declared.rule.Key.{Key}
use Rattle.turn_lock.specs.declared.rule.View.{View}
use Rattle.turn_lock.specs.declared.rule.Stage.{Stage}
use Rattle.turn_lock.specs.declared.rule.Stage.TheVariants.{Idle, Waits, Holds}
use Rattle.turn_lock.specs.History.{value_after, Legal, calls, IsBeginning}
use Rattle.turn_lock.specs.Rule.{filled, longer, Told, StandsFor, recount}
use Rattle.turn_lock.specs.Turns.{IsSame, IsIdle, waiting, Took, Placed, Leaves, Joined, Left}
use Rattle.turn_lock.specs.Passes.{PassValue, is_holding, added, having_seen, Takes, IsTurn, Gives, Meets, call_of, Present, Closes}
use Rattle.turn_lock.specs.Seated.{Carries, pass_value, IsPass, Gathers}
use Rattle.turn_lock.proofs.Histories.{filled-append, legal_snoc, filled_begins}

-- ---- a seat between two turns, and one within

module _ {V E A : Type 0} where
  -- a pass that is not in a turn has an idle seat
  pub is_idle : (s : Stage) (carried : List (ℕ × Option (Held V E A))) → Carries s carried → is_holding s ≡ false → (s ≡ Idle) × (carried ≡ [])
  is_idle Idle carried c between = (refl, c)
  is_idle (Waits t) carried c between = absurd c
  is_idle (Holds t) carried c between = absurd (cc)

  -- a pass in a turn has a seat that holds the slot
  pub is_held : (s : Stage) (carried : List (ℕ × Option (Held V E A))) → Carries s carried → is_holding s ≡ true → (t : ℕ) × (s ≡ Holds t) × (carried ≡ (0, None) ∷ [])
  is_held Idle carried c within = absurd (cc)
  is_held (Waits t) carried c within = absurd c
  is_held (Holds t) carried c within = (t, refl, c)

module _ {E A : Type 0} where
  longer_either : (xs ys : List (Option (Entry E A))) → (longer xs ys ≡ xs) ⊎ (longer xs ys ≡ ys)
  longer_either xs ys = by_case (leb (length ys) (length xs))
    where
      by_case : (b : Bool) → (cond b xs ys ≡ xs) ⊎ (cond b xs ys ≡ ys)
      by_case true = inl refl
      by_case false = inr refl

  beginning_same : (xs : List (Entry E A)) → IsBeginning xs xs
  beginning_same xs = ([], sym (append-nil xs))

  beginning_then : (xs ys zs : List (Entry E A)) → IsBeginning xs ys → IsBeginning ys zs → IsBeginning xs zs
  beginning_then xs ys zs p q = (p.0 ++ q.0, q.1 ∙ ap (λ l. l ++ q.0) p.1 ∙ append_assoc xs p.0 q.0)

module _ {V E A : Type 0} (after : V → E → A → V) (Answers : V → E → A → Type 0) where
  -- ---- a turn begins

  -- what the pass is to contracts then
  pub takes : (a b : Seat (Option (Held V E A)) (View V E A)) (o : V) (c used turns t : ℕ) (y : Held V E A) → IsPass after Answers a c used turns → a.me.0.opening ≡ Some o → IsSame a b → Took after Answers (waiting a.me.0 t) t b.me y
      → Takes after Answers o (pass_value a c used turns) (pass_value b c (used + 1) turns) y
  takes a b o c used turns t y pass opens same took =
      let m = ap (λ (x : Me (Option (Held V E A)) (View V E A)). x.0) took.1 in
      let seen : filled b.me.0.places ≡ y.history.items = ap (λ (v : View V E A). filled v.places) m ∙ sym took.3 in
      let within : is_holding b.me.0.stage ≡ true = ap (λ (v : View V E A). is_holding v.stage) m in
      let begins = filled_begins a.me.0.places took.0 took.2 in
      let value = took.4 o opens in
      let opening : b.me.0.opening ≡ a.me.0.opening = ap (λ (v : View V E A). v.opening) m in
      record {
        pass = λ i. record { from = record { table = same.0 i; opening = opening i }; caller = c; seen = seen i; used = used + 1; turns = turns; within = within i };
        begins = (begins.0, took.3 ∙ begins.1);
        legal = subst (Legal after Answers o) (sym took.3) value.1;
        value = value.0 ∙ ap (value_after after o) (sym took.3);
        own = ap (calls c) took.3 ∙ sym (subst (Told (filled took.0)) pass.mine took.5).0;
      }

  -- ---- a turn ends

  -- what is given back fits a place of the seat
  pub placed : (a : Seat (Option (Held V E A)) (View V E A)) (o : V) (c used turns : ℕ) (y : Held V E A) → IsPass after Answers a c used turns → a.me.0.opening ≡ Some o → Gives after Answers o (pass_value a c used turns) y → Placed after Answers a.me.0 y
  placed a o c used turns y pass opens given = by_case given.place given.turn given.history
    where
      stands : (k : ℕ) → k ≡ c → StandsFor k a.me.0.mine
      stands k is = subst (StandsFor k) (sym pass.mine) (inl (sym is))

      by_case : (place : Option (Entry E A)) → IsTurn after Answers (value_after after o (filled a.me.0.places)) c place → y.history.items ≡ filled a.me.0.places ++ added place → Placed after Answers a.me.0 y
      by_case None turn history =
          let all : y.history.items ≡ filled (a.me.0.places ++ None ∷ []) = history ∙ sym (filled-append a.me.0.places (None ∷ [])) in (o, None, opens, tt, all, given.value ∙ ap (value_after after o) all)
      by_case (Some e) turn history =
          let all : y.history.items ≡ filled (a.me.0.places ++ Some e ∷ []) = history ∙ sym (filled-append a.me.0.places (Some e ∷ [])) in
          (o, Some e, opens, (turn.1, stands e.caller turn.0), all, given.value ∙ ap (value_after after o) all)

  -- the history that is given back is legal
  pub given_legal : (o : V) (c : ℕ) (seen h : List (Entry E A)) (place : Option (Entry E A)) → Legal after Answers o seen → IsTurn after Answers (value_after after o seen) c place → h ≡ seen ++ added place → Legal after Answers o h
  given_legal o c seen h None legal turn is = subst (Legal after Answers o) (sym (is ∙ append-nil seen)) legal
  given_legal o c seen h (Some e) legal turn is = subst (Legal after Answers o) (sym is) (legal_snoc after Answers o seen e legal turn.1)

  -- what the pass is to contracts then
  pub gives_back : (a b : Seat (Option (Held V E A)) (View V E A)) (c used turns : ℕ) (y : Held V E A) → IsSame a b → Leaves a.me.0 y b.me → pass_value b c used turns ≡ having_seen (pass_value a c used turns) y.history.items
  gives_back a b c used turns y same left =
      let m = ap (λ (x : Me (Option (Held V E A)) (View V E A)). x.0) left.1 in
      let seen : filled b.me.0.places ≡ y.history.items = ap (λ (v : View V E A). filled v.places) m ∙ sym left.2 in
      let between : is_holding b.me.0.stage ≡ false = ap (λ (v : View V E A). is_holding v.stage) m in
      let opening : b.me.0.opening ≡ a.me.0.opening = ap (λ (v : View V E A). v.opening) m in
      λ i. record { from = record { table = same.0 i; opening = opening i }; caller = c; seen = seen i; used = used; turns = turns; within = between i }

  -- and its seat is that of a pass
  pub given_back : (a b : Seat (Option (Held V E A)) (View V E A)) (o : V) (c used turns : ℕ) (y : Held V E A) → IsPass after Answers a c used turns → a.me.0.opening ≡ Some o → Gives after Answers o (pass_value a c used turns) y → Leaves a.me.0 y b.me
      → IsPass after Answers b c used turns
  given_back a b o c used turns y pass opens given left =
      let m = ap (λ (x : Me (Option (Held V E A)) (View V E A)). x.0) left.1 in
      let seen : filled b.me.0.places ≡ y.history.items = ap (λ (v : View V E A). filled v.places) m ∙ sym left.2 in
      let spent : b.me.0.budget ≡ a.me.0.budget = ap (λ (v : View V E A). v.budget) m in
      let opening : b.me.0.opening ≡ a.me.0.opening = ap (λ (v : View V E A). v.opening) m in
      let all : Legal after Answers o (filled b.me.0.places) = subst (Legal after Answers o) (sym seen) (given_legal o c (filled a.me.0.places) y.history.items given.place (pass.legal o opens) given.turn given.history) in
      record {
        carries = subst (λ (x : Me (Option (Held V E A)) (View V E A)). Carries x.0.stage x.1) (sym left.1) refl;
        legal = λ k e. let same : Some o ≡ Some k = sym opens ∙ sym opening ∙ e in let is : o ≡ k = cc in subst (λ v. Legal after Answers v (filled b.me.0.places)) is all;
        mine = ap (λ (v : View V E A). v.mine) m ∙ ap (recount y.history.items) pass.mine ∙ ap (λ h. (c, calls c h) ∷ []) (sym seen);
        budget = ap (λ n. n + used) spent ∙ pass.budget;
        used_up = pass.used_up;
      }

  -- ---- notes

  -- a pass that met a note
  pub meets : (a b note : Seat (Option (Held V E A)) (View V E A)) (c used turns : ℕ) → IsPass after Answers a c used turns → a.me.0.stage ≡ Idle → IsSame a b → Joined after Answers a.me.0 note.me.0 b.me
      → Meets (pass_value a c used turns) (filled note.me.0.places) (pass_value b c used turns)
  meets a b note c used turns pass idle same j =
      let l : List (Option (Entry E A)) = longer a.me.0.places note.me.0.places in
      let m = ap (λ (x : Me (Option (Held V E A)) (View V E A)). x.0) j.0 in
      let seen : filled b.me.0.places ≡ filled l = ap (λ (v : View V E A). filled v.places) m in
      let between : is_holding b.me.0.stage ≡ false = ap (λ (v : View V E A). is_holding v.stage) m ∙ ap is_holding idle in
      let left = filled_begins a.me.0.places l j.1 in
      let right = filled_begins note.me.0.places l j.2 in
      let told = subst (λ ms. Told (filled l) (ms ++ note.me.0.mine)) pass.mine j.3 in
      let opening : b.me.0.opening ≡ a.me.0.opening = ap (λ (v : View V E A). v.opening) m in
      record {
        pass = λ i. record { from = record { table = same.0 i; opening = opening i }; caller = c; seen = filled b.me.0.places; used = used; turns = turns; within = between i };
        one = ⊎_elim (λ e. inl (seen ∙ ap filled e)) (λ e. inr (seen ∙ ap filled e)) (longer_either a.me.0.places note.me.0.places);
        mine = (left.0, seen ∙ left.1);
        noted = (right.0, seen ∙ right.1);
        own = ap (calls c) seen ∙ sym told.0;
      }

  -- ---- the end

  pub takes_in : (a b w : Seat (Option (Held V E A)) (View V E A)) (c used turns : ℕ) → IsSame a b → IsIdle a → Joined after Answers a.me.0 w.me.0 b.me → w.me.0.mine ≡ (c, calls c (filled w.me.0.places)) ∷ []
      → Gathers a b (pass_value w c used turns ∷ [])
  takes_in a b w c used turns same idle j mine =
      let l : List (Option (Entry E A)) = longer a.me.0.places w.me.0.places in
      let seen : filled b.me.0.places ≡ filled l = ap (λ (m : Me (Option (Held V E A)) (View V E A)). filled m.0.places) j.0 in
      let left = filled_begins a.me.0.places l j.1 in
      let right = filled_begins w.me.0.places l j.2 in
      record {
        same = same;
        idle = (ap (λ (m : Me (Option (Held V E A)) (View V E A)). m.0.stage) j.0 ∙ idle.0, ap (λ (m : Me (Option (Held V E A)) (View V E A)). m.1) j.0);
        begins = (left.0, seen ∙ left.1);
        seen = All-cons (λ (p : PassValue V E A). IsBeginning p.seen (filled b.me.0.places)) (pass_value w c used turns) [] (right.0, seen ∙ right.1) (All-nil (λ (p : PassValue V E A). IsBeginning p.seen (filled b.me.0.places)));
        mine = ap (λ (m : Me (Option (Held V E A)) (View V E A)). m.0.mine) j.0 ∙ ap (λ ms. a.me.0.mine ++ ms) mine;
      }

module _ {V E A : Type 0} where
  abbrev Seen : List (Entry E A) → PassValue V E A → Type 0
  Seen h x = IsBeginning x.seen h

  abbrev Owns : List (Entry E A) → PassValue V E A → Type 0
  Owns h x = calls x.caller h ≡ calls x.caller x.seen

  all_more : (xs ys : List (Entry E A)) (ps : List (PassValue V E A)) → IsBeginning xs ys → All (Seen xs) ps → All (Seen ys) ps
  all_more xs ys ps b h k d lt = beginning_then (get_or ps k d).seen xs ys (h k d lt) b

  all_snoc : (P : PassValue V E A → Type 0) (ps : List (PassValue V E A)) (x : PassValue V E A) → All P ps → P x → All P (ps ++ x ∷ [])
  all_snoc P ps x h e = All-append P ps (x ∷ []) h (All-cons P x [] e (All-nil P))

  pub gathers_none : (a : Seat (Option (Held V E A)) (View V E A)) → IsIdle a → Gathers a a []
  gathers_none a idle = record { same = (refl, refl); idle = idle; begins = beginning_same (filled a.me.0.places); seen = All-nil (Seen (filled a.me.0.places)); mine = sym (append-nil a.me.0.mine) }

  pub gathers_more : (a b c : Seat (Option (Held V E A)) (View V E A)) (ps : List (PassValue V E A)) (x : PassValue V E A) → Gathers a b ps → Gathers b c (x ∷ []) → Gathers a c (ps ++ x ∷ [])
  gathers_more a b c ps x g h = record {
    same = (h.same.0 ∙ g.same.0, h.same.1 ∙ g.same.1);
    idle = h.idle;
    begins = beginning_then (filled a.me.0.places) (filled b.me.0.places) (filled c.me.0.places) g.begins h.begins;
    seen = all_snoc (Seen (filled c.me.0.places)) ps x (all_more (filled b.me.0.places) (filled c.me.0.places) ps h.begins g.seen) (h.seen 0 x (omega arith));
    mine = h.mine ∙ ap (λ ms. ms ++ call_of x ∷ []) g.mine ∙ append_assoc a.me.0.mine (map call_of ps) (call_of x ∷ []) ∙ ap (λ ms. a.me.0.mine ++ ms) (sym (map-append call_of ps (x ∷ [])));
  }

  told_all : (h : List (Entry E A)) (ps : List (PassValue V E A)) → Told h (map call_of ps) → All (Owns h) ps
  told_all h [] t = All-nil (Owns h)
  told_all h (x ∷ ps) t = All-cons (Owns h) x ps (sym t.0) (told_all h ps t.1)

  present_stands : (c : ℕ) (ps : List (PassValue V E A)) (x : PassValue V E A) → Present c (ps ++ x ∷ []) → (x.caller ≡ c) ⊎ StandsFor c (map call_of ps)
  present_stands c [] x h = ⊎_elim (λ e. inl e) (λ z. absurd z) h
  present_stands c (y ∷ ps) x h = ⊎_elim (λ e. inr (inl e)) (λ t. ⊎_elim (λ e. inl e) (λ z. inr (inr z)) (present_stands c ps x t)) h

  -- all callers are in the seat
  pub all_stand : (a b : Seat (Option (Held V E A)) (View V E A)) (x : PassValue V E A) (ps : List (PassValue V E A)) (n : ℕ) → a.me.0.mine ≡ call_of x ∷ [] → Gathers a b ps → ((c : ℕ) → c < n → Present c (ps ++ x ∷ [])) → (c : ℕ) → c < n → StandsFor c b.me.0.mine
  all_stand a b x ps n mine g all c lt =
      let is : b.me.0.mine ≡ call_of x ∷ map call_of ps = g.mine ∙ ap (λ ms. ms ++ map call_of ps) mine in subst (StandsFor c) (sym is) (present_stands c ps x (all c lt))

module _ {V E A : Type 0} (after : V → E → A → V) (Answers : V → E → A → Type 0) where
  pub closing : (key : Key V) (a b : Seat (Option (Held V E A)) (View V E A)) (x : PassValue V E A) (ps : List (PassValue V E A)) (y : Held V E A) → a.me.0.mine ≡ call_of x ∷ [] → x.seen ≡ filled a.me.0.places → Gathers a b ps → Left after Answers key b.me.0 y
      → ((c : ℕ) → c < key.passes → Present c (ps ++ x ∷ [])) → Closes after Answers key.opening.value (ps ++ x ∷ []) y
  closing key a b x ps y mine seen g left all =
      let h : List (Entry E A) = filled left.places in
      let eq : h ≡ y.history.items = sym left.history in
      let is : b.me.0.mine ≡ call_of x ∷ map call_of ps = g.mine ∙ ap (λ ms. ms ++ map call_of ps) mine in
      let told = subst (Told h) is left.told in
      let late = filled_begins b.me.0.places left.places left.seen in
      let mid = beginning_then (filled a.me.0.places) (filled b.me.0.places) h g.begins late in
      record {
        legal = subst (Legal after Answers key.opening.value) eq left.legal;
        value = left.value ∙ ap (value_after after key.opening.value) eq;
        seen = subst (λ z. All (Seen z) (ps ++ x ∷ [])) eq (all_snoc (Seen h) ps x (all_more (filled b.me.0.places) h ps late g.seen) (subst (λ z. IsBeginning z h) (sym seen) mid));
        own = subst (λ z. All (Owns z) (ps ++ x ∷ [])) eq (all_snoc (Owns h) ps x (told_all h ps told.1) (sym told.0));
        others = λ c absent. elim (dec_lt c key.passes) [ yes d ↦ absurd (absent (all c d)) | no d ↦ sym (ap (calls c) eq) ∙ left.others c (omega arith) ];
      }
