-- Histories and places that one entry or place more makes longer.
use Rattle.std.proofs.Common.{◌≡◌, ◌≢◌, ◌⊎◌, ℕ, zero, suc, ◌+◌, ◌<◌, ◌≤◌, ◌==◌, Bool, true, false, cond, List, [], ◌∷◌, ◌++◌, length, Option, Some, None, refl, sym, ap, ◌∙◌, subst, ⊎_elim, inl, inr, arith, append_assoc, append-nil, length-append, eq-eqb, ne_eqb}
use mathlib.Core.Logic.{dite}
use native.Mathlib.Decide.{ℕ_discrete}
use Rattle.turn_lock.specs.declared.entry.Entry.{Entry}
use Rattle.std.proofs.Common.{leb}
use Rattle.std.proofs.lemmas.Bool.Decides.{nat_tests}
use Rattle.turn_lock.specs.History.{value_after, Legal, calls, IsBeginning}
use Rattle.turn_lock.specs.Turns.{Good}
use Rattle.turn_lock.specs.Rule.{filled, Begins, longer, StandsFor, Told, recount, callers}

same_rest : {A : Type 0} (xs rest : List A) → xs ≡ xs ++ rest → rest ≡ []
same_rest xs [] e = refl
same_rest xs (y ∷ ys) e = let h = ap length e in absurd (omega (arith, h, length-append xs (y ∷ ys)))

nil_front : {A : Type 0} (xs ys : List A) → xs ++ ys ≡ [] → xs ≡ []
nil_front [] ys e = refl
nil_front (x ∷ xs) ys e = absurd (cc)

module _ (E A : Type 0) where
  pub told_callers : (c n : ℕ) → Told {E = E} {A = A} [] (callers c n)
  told_callers c zero = tt
  told_callers c (suc n) = (refl, told_callers (suc c) n)

module _ (E : Type 0) where
  pub stands_callers : (k c n : ℕ) → StandsFor {E = E} k (callers c n) → (c ≤ k) × (k < c + n)
  stands_callers k c zero s = absurd s
  stands_callers k c (suc n) s = ⊎_elim (λ (e : c ≡ k). (omega arith, omega arith)) (λ (t : StandsFor k (callers (suc c) n)). let h = stands_callers k (suc c) n t in (omega (arith, h.0), omega (arith, h.1))) s

  pub callers_stand : (k c n : ℕ) → c ≤ k → k < c + n → StandsFor {E = E} k (callers c n)
  callers_stand k c zero le lt = absurd (omega arith)
  callers_stand k c (suc n) le lt = dite (ℕ_discrete c k) (λ e. inl e) (λ ne. inr (callers_stand k (suc c) n (omega arith) (omega arith)))

module _ {E : Type 0} where
  pub stands_append : (c : ℕ) (ms ns : List (ℕ × List (E))) → StandsFor c (ms ++ ns) → StandsFor c ms ⊎ StandsFor c ns
  stands_append c [] ns s = inr s
  stands_append c (m ∷ ms) ns s = ⊎_elim (λ e. inl (inl e)) (λ t. ⊎_elim (λ a. inl (inr a)) (λ b. inr b) (stands_append c ms ns t)) s

module _ {E A : Type 0} where
  pub filled-append : (xs ys : List (Option (Entry E A))) → filled (xs ++ ys) ≡ filled xs ++ filled ys
  filled-append [] ys = refl
  filled-append (None ∷ xs) ys = filled-append xs ys
  filled-append (Some e ∷ xs) ys = ap (λ l. e ∷ l) (filled-append xs ys)

  pub calls-append : (c : ℕ) (xs ys : List (Entry E A)) → calls c (xs ++ ys) ≡ calls c xs ++ calls c ys
  calls-append c [] ys = refl
  calls-append c (x ∷ xs) ys = by_case (x.caller == c) (calls-append c xs ys)
    where
      by_case : (b : Bool) → calls c (xs ++ ys) ≡ calls c xs ++ calls c ys → cond b (x.event ∷ calls c (xs ++ ys)) (calls c (xs ++ ys)) ≡ cond b (x.event ∷ calls c xs) (calls c xs) ++ calls c ys
      by_case true h = ap (λ l. x.event ∷ l) h
      by_case false h = h

  pub calls-other : (c : ℕ) (h : List (Entry E A)) (e : (Entry E A)) → e.caller ≢ c → calls c (h ++ e ∷ []) ≡ calls c h
  calls-other c h e ne = calls-append c h (e ∷ []) ∙ ap (λ b. calls c h ++ cond b (e.event ∷ []) []) (ne_eqb e.caller c ne) ∙ append-nil (calls c h)

  pub calls-own : (c : ℕ) (h : List (Entry E A)) (e : (Entry E A)) → e.caller ≡ c → calls c (h ++ e ∷ []) ≡ calls c h ++ e.event ∷ []
  calls-own c h e is = calls-append c h (e ∷ []) ∙ ap (λ b. calls c h ++ cond b (e.event ∷ []) []) (eq-eqb e.caller c is)

  pub begins_same : (xs : List (Option (Entry E A))) → Begins xs xs
  begins_same xs = ([], sym (append-nil xs))

  pub begins_nil : (xs : List (Option (Entry E A))) → Begins [] xs
  begins_nil xs = (xs, refl)

  pub begins_then : (xs ys zs : List (Option (Entry E A))) → Begins xs ys → Begins ys zs → Begins xs zs
  begins_then xs ys zs p q = (p.0 ++ q.0, q.1 ∙ ap (λ l. l ++ q.0) p.1 ∙ append_assoc xs p.0 q.0)

  pub begins_more : (xs ys : List (Option (Entry E A))) (zs : List (Option (Entry E A))) → Begins xs ys → Begins xs (ys ++ zs)
  begins_more xs ys zs p = (p.0 ++ zs, ap (λ l. l ++ zs) p.1 ∙ append_assoc xs p.0 zs)

  pub told_recount : (h : List (Entry E A)) (ms : List (ℕ × List (E))) → Told h (recount h ms)
  told_recount h [] = tt
  told_recount h (m ∷ ms) = (refl, told_recount h ms)

  pub recount_stands : (c : ℕ) (h : List (Entry E A)) (ms : List (ℕ × List (E))) → StandsFor c (recount h ms) → StandsFor c ms
  recount_stands c h [] s = s
  recount_stands c h (m ∷ ms) s = ⊎_elim (λ e. inl e) (λ t. inr (recount_stands c h ms t)) s

  pub stands_recount : (c : ℕ) (h : List (Entry E A)) (ms : List (ℕ × List (E))) → StandsFor c ms → StandsFor c (recount h ms)
  stands_recount c h [] s = s
  stands_recount c h (m ∷ ms) s = ⊎_elim (λ e. inl e) (λ t. inr (stands_recount c h ms t)) s

  -- another's call changes nothing
  pub told_stays : (h : List (Entry E A)) (e : (Entry E A)) (ms : List (ℕ × List (E))) → (StandsFor e.caller ms → ⊥) → Told h ms → Told (h ++ e ∷ []) ms
  told_stays h e [] not_its t = tt
  told_stays h e (m ∷ ms) not_its t = (t.0 ∙ sym (calls-other m.0 h e (λ is. not_its (inl (sym is)))), told_stays h e ms (λ s. not_its (inr s)) t.1)

  pub told_append : (h : List (Entry E A)) (ms ns : List (ℕ × List (E))) → Told h ms → Told h ns → Told h (ms ++ ns)
  told_append h [] ns t u = u
  told_append h (m ∷ ms) ns t u = (t.0, told_append h ms ns t.1 u)

  -- of two beginnings of one list the shorter begins the longer
  pub begins_shorter : (xs ys zs : List (Option (Entry E A))) → Begins xs zs → Begins ys zs → length xs ≤ length ys → Begins xs ys
  begins_shorter [] ys zs p q le = begins_nil ys
  begins_shorter (x ∷ xs) [] zs p q le = absurd (omega arith)
  begins_shorter (x ∷ xs) (y ∷ ys) zs p q le =
      let both : x ∷ (xs ++ p.0) ≡ y ∷ (ys ++ q.0) = sym p.1 ∙ q.1 in
      let head : x ≡ y = cc in
      let tail : xs ++ p.0 ≡ ys ++ q.0 = cc in
      let rest = begins_shorter xs ys (xs ++ p.0) (p.0, refl) (q.0, tail) (omega arith) in
      (rest.0, λ i. sym head i ∷ rest.1 i)

  -- what two beginnings of one list know of the longer of them
  pub begins_longer : (xs ys zs : List (Option (Entry E A))) → Begins xs zs → Begins ys zs → Begins xs (longer xs ys) × Begins ys (longer xs ys) × Begins (longer xs ys) zs
  begins_longer xs ys zs p q = by_case (leb (length ys) (length xs)) refl
    where
      by_case : (b : Bool) → leb (length ys) (length xs) ≡ b → Begins xs (cond b xs ys) × Begins ys (cond b xs ys) × Begins (cond b xs ys) zs
      by_case true is = (begins_same xs, begins_shorter ys xs zs q p (grind (arith, nat_tests)), p)
      by_case false is = (begins_shorter xs ys zs p q (grind (arith, nat_tests)), begins_same ys, q)

  pub filled_begins : (xs ys : List (Option (Entry E A))) → Begins xs ys → IsBeginning (filled xs) (filled ys)
  filled_begins xs ys p = (filled p.0, ap filled p.1 ∙ filled-append xs p.0)

  -- what is so at both ends is so between them
  pub told_between : (xs ys zs : List (Entry E A)) (ms : List (ℕ × List (E))) → IsBeginning xs ys → IsBeginning ys zs → Told xs ms → Told zs ms → Told ys ms
  told_between xs ys zs [] p q t u = tt
  told_between xs ys zs (m ∷ ms) p q t u =
      let c : ℕ = m.0 in
      let mid : calls c ys ≡ calls c xs ++ calls c p.0 = ap (calls c) p.1 ∙ calls-append c xs p.0 in
      let end : calls c zs ≡ (calls c xs ++ calls c p.0) ++ calls c q.0 = ap (calls c) q.1 ∙ calls-append c ys q.0 ∙ ap (λ l. l ++ calls c q.0) mid in
      let all : calls c xs ≡ calls c xs ++ (calls c p.0 ++ calls c q.0) = sym t.0 ∙ u.0 ∙ end ∙ append_assoc (calls c xs) (calls c p.0) (calls c q.0) in
      let none_more : calls c p.0 ≡ [] = nil_front (calls c p.0) (calls c q.0) (same_rest (calls c xs) (calls c p.0 ++ calls c q.0) all) in
      (t.0 ∙ sym (mid ∙ ap (λ l. calls c xs ++ l) none_more ∙ append-nil (calls c xs)), told_between xs ys zs ms p q t.1 u.1)

  still : (ps : List (Option (Entry E A))) → filled (ps ++ None ∷ []) ≡ filled ps
  still ps = filled-append ps (None ∷ []) ∙ append-nil (filled ps)

module _ {V E A : Type 0} (after : V → E → A → V) (Answers : V → E → A → Type 0) where
  pub value_after-snoc : (opening : V) (h : List (Entry E A)) (e : Entry E A) → value_after after opening (h ++ e ∷ []) ≡ after (value_after after opening h) e.event e.outcome
  value_after-snoc opening [] e = refl
  value_after-snoc opening (x ∷ h) e = value_after-snoc (after opening x.event x.outcome) h e

  pub legal_snoc : (opening : V) (h : List (Entry E A)) (e : Entry E A) → Legal after Answers opening h → Answers (value_after after opening h) e.event e.outcome → Legal after Answers opening (h ++ e ∷ [])
  legal_snoc opening [] e l a = (a, tt)
  legal_snoc opening (x ∷ h) e l a = (l.0, legal_snoc (after opening x.event x.outcome) h e l.1 a)

  -- what begins a legal history is legal
  pub legal_front : (opening : V) (xs ys : List (Entry E A)) → Legal after Answers opening (xs ++ ys) → Legal after Answers opening xs
  legal_front opening [] ys l = tt
  legal_front opening (x ∷ xs) ys l = (l.0, legal_front (after opening x.event x.outcome) xs ys l.1)

  pub legal_begins : (opening : V) (xs ys : List (Option (Entry E A))) → Begins xs ys → Legal after Answers opening (filled ys) → Legal after Answers opening (filled xs)
  legal_begins opening xs ys p l = let b = filled_begins xs ys p in legal_front opening (filled xs) b.0 (subst (Legal after Answers opening) b.1 l)

  pub place_legal : (opening : V) (ms : List (ℕ × List (E))) (ps : List (Option (Entry E A))) (place : Option (Entry E A)) → Good after Answers opening (filled ps) ms place → Legal after Answers opening (filled ps) → Legal after Answers opening (filled (ps ++ place ∷ []))
  place_legal opening ms ps None g l = subst (Legal after Answers opening) (sym (still ps)) l
  place_legal opening ms ps (Some e) g l = subst (Legal after Answers opening) (sym (filled-append ps (Some e ∷ []))) (legal_snoc opening (filled ps) e l g.0)

  -- others know no less
  pub place_told : (opening : V) (ms ns : List (ℕ × List (E))) (ps : List (Option (Entry E A))) (place : Option (Entry E A)) → Good after Answers opening (filled ps) ms place → ((c : ℕ) → StandsFor c ms → StandsFor c ns → ⊥)
      → Told (filled ps) ns → Told (filled (ps ++ place ∷ [])) ns
  place_told opening ms ns ps None g apart t = subst (λ h. Told h ns) (sym (still ps)) t
  place_told opening ms ns ps (Some e) g apart t = subst (λ h. Told h ns) (sym (filled-append ps (Some e ∷ []))) (told_stays (filled ps) e ns (λ s. apart e.caller g.1 s) t)

  pub place_others : (opening : V) (ms : List (ℕ × List (E))) (n : ℕ) (ps : List (Option (Entry E A))) (place : Option (Entry E A)) → Good after Answers opening (filled ps) ms place → ((c : ℕ) → StandsFor c ms → c < n)
      → ((c : ℕ) → n ≤ c → calls c (filled ps) ≡ []) → (c : ℕ) → n ≤ c → calls c (filled (ps ++ place ∷ [])) ≡ []
  place_others opening ms n ps None g inside o c le = ap (calls c) (still ps) ∙ o c le
  place_others opening ms n ps (Some e) g inside o c le =
      let low = inside e.caller g.1 in
      ap (calls c) (filled-append ps (Some e ∷ [])) ∙ calls-other c (filled ps) e (λ is. omega arith) ∙ o c le
