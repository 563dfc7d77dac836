-- Copies of operations that count leave each key its value.
use Rattle.std.proofs.Common.{◌≡◌, ℕ, zero, suc, ◌+◌, ◌⊎◌, inl, inr, Bool, true, false, cond, List, [], ◌∷◌, ◌++◌, length, take, map, filter, filter_map, Option, Some, None, refl, sym, ap, subst, ◌∙◌, bytes_eq, arith, append_assoc}
use Rattle.std.specs.Prelude.{is_some, is_none}
use Rattle.std.specs.List.{last_or, cons_option}
use Rattle.std.proofs.lemmas.Slice.Eq.{bytes_eq-Decides}
use Rattle.std.proofs.lemmas.List.{append-nil}
use Rattle.std.proofs.lemmas.List.Elements.{filter_map-append}
use Rattle.ledger_log.specs.View.{written_at, value_or_none, value_at}
use Rattle.ledger_log.specs.Index.{writes_key, place_after, last_write}
use Rattle.ledger_log.specs.Active.{counts, living}

last_or-append : {A : Type 0} (o : Option A) (xs ys : List A) → last_or o (xs ++ ys) ≡ last_or (last_or o xs) ys
last_or-append o [] ys = refl
last_or-append o (x ∷ xs) ys = last_or-append (Some x) xs ys

last_of_one : {A : Type 0} (o : Option A) → last_or None (cons_option o []) ≡ o
last_of_one None = refl
last_of_one (Some x) = refl

module _ {Op V : Type 0} (p : Op → Option V) where
  -- each of these leaves nothing, or what is left already
  abbrev pub Agree : Option V → List (ℕ × Op) → Type 0
  Agree o [] = Unit {0}
  Agree o (e ∷ es) = ((p e.1 ≡ None) ⊎ (p e.1 ≡ o)) × Agree o es

  pub agree_filter : (o : Option V) (q : ℕ × Op → Bool) (es : List (ℕ × Op)) → Agree o es → Agree o (filter q es)
  agree_filter o q [] h = tt
  agree_filter o q (e ∷ es) h = by (q e) (agree_filter o q es h.1) where
    by : (b : Bool) → Agree o (filter q es) → Agree o (cond b (e ∷ filter q es) (filter q es))
    by true k = (h.0, k)
    by false k = k

  pub agree_take : (o : Option V) (m : ℕ) (es : List (ℕ × Op)) → Agree o es → Agree o (take m es)
  agree_take o zero es h = tt
  agree_take o (suc m) [] h = tt
  agree_take o (suc m) (e ∷ es) h = (h.0, agree_take o m es h.1)

  one_later : (o : Option V) (ws : List V) (q : Option V) → (q ≡ None) ⊎ (q ≡ last_or None ws) → (q ≡ None) ⊎ (q ≡ last_or None (cons_option o ws))
  one_later None ws q h = h
  one_later (Some v) [] q (inl e) = inl e
  one_later (Some v) [] q (inr e) = inl e
  one_later (Some v) (y ∷ ys) q h = h

  agree_later : (o : Option V) (ws : List V) (es : List (ℕ × Op)) → Agree (last_or None ws) es → Agree (last_or None (cons_option o ws)) es
  agree_later o ws [] h = tt
  agree_later o ws (e ∷ es) h = (one_later o ws (p e.1) h.0, agree_later o ws es h.1)

  -- what agrees changes nothing
  pub nothing_new : (o : Option V) (es : List (ℕ × Op)) → Agree o es → last_or o (filter_map p (map (λ e. e.1) es)) ≡ o
  nothing_new o [] h = refl
  nothing_new o (e ∷ es) h = by (p e.1) h.0 (nothing_new o es h.1) where
    by : (q : Option V) → (q ≡ None) ⊎ (q ≡ o) → last_or o (filter_map p (map (λ e. e.1) es)) ≡ o → last_or o (cons_option q (filter_map p (map (λ e. e.1) es))) ≡ o
    by None d ih = ih
    by (Some v) (inl d) ih = absurd cc
    by (Some v) (inr d) ih = ap (λ z. last_or z (filter_map p (map (λ e. e.1) es))) d ∙ ih

module _ {Op : Type 0} (w : Op → Option (List ℕ × Option (List ℕ))) where
  -- where no operation writes a key, nothing is left at it
  none_written : (k : List ℕ) (xs : List Op) → last_write w k xs ≡ None → filter_map (λ op. written_at k (w op)) xs ≡ []
  none_written k [] h = refl
  none_written k (x ∷ xs) h = let both = by (written_at k (w x)) (last_write w k xs) h in ap (λ o. cons_option o (filter_map (λ op. written_at k (w op)) xs)) both.0 ∙ none_written k xs both.1 where
    by : (o : Option (Option (List ℕ))) (q : Option ℕ) → place_after (is_some o) q ≡ None → (o ≡ None) × (q ≡ None)
    by None None e = (refl, refl)
    by (Some v) None e = absurd cc
    by None (Some i) e = absurd cc
    by (Some v) (Some i) e = absurd cc

  own_value : (k : List ℕ) (o : Option (List ℕ × Option (List ℕ))) (xs : List Op) → counts w o xs ≡ true →
      (written_at k o ≡ None) ⊎ (written_at k o ≡ last_or None (cons_option (written_at k o) (filter_map (λ op. written_at k (w op)) xs)))
  own_value k None xs h = inl refl
  own_value k (Some (key, None)) xs h = absurd cc
  own_value k (Some (key, Some v)) xs h = by (bytes_eq key k) refl where
    none : last_write w key xs ≡ None
    none = of (last_write w key xs) h where
      of : (o : Option ℕ) → is_none o ≡ true → o ≡ None
      of None e = refl
      of (Some i) e = absurd cc

    by : (b : Bool) → bytes_eq key k ≡ b → (cond (bytes_eq key k) (Some (Some v)) None ≡ None)
        ⊎ (cond (bytes_eq key k) (Some (Some v)) None ≡ last_or None (cons_option (cond (bytes_eq key k) (Some (Some v)) None) (filter_map (λ op. written_at k (w op)) xs)))
    by false e = inl (ap (λ b. cond b (Some (Some v)) None) e)
    by true e =
        let same : key ≡ k = (bytes_eq-Decides key k).0 e in
        let left : last_write w k xs ≡ None = subst (λ q. last_write w q xs ≡ None) same none in
        inr (sym (ap (λ l. last_or None (cons_option (cond (bytes_eq key k) (Some (Some v)) None) l)) (none_written k xs left) ∙ last_of_one (cond (bytes_eq key k) (Some (Some v)) None)))

  -- what counts leaves the value that its key has
  pub living_agrees : (k : List ℕ) (start : ℕ) (xs : List Op) → Agree (λ op. written_at k (w op)) (last_or None (filter_map (λ op. written_at k (w op)) xs)) (living w start xs)
  living_agrees k start [] = tt
  living_agrees k start (x ∷ xs) =
      by (counts w (w x) xs) refl (agree_later (λ op. written_at k (w op)) (written_at k (w x)) (filter_map (λ op. written_at k (w op)) xs) (living w (start + 1) xs) (living_agrees k (start + 1) xs)) where
        by : (b : Bool) → counts w (w x) xs ≡ b → Agree (λ op. written_at k (w op)) (last_or None (cons_option (written_at k (w x)) (filter_map (λ op. written_at k (w op)) xs))) (living w (start + 1) xs) →
            Agree (λ op. written_at k (w op)) (last_or None (cons_option (written_at k (w x)) (filter_map (λ op. written_at k (w op)) xs))) (cond b ((start, x) ∷ living w (start + 1) xs) (living w (start + 1) xs))
        by true e h = (own_value k (w x) xs e, h)
        by false e h = h

  -- operations that agree with what is left, and one that writes nothing, leave each value
  pub same_value : (k : List ℕ) (xs : List Op) (es : List (ℕ × Op)) (c : Op) → w c ≡ None → Agree (λ op. written_at k (w op)) (last_or None (filter_map (λ op. written_at k (w op)) xs)) es →
      value_at w k ((xs ++ map (λ e. e.1) es) ++ c ∷ []) ≡ value_at w k xs
  same_value k xs es c e h =
      let p : Op → Option (Option (List ℕ)) = λ op. written_at k (w op) in
      let cs = map (λ (e : ℕ × Op). e.1) es in
      let last : filter_map (λ op. written_at k (w op)) (c ∷ []) ≡ [] = ap (λ o. cons_option (written_at k o) []) e in
      ap value_or_none (ap (last_or None) (filter_map-append (λ op. written_at k (w op)) (xs ++ cs) (c ∷ []) ∙ ap (λ l. filter_map (λ op. written_at k (w op)) (xs ++ cs) ++ l) last ∙ append-nil (filter_map (λ op. written_at k (w op)) (xs ++ cs)) ∙ filter_map-append (λ op. written_at k (w op)) xs cs)
      ∙ last_or-append None (filter_map (λ op. written_at k (w op)) xs) (filter_map (λ op. written_at k (w op)) cs)
      ∙ nothing_new (λ op. written_at k (w op)) (last_or None (filter_map (λ op. written_at k (w op)) xs)) es h)
