-- Greedy choice over lists that follow one another, and under meanings that agree.
use Rattle.std.proofs.Common.{◌≡◌, Bool, true, false, cond, List, [], ◌∷◌, ◌++◌, length, refl, sym, ap, subst, ◌∙◌, arith, append_assoc}
use Rattle.std.specs.Prelude.{MatchBool}
use Rattle.std.specs.List.{flat_map, AllByRecursion}
use Rattle.std.proofs.lemmas.List.{append-nil}
use Rattle.std.proofs.lemmas.List.Concat.{flat_map-append}
use Rattle.ledger_transfers.specs.Greedy.{AreGreedy, taken}
use Rattle.ledger_settling.specs.Blocks.{joined}

module _ {T : Type 0} where
  -- what is taken of two lists of candidates
  pub taken_append : (cs ds : List T) (vs ws : List Bool) → length vs ≡ length cs → taken (cs ++ ds) (vs ++ ws) ≡ taken cs vs ++ taken ds ws
  taken_append [] ds [] ws l = refl
  taken_append [] ds (v ∷ vs) ws l = absurd (omega (arith, l))
  taken_append (c ∷ cs) ds [] ws l = absurd (omega (arith, l))
  taken_append (c ∷ cs) ds (v ∷ vs) ws l = by v (taken_append cs ds vs ws (omega (arith, l)))
    where
      by : (v : Bool) → taken (cs ++ ds) (vs ++ ws) ≡ taken cs vs ++ taken ds ws
          → cond v (c ∷ taken (cs ++ ds) (vs ++ ws)) (taken (cs ++ ds) (vs ++ ws)) ≡ cond v (c ∷ taken cs vs) (taken cs vs) ++ taken ds ws
      by true e = ap (λ us. c ∷ us) e
      by false e = e

  -- the changes of a candidate more
  pub changes_more : {X : Type 0} (f : T → List X) (old : List X) (cs : List T) (vs : List Bool) (c : T) (v : Bool) → length vs ≡ length cs
      → (old ++ flat_map f (taken cs vs)) ++ cond v (f c) [] ≡ old ++ flat_map f (taken (cs ++ c ∷ []) (vs ++ v ∷ []))
  changes_more f old cs vs c v l =
      append_assoc old (flat_map f (taken cs vs)) (cond v (f c) [])
      ∙ ap (λ us. old ++ (flat_map f (taken cs vs) ++ us)) (by v)
      ∙ ap (λ us. old ++ us) (sym (flat_map-append f (taken cs vs) (taken (c ∷ []) (v ∷ []))))
      ∙ ap (λ us. old ++ flat_map f us) (sym (taken_append cs (c ∷ []) vs (v ∷ []) l))
    where
      by : (v : Bool) → cond v (f c) [] ≡ flat_map f (taken (c ∷ []) (v ∷ []))
      by true = sym (append-nil (f c))
      by false = refl

  -- the changes of a list of candidates more
  pub changes_append : {X : Type 0} (f : T → List X) (old : List X) (cs ds : List T) (vs ws : List Bool) → length vs ≡ length cs
      → (old ++ flat_map f (taken cs vs)) ++ flat_map f (taken ds ws) ≡ old ++ flat_map f (taken (cs ++ ds) (vs ++ ws))
  changes_append f old cs ds vs ws l =
      append_assoc old (flat_map f (taken cs vs)) (flat_map f (taken ds ws))
      ∙ ap (λ us. old ++ us) (sym (flat_map-append f (taken cs vs) (taken ds ws)))
      ∙ ap (λ us. old ++ flat_map f us) (sym (taken_append cs ds vs ws l))

  -- what a candidate adds to those before it stands before the rest
  next_taken : (before : List T) (c : T) (v : Bool) (rest : List T) → cond v (before ++ c ∷ []) before ++ rest ≡ before ++ cond v (c ∷ rest) rest
  next_taken before c true rest = append_assoc before (c ∷ []) rest
  next_taken before c false rest = refl

  -- greedy choice, continued
  pub greedy_append : (Settles : List T → Type 0) (before cs ds : List T) (vs ws : List Bool) → AreGreedy Settles before cs vs → AreGreedy Settles (before ++ taken cs vs) ds ws → AreGreedy Settles before (cs ++ ds) (vs ++ ws)
  greedy_append Settles before [] ds [] ws h k = subst (λ b. AreGreedy Settles b ds ws) (append-nil before) k
  greedy_append Settles before [] ds (v ∷ vs) ws h k = absurd h
  greedy_append Settles before (c ∷ cs) ds [] ws h k = absurd h
  greedy_append Settles before (c ∷ cs) ds (v ∷ vs) ws h k =
      (h.0, greedy_append Settles (cond v (before ++ c ∷ []) before) cs ds vs ws h.1 (subst (λ b. AreGreedy Settles b ds ws) (sym (next_taken before c v (taken cs vs))) k))

module _ {T : Type 0} (P Q In : List T → Type 0) (One : T → Type 0) (grows : (before : List T) (c : T) → In before → One c → In (before ++ c ∷ []))
    (to : (batch : List T) → In batch → P batch → Q batch) (fro : (batch : List T) → In batch → Q batch → P batch) where
  -- where two meanings of settling agree on the lists that come up, greedy chooses alike
  pub greedy_alike : (before cs : List T) (vs : List Bool) → In before → AllByRecursion One cs → AreGreedy P before cs vs → AreGreedy Q before cs vs
  greedy_alike before [] [] i o h = tt
  greedy_alike before [] (v ∷ vs) i o h = h
  greedy_alike before (c ∷ cs) [] i o h = h
  greedy_alike before (c ∷ cs) (v ∷ vs) i o h =
      let next = grows before c i o.0 in
      (by v next h.0, greedy_alike (cond v (before ++ c ∷ []) before) cs vs (kept v next) o.1 h.1)
    where
      by : (v : Bool) → In (before ++ c ∷ []) → MatchBool v (P (before ++ c ∷ [])) (P (before ++ c ∷ []) → ⊥) → MatchBool v (Q (before ++ c ∷ [])) (Q (before ++ c ∷ []) → ⊥)
      by true n p = to (before ++ c ∷ []) n p
      by false n p = λ q. p (fro (before ++ c ∷ []) n q)

      kept : (v : Bool) → In (before ++ c ∷ []) → In (cond v (before ++ c ∷ []) before)
      kept true n = n
      kept false n = i

module _ {X : Type 0} where
  -- one list more
  pub joined_push : (xss : List (List X)) (xs : List X) → joined (xss ++ xs ∷ []) ≡ joined xss ++ xs
  joined_push xss xs = flat_map-append (λ ys. ys) xss (xs ∷ []) ∙ ap (λ ys. joined xss ++ ys) (append-nil xs)
