-- One candidate more.
use Rattle.std.proofs.Common.{◌≡◌, ℕ, ◌<◌, Bool, true, false, cond, List, [], ◌∷◌, ◌++◌, length, get_or, refl, sym, subst, ◌∙◌, arith, suc, zero}
use Rattle.std.specs.Prelude.{MatchBool}
use Rattle.std.specs.List.{All}
use Rattle.std.proofs.lemmas.List.Elements.{All-nil, All-cons, All-head, All-tail}
use Rattle.ledger_transfers.specs.declared.change.Change.{Change}
use Rattle.ledger_transfers.specs.declared.held.Held.{Held}
use Rattle.ledger_transfers.specs.Rules.{Rules}
use Rattle.ledger_transfers.specs.Touches.{touches, total_of}
use Rattle.ledger_transfers.specs.Settling.{Settles}
use Rattle.ledger_transfers.specs.Selecting.{StandsFor, SettledBy, AreReadBy, AreVerdicts, taken_after, Decided, AllDecided}
use Rattle.ledger_transfers.proofs.TakenLemmas.{opened_alike}
use Rattle.ledger_transfers.proofs.TouchesLemmas.{touches_cons}

module _ {T K E : Type 0} (settled : List (K × Change E) → Type 0) (changes_of : T → List (K × Change E)) where
  pub taken_push : (ts : List (K × Change E)) (cs : List T) (vs : List Bool) (c : T) (v : Bool) → length vs ≡ length cs
      → taken_after settled changes_of ts (cs ++ c ∷ []) (vs ++ v ∷ []) ≡ cond v (taken_after settled changes_of ts cs vs ++ touches changes_of (c ∷ [])) (taken_after settled changes_of ts cs vs)
  taken_push ts [] [] c v l = refl
  taken_push ts [] (w ∷ vs) c v l = absurd (omega (arith, l))
  taken_push ts (d ∷ cs) [] c v l = absurd (omega (arith, l))
  taken_push ts (d ∷ cs) (w ∷ vs) c v l = taken_push (cond w (ts ++ touches changes_of (d ∷ [])) ts) cs vs c v (omega (arith, l))

  pub verdicts_push : (ts : List (K × Change E)) (cs : List T) (vs : List Bool) (c : T) (v : Bool) → AreVerdicts settled changes_of ts cs vs
      → MatchBool v (settled (taken_after settled changes_of ts cs vs ++ touches changes_of (c ∷ []))) (settled (taken_after settled changes_of ts cs vs ++ touches changes_of (c ∷ [])) → ⊥)
      → AreVerdicts settled changes_of ts (cs ++ c ∷ []) (vs ++ v ∷ [])
  verdicts_push ts [] [] c v all one = (one, tt)
  verdicts_push ts [] (w ∷ vs) c v all one = absurd all
  verdicts_push ts (d ∷ cs) [] c v all one = absurd all
  verdicts_push ts (d ∷ cs) (w ∷ vs) c v all one = (all.0, verdicts_push (cond w (ts ++ touches changes_of (d ∷ [])) ts) cs vs c v all.1 one)

module _ {X : Type 0} (P : X → Type 0) where
  pub all_left : (xs ys : List X) → All P (xs ++ ys) → All P xs
  all_left [] ys h = All-nil P
  all_left (x ∷ xs) ys h = All-cons P x xs (All-head P x (xs ++ ys) h) (all_left xs ys (All-tail P x (xs ++ ys) h))

  pub all_right : (xs ys : List X) → All P (xs ++ ys) → All P ys
  all_right [] ys h = h
  all_right (x ∷ xs) ys h = all_right xs ys (All-tail P x (xs ++ ys) h)

module _ {T K E : Type 0} (changes_of : T → List (K × Change E)) (P : K × Change E → Type 0) where
  -- what holds of each touch of a batch holds of each touch of its transfers
  pub touches_at : (cs : List T) (i : ℕ) (d : T) → i < length cs → All P (touches changes_of cs) → All P (touches changes_of (get_or cs i d ∷ []))
  touches_at [] i d l h = absurd (omega (arith, l))
  touches_at (c ∷ cs) zero d l h = all_left P (touches changes_of (c ∷ [])) (touches changes_of cs) (subst (All P) (touches_cons changes_of c cs) h)
  touches_at (c ∷ cs) (suc i) d l h = touches_at cs i d (omega (arith, l)) (all_right P (touches changes_of (c ∷ [])) (touches changes_of cs) (subst (All P) (touches_cons changes_of c cs) h))

module _ {A E K : Type 0} (eq : K → K → Bool) (same : A → A → Bool) (rules : Rules A E) where
  pub reads_trans : (old mid new : List (K × Held A)) → AreReadBy eq old mid → AreReadBy eq mid new → AreReadBy eq old new
  reads_trans old mid new r s = record { keys = s.keys ∙ r.keys; reads = λ k. s.reads k ∙ r.reads k }

  pub settled_alike : (old mid : List (K × Held A)) (us : List (K × Change E)) → AreReadBy eq old mid → SettledBy eq same rules mid us → SettledBy eq same rules old us
  settled_alike old mid us r s = subst (λ o. All (λ t. Settles rules (o t.0) (total_of eq us t.0)) us) (opened_alike eq same rules old mid r) s

  pub settled_back : (old mid : List (K × Held A)) (us : List (K × Change E)) → AreReadBy eq old mid → SettledBy eq same rules old us → SettledBy eq same rules mid us
  settled_back old mid us r s = subst (λ o. All (λ t. Settles rules (o t.0) (total_of eq us t.0)) us) (sym (opened_alike eq same rules old mid r)) s

  pub all_decided_push : {T : Type 0} (changes_of : T → List (K × Change E)) (old mid new : List (K × Held A)) (cs : List T) (vs : List Bool) (c : T) (v : Bool) → length vs ≡ length cs → AreReadBy eq old mid
      → AllDecided eq same rules changes_of old mid cs vs → Decided eq same rules mid new (touches changes_of (c ∷ [])) v → AllDecided eq same rules changes_of old new (cs ++ c ∷ []) (vs ++ v ∷ [])
  all_decided_push {T} changes_of old mid new cs vs c v l reads all decided ts stands =
      let so_far = all ts stands in
      by v so_far.0 (decided (taken_after (SettledBy eq same rules old) changes_of ts cs vs) so_far.1)
    where
      by : (v : Bool) → AreVerdicts (SettledBy eq same rules old) changes_of ts cs vs
          → MatchBool v (SettledBy eq same rules mid (taken_after (SettledBy eq same rules old) changes_of ts cs vs ++ touches changes_of (c ∷ [])) × StandsFor eq same rules new (taken_after (SettledBy eq same rules old) changes_of ts cs vs ++ touches changes_of (c ∷ [])))
          ((SettledBy eq same rules mid (taken_after (SettledBy eq same rules old) changes_of ts cs vs ++ touches changes_of (c ∷ [])) → ⊥) × StandsFor eq same rules new (taken_after (SettledBy eq same rules old) changes_of ts cs vs))
          → AreVerdicts (SettledBy eq same rules old) changes_of ts (cs ++ c ∷ []) (vs ++ v ∷ []) × StandsFor eq same rules new (taken_after (SettledBy eq same rules old) changes_of ts (cs ++ c ∷ []) (vs ++ v ∷ []))
      by true sofar d = (
        verdicts_push (SettledBy eq same rules old) changes_of ts cs vs c true sofar (settled_alike old mid (taken_after (SettledBy eq same rules old) changes_of ts cs vs ++ touches changes_of (c ∷ [])) reads d.0),
        subst (StandsFor eq same rules new) (sym (taken_push (SettledBy eq same rules old) changes_of ts cs vs c true l)) d.1,
      )
      by false sofar d = (
        verdicts_push (SettledBy eq same rules old) changes_of ts cs vs c false sofar (λ s. d.0 (settled_back old mid (taken_after (SettledBy eq same rules old) changes_of ts cs vs ++ touches changes_of (c ∷ [])) reads s)),
        subst (StandsFor eq same rules new) (sym (taken_push (SettledBy eq same rules old) changes_of ts cs vs c false l)) d.1,
      )
