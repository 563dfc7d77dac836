-- All touches of a candidate, on top of what was taken.
use Rattle.std.proofs.Common.{◌≡◌, ℕ, ◌+◌, ◌<◌, zero, suc, Bool, true, false, List, [], ◌∷◌, ◌++◌, length, get_or, take, drop, slice_get, position, Some, refl, sym, ap, subst, ◌∙◌, arith}
use Rattle.std.specs.Prelude.{IsSome, option_and_then, MatchBool}
use Rattle.std.specs.List.{list_any, All}
use Rattle.std.specs.Cmp.{IsEquivalence}
use Rattle.std.specs.Map.{lookup, values_of}
use Rattle.std.proofs.lemmas.List.{append_assoc, take_more, take-append-drop}
use Rattle.std.proofs.lemmas.List.Folds.{list_any-append, list_any_at}
use Rattle.std.proofs.lemmas.Option.{slice_get-get_or, get_or_from_slice_get, slice_get_within}
use Rattle.indexmap.proofs.MapLemmas.{Found-position}
use Rattle.ledger_transfers.specs.declared.change.Change.{Change}
use Rattle.ledger_transfers.specs.declared.held.Held.{Held}
use Rattle.ledger_transfers.specs.declared.revise.Revision.{Revision}
use Rattle.ledger_transfers.specs.Rules.{Rules}
use Rattle.ledger_transfers.specs.Touches.{total_of}
use Rattle.ledger_transfers.specs.Settling.{Settles, opened}
use Rattle.ledger_transfers.specs.Selecting.{StandsFor, SettledBy, AreReadBy, opened_at, StandTogether}
use Rattle.ledger_transfers.specs.Trying.{SettlesAt, HasFailing, AreSumsOf, IsPlaceOf, AreAdded, IsRefused, IsTaken}
use Rattle.ledger_transfers.proofs.SelectLemmas.{lookup_equal, StandTogether-push}
use Rattle.ledger_transfers.proofs.DecideLemmas.{found_at, settles_at, registered_at, any_right}
use Rattle.ledger_transfers.proofs.TakenLemmas.{all_touched, opened_alike, there_alike, is_there, either, total_untouched, registered_either}
use Rattle.ledger_transfers.proofs.VerdictLemmas.{settled_back}

module _ {X : Type 0} where
  -- a list is what stands before a place, what stands there, and the rest
  pub whole_at : (xs : List X) (i : ℕ) (x : X) → i < length xs → x ≡ get_or xs i x → take i xs ++ x ∷ drop (i + 1) xs ≡ xs
  whole_at xs i x l at =
      sym (append_assoc (take i xs) (x ∷ []) (drop (i + 1) xs)) ∙ ap (λ us. us ++ drop (i + 1) xs) (sym (take_more xs i x l ∙ ap (λ y. take i xs ++ y ∷ []) (sym at)))
      ∙ take-append-drop (i + 1) xs

  pub there_is : (xs : List X) (i : ℕ) → i < length xs → (x : X) × (slice_get xs i ≡ Some x)
  there_is [] i l = absurd (omega (arith, l))
  there_is (x ∷ xs) zero l = (x, refl)
  there_is (x ∷ xs) (suc i) l = there_is xs i (omega (arith, l))

module _ {A E K : Type 0} (eq : K → K → Bool) (laws : IsEquivalence eq) (same : A → A → Bool) (rules : Rules A E) where
  -- a touch that is refused after those before it
  pub refused_at : (old mid : List (K × Held A)) (all : List (K × Change E)) (i : ℕ) (t : K × Change E) → i < length all → t ≡ get_or all i t → AreReadBy eq old mid
      → ((us : List (K × Change E)) → AreSumsOf eq same rules old us → AreSumsOf eq same rules mid (us ++ take i all)) → ((more : List (K × Change E)) → IsRefused eq same rules mid (t ∷ more)) → IsRefused eq same rules old all
  refused_at old mid all i t l at reads so_far refused us sums settled =
      let whole : us ++ all ≡ (us ++ take i all) ++ t ∷ drop (i + 1) all = ap (λ vs. us ++ vs) (sym (whole_at all i t l at)) ∙ sym (append_assoc us (take i all) (t ∷ drop (i + 1) all)) in
      refused (drop (i + 1) all) (us ++ take i all) (so_far us sums)
      (settled_back eq same rules old mid ((us ++ take i all) ++ t ∷ drop (i + 1) all) reads (subst (SettledBy eq same rules old) whole settled))

  -- the sums after one touch more
  pub sums_push : (old mid new : List (K × Held A)) (all : List (K × Change E)) (i : ℕ) (t : K × Change E) → i < length all → t ≡ get_or all i t
      → ((us : List (K × Change E)) → AreSumsOf eq same rules old us → AreSumsOf eq same rules mid (us ++ take i all))
      → ((us : List (K × Change E)) → AreSumsOf eq same rules mid us → AreSumsOf eq same rules new (us ++ t ∷ [])) → (us : List (K × Change E)) → AreSumsOf eq same rules old us → AreSumsOf eq same rules new (us ++ take (i + 1) all)
  sums_push old mid new all i t l at so_far one us sums =
      let more : take (i + 1) all ≡ take i all ++ t ∷ [] = take_more all i t l ∙ ap (λ x. take i all ++ x ∷ []) (sym at) in
      subst (AreSumsOf eq same rules new) (append_assoc us (take i all) (t ∷ []) ∙ ap (λ vs. us ++ vs) (sym more)) (one (us ++ take i all) (so_far us sums))

  -- the place of one touch more
  pub places_push : (keys : List K) (all : List (K × Change E)) (log : List (ℕ × Revision A)) (t : K × Change E) (b : ℕ × Revision A) → length log < length all → t ≡ get_or all (length log) t
      → StandTogether (IsPlaceOf eq same rules keys) all log → IsPlaceOf eq same rules keys t b → StandTogether (IsPlaceOf eq same rules keys) all (log ++ b ∷ [])
  places_push keys all log t b l at so_far one =
      StandTogether-push (IsPlaceOf eq same rules keys) all log t b so_far (slice_get-get_or all (length log) t l ∙ ap Some (sym at)) one

  module _ (old new : List (K × Held A)) (cs : List (K × Change E)) (log : List (ℕ × Revision A)) (reads : AreReadBy eq old new) (added : AreAdded eq same rules old new cs log) where
    -- the value of a touch's key stands at the place of its log entry
    found_value : (i : ℕ) (t : K × Change E) (b : ℕ × Revision A) → slice_get cs i ≡ Some t → slice_get log i ≡ Some b → lookup (eq t.0) new ≡ slice_get (values_of new) b.0
    found_value i t b p q = (Found-position (eq t.0) new b.0 (ap (position (eq t.0)) reads.keys ∙ added.places i t b p q)).value

    opened_new : (k : K) (h : Held A) → lookup (eq k) new ≡ Some h → opened rules h.read ≡ opened_at eq same rules old k
    opened_new k h at = sym (ap (λ o. opened rules (option_and_then (λ (x : Held A). x.read) o)) at) ∙ ap (λ (o : K → A). o k) (opened_alike eq same rules old new reads)

    sums_of : (ts : List (K × Change E)) → StandsFor eq same rules old ts → AreSumsOf eq same rules new (ts ++ cs)
    sums_of ts stands = added.sums ts (record { amounts = stands.amounts; each = stands.each })

    settles_touched : All (λ (b : ℕ × Revision A). SettlesAt same rules new b.0) log → All (λ t. IsSome (lookup (eq t.0) old)) cs → (ts : List (K × Change E)) → StandsFor eq same rules old ts → (k : K) → list_any (λ t. eq k t.0) cs ≡ true
        → Settles rules (opened_at eq same rules old k) (total_of eq (ts ++ cs) k)
    settles_touched all there ts stands k touched =
        let f = found_at (λ t. eq k t.0) cs touched in
        let at : slice_get cs f.0 ≡ Some f.1 = slice_get-get_or cs f.0 f.1 f.2 ∙ ap Some (f.3 f.1) in
        let within : f.0 < length log = omega (arith, f.2, added.all) in
        let b = there_is log f.0 within in
        let h = is_there (lookup (eq k) new) (there_alike eq same rules old new k reads (registered_at eq laws same rules old cs k there touched)) in
        let value : slice_get (values_of new) b.0.0 ≡ Some h.0 = sym (found_value f.0 f.1 b.0 at b.1) ∙ sym (lookup_equal eq laws new k f.1.0 f.4) ∙ h.1 in
        let settles : SettlesAt same rules new b.0.0 = subst (λ (x : ℕ × Revision A). SettlesAt same rules new x.0) (get_or_from_slice_get log f.0 b.0 b.0 b.1) (all f.0 b.0 within) in
        subst (λ a. Settles rules a (total_of eq (ts ++ cs) k)) (opened_new k h.0 h.1) (settles h.0 value (total_of eq (ts ++ cs) k) ((sums_of ts stands).each k h.0 h.1))

    settles_whole : All (λ (b : ℕ × Revision A). SettlesAt same rules new b.0) log → All (λ t. IsSome (lookup (eq t.0) old)) cs → (ts : List (K × Change E)) → StandsFor eq same rules old ts → (k : K) → list_any (λ t. eq k t.0) (ts ++ cs) ≡ true
        → Settles rules (opened_at eq same rules old k) (total_of eq (ts ++ cs) k)
    settles_whole all there ts stands k touched = by (list_any (λ t. eq k t.0) cs) refl
      where
        by : (b : Bool) → list_any (λ t. eq k t.0) cs ≡ b → Settles rules (opened_at eq same rules old k) (total_of eq (ts ++ cs) k)
        by true e = settles_touched all there ts stands k e
        by false e = subst (Settles rules (opened_at eq same rules old k)) (sym (total_untouched eq laws same rules old ts cs k e))
            (settles_at eq laws same rules old ts k stands.settled (either (list_any (λ t. eq k t.0) ts) (list_any (λ t. eq k t.0) cs) (sym (list_any-append (λ t. eq k t.0) ts cs) ∙ touched) e))

    -- a candidate whose keys all settle is taken
    pub taken_whole : All (λ (b : ℕ × Revision A). SettlesAt same rules new b.0) log → All (λ t. IsSome (lookup (eq t.0) old)) cs → IsTaken eq same rules old new cs
    taken_whole all there ts stands =
        let settled : SettledBy eq same rules old (ts ++ cs) = all_touched eq laws (λ k. Settles rules (opened_at eq same rules old k) (total_of eq (ts ++ cs) k)) (ts ++ cs) (settles_whole all there ts stands) in (
          settled,
          record {
            settled = settled_back eq same rules old new (ts ++ cs) reads settled;
            registered = all_touched eq laws (λ k. IsSome (lookup (eq k) new)) (ts ++ cs) (λ k touched. there_alike eq same rules old new k reads (registered_either eq laws same rules old ts cs k stands.registered there touched));
            amounts = (sums_of ts stands).amounts;
            each = (sums_of ts stands).each;
          },
        )

    -- a candidate with a key that doesn't settle is refused
    pub refused_whole : HasFailing same rules new log → IsRefused eq same rules old cs
    refused_whole failing us sums settled =
        let within : failing.0 < length cs = let l = slice_get_within log failing.0 failing.1 failing.2 in omega (arith, l, added.all) in
        let t = there_is cs failing.0 within in
        let k = t.0.0 in
        let h = failing.3.0 in
        let at : lookup (eq k) new ≡ Some h = found_value failing.0 t.0 failing.1 t.1 failing.2 ∙ failing.3.1 in
        let touched : list_any (λ s. eq k s.0) cs ≡ true = list_any_at (λ s. eq k s.0) cs failing.0 t.0 within (subst (λ (s : K × Change E). eq k s.0 ≡ true) (sym (get_or_from_slice_get cs failing.0 t.0 t.0 t.1)) (laws.refl k)) in
        let there = settles_at eq laws same rules old (us ++ cs) k settled (any_right eq laws same rules old (λ s. eq k s.0) us cs touched) in
        failing.3.2 (total_of eq (us ++ cs) k) ((added.sums us sums).each k h at) (subst (λ a. Settles rules a (total_of eq (us ++ cs) k)) (sym (opened_new k h at)) there)

    pub tried_whole : (b : Bool) → MatchBool b (All (λ (x : ℕ × Revision A). SettlesAt same rules new x.0) log) (HasFailing same rules new log) → All (λ t. IsSome (lookup (eq t.0) old)) cs
        → MatchBool b (IsTaken eq same rules old new cs) (IsRefused eq same rules old cs)
    tried_whole true all there = taken_whole all there
    tried_whole false failing there = refused_whole failing
