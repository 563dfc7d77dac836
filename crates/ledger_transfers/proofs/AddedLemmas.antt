-- A touch that is added to the sums of its key.
use mathlib.Core.Logic.{◌⊎◌, inl, inr}
use Rattle.std.proofs.Common.{◌≡◌, ℕ, ◌≤◌, zero, suc, Bool, true, false, cond, ◌||◌, List, [], ◌∷◌, ◌++◌, slice_get, position, None, Some, MatchBool, refl, sym, ap, subst, ◌∙◌, true≢false}
use Rattle.std.specs.Prelude.{is_some, option_and_then}
use Rattle.std.specs.List.{IsDistinct, list_any}
use Rattle.std.specs.Cmp.{IsEquivalence}
use Rattle.std.specs.Map.{lookup, keys_of, values_of}
use Rattle.std.specs.Option.{option_map}
use Rattle.std.proofs.lemmas.List.{append_assoc}
use Rattle.std.proofs.lemmas.Map.Made.{lookup_key_passes}
use Rattle.indexmap.specs.IndexMap.{IndexMap, IsUnique}
use Rattle.indexmap.proofs.MapLemmas.{Found-position, index-first}
use Rattle.indexmap.proofs.RemoveLemmas.{own_first}
use Rattle.indexmap.proofs.CallerLemmas.{updates-with_value_at}
use Rattle.ledger_transfers.specs.declared.change.Change.{Change}
use Rattle.ledger_transfers.specs.declared.held.Held.{Held}
use Rattle.ledger_transfers.specs.declared.revise.Revision.{Revision}
use Rattle.ledger_transfers.specs.Rules.{Rules}
use Rattle.ledger_transfers.specs.Touches.{total_of, with_change, max_amount}
use Rattle.ledger_transfers.specs.Settling.{Settles, opened}
use Rattle.ledger_transfers.specs.Taking.{IsHeld, merged}
use Rattle.ledger_transfers.specs.Selecting.{AreReadBy}
use Rattle.ledger_transfers.specs.Revising.{revised, revised_at}
use Rattle.ledger_transfers.specs.Trying.{IsRevision, SettlesHeld, FailsHeld, SettlesAt, FailsAt, AreSumsOf, IsAdded, IsRefused}
use Rattle.ledger_transfers.proofs.TotalLemmas.{total_by-yes, total_by-no}
use Rattle.ledger_transfers.proofs.PlanLemmas.{total_at_equal}
use Rattle.ledger_transfers.proofs.SelectLemmas.{Some_injective, lookup_equal}
use Rattle.ledger_transfers.proofs.DecideLemmas.{total_by-append, settles_at, any_right}
use Rattle.ledger_transfers.proofs.ReviseLemmas.{revised_written, keys_revised}

module _ {K X : Type 0} where
  -- the key and the value of an entry stand at its place
  pub value_at : (es : List (K × X)) (i : ℕ) (k : K) (x : X) → slice_get es i ≡ Some (k, x) → slice_get (values_of es) i ≡ Some x
  value_at [] i k x h = absurd (true≢false (sym (ap is_some h)))
  value_at (e ∷ es) zero k x h = ap (λ (p : K × X). Some p.1) (Some_injective e (k, x) h)
  value_at (e ∷ es) (suc i) k x h = value_at es i k x h

  pub key_of : (es : List (K × X)) (i : ℕ) (k : K) (x : X) → slice_get es i ≡ Some (k, x) → slice_get (keys_of es) i ≡ Some k
  key_of [] i k x h = absurd (true≢false (sym (ap is_some h)))
  key_of (e ∷ es) zero k x h = ap (λ (p : K × X). Some p.0) (Some_injective e (k, x) h)
  key_of (e ∷ es) (suc i) k x h = key_of es i k x h

  -- the entry at the place where a key is looked up is the one that is found
  pub found_there : (p : K → Bool) (es : List (K × X)) (i : ℕ) (k : K) (x : X) → position p (keys_of es) ≡ Some i → slice_get es i ≡ Some (k, x) → (lookup p es ≡ Some x) × (p k ≡ true)
  found_there p es i k x h at =
      let found = Found-position p es i h in
      (found.value ∙ value_at es i k x at, lookup_key_passes p es k (found.key ∙ key_of es i k x at))

module _ {A E K : Type 0} (same : A → A → Bool) (rules : Rules A E) where
  pub settles_there : (es : List (K × Held A)) (i : ℕ) (h : Held A) (b : Bool) → slice_get (values_of es) i ≡ Some h → MatchBool b (SettlesHeld same rules h) (FailsHeld same rules h)
      → MatchBool b (SettlesAt same rules es i) (FailsAt same rules es i)
  settles_there es i h true at s = λ g there. subst (SettlesHeld same rules) (Some_injective h g (sym at ∙ there)) s
  settles_there es i h false at f = (h, at, f)

module _ {A E K : Type 0} (eq : K → K → Bool) (laws : IsEquivalence eq) (same : A → A → Bool) (rules : Rules A E) where
  -- a key is looked up at the place of an equal one
  pub placed_at : (es : List (K × Held A)) (i : ℕ) (k q : K) (h : Held A) → IsDistinct eq (keys_of es) → slice_get es i ≡ Some (q, h) → eq k q ≡ true → position (eq k) (keys_of es) ≡ Some i
  placed_at es i k q h distinct at e = ap (λ (p : K → Bool). position p (keys_of es)) (λ j x. laws.congr k q x e j) ∙ index-first (eq q) es i (own_first eq laws es i q h distinct at)

  -- the key's entry has new sums, and all others stay
  abbrev IsWritten : List (K × Held A) → List (K × Held A) → K → Held A → Type 0
  IsWritten old new k h = (q : K) → lookup (eq q) new ≡ cond (eq k q) (Some h) (lookup (eq q) old)

  written_at : (old new : List (K × Held A)) (k q : K) (h g : Held A) → IsWritten old new k h → lookup (eq q) new ≡ Some g → ((eq k q ≡ true) × (h ≡ g)) ⊎ ((eq k q ≡ false) × (lookup (eq q) old ≡ Some g))
  written_at old new k q h g w at = by (eq k q) refl (sym (w q) ∙ at)
    where
      by : (b : Bool) → eq k q ≡ b → cond b (Some h) (lookup (eq q) old) ≡ Some g → ((eq k q ≡ true) × (h ≡ g)) ⊎ ((eq k q ≡ false) × (lookup (eq q) old ≡ Some g))
      by true e x = inl (e, Some_injective h g x)
      by false e x = inr (e, x)

  sums_more : (old new : List (K × Held A)) (t : K × Change E) (h : Held A) (r : Revision A) → lookup (eq t.0) old ≡ Some h → IsRevision same rules h t.1 (Some r) → IsWritten old new t.0 (revised r h)
      → (us : List (K × Change E)) → AreSumsOf eq same rules old us → AreSumsOf eq same rules new (us ++ t ∷ [])
  sums_more old new t h r at is w us sums = record {
    amounts = λ k g there. elim (written_at old new t.0 k (revised r h) g w there) [
      | inl y ↦ subst (λ (x : Held A). rules.balance_of (opened rules x.read) ≤ max_amount) y.1 (sums.amounts t.0 h at)
      | inr n ↦ sums.amounts k g n.1
    ];
    each = λ k g there. elim (written_at old new t.0 k (revised r h) g w there) [
      | inl y ↦
          let total : total_of eq (us ++ t ∷ []) k ≡ with_change (total_of eq us t.0) t.1 = total_by-yes (λ s. eq k s.0) us t (laws.symm k t.0 ∙ y.0) ∙ ap (λ u. with_change u t.1) (sym (total_at_equal eq laws us t.0 k y.0)) in
          subst (λ (x : Held A). IsHeld same rules x.read x.sums (total_of eq (us ++ t ∷ []) k)) y.1
          (subst (IsHeld same rules h.read (revised r h).sums) (sym total) (is (total_of eq us t.0) (sums.each t.0 h at)))
      | inr n ↦ subst (IsHeld same rules g.read g.sums) (sym (total_by-no (λ s. eq k s.0) us t (laws.symm k t.0 ∙ n.0))) (sums.each k g n.1)
    ];
  }

  reads_more : (old new : List (K × Held A)) (k : K) (h : Held A) (r : Revision A) → keys_of new ≡ keys_of old → lookup (eq k) old ≡ Some h → IsWritten old new k (revised r h) → AreReadBy eq old new
  reads_more old new k h r keys at w = record {
    keys = keys;
    reads = λ q. ap (option_map (λ (x : Held A). x.read)) (w q) ∙ by q (eq k q) refl;
  }
    where
      by : (q : K) (b : Bool) → eq k q ≡ b → option_map (λ (x : Held A). x.read) (cond b (Some (revised r h)) (lookup (eq q) old)) ≡ option_map (λ (x : Held A). x.read) (lookup (eq q) old)
      by q true e = ap (option_map (λ (x : Held A). x.read)) (sym at ∙ lookup_equal eq laws old k q e)
      by q false e = refl

  -- one touch more, by a write at the place of its key
  pub added_at : {S : Type 0} (m : IndexMap K (Held A) S) (new : List (K × Held A)) (t : K × Change E) (i : ℕ) (q : K) (h : Held A) (r b : Revision A) → IsUnique eq m → position (eq t.0) (keys_of m.entries) ≡ Some i
      → slice_get m.entries i ≡ Some (q, h) → IsRevision same rules h t.1 (Some r) → new ≡ revised_at m.entries i r → revised_at new i b ≡ m.entries → IsAdded eq same rules m.entries new t (i, b)
  added_at m new t i q h r b unique place at is w back =
      let found = found_there (eq t.0) m.entries i q h place at in
      let written : IsWritten m.entries new t.0 (revised r h) = λ k.
      ap (lookup (eq k)) (w ∙ sym (revised_written m.entries i h r (value_at m.entries i q h at))) ∙ (updates-with_value_at m i (revised r h) laws unique q h at).0 k
      ∙ ap (λ c. cond c (Some (revised r h)) (lookup (eq k) m.entries)) (sym (laws.congr t.0 q k found.1)) in
      record {
        place = place;
        back = back;
        reads = reads_more m.entries new t.0 h r (ap keys_of w ∙ keys_revised m.entries i r) found.0 written;
        sums = sums_more m.entries new t h r found.0 is written;
      }

  -- a touch with which its key never settles
  pub refused_touch : (es : List (K × Held A)) (t : K × Change E) (i : ℕ) (q : K) (h : Held A) → position (eq t.0) (keys_of es) ≡ Some i → slice_get es i ≡ Some (q, h) → IsRevision same rules h t.1 None
      → (more : List (K × Change E)) → IsRefused eq same rules es (t ∷ more)
  refused_touch es t i q h place at is more us sums settled =
      let found = found_there (eq t.0) es i q h place at in
      let touched : list_any (λ s. eq t.0 s.0) (t ∷ more) ≡ true = ap (λ b. b || list_any (λ s. eq t.0 s.0) more) (laws.refl t.0) in
      let there = settles_at eq laws same rules es (us ++ t ∷ more) t.0 settled (any_right eq laws same rules es (λ s. eq t.0 s.0) us (t ∷ more) touched) in
      let total : total_of eq (us ++ t ∷ more) t.0 ≡ merged (with_change (total_of eq us t.0) t.1) (total_of eq more t.0) =
      ap (λ vs. total_of eq vs t.0) (sym (append_assoc us (t ∷ []) more)) ∙ total_by-append (λ s. eq t.0 s.0) (us ++ t ∷ []) more
      ∙ ap (λ u. merged u (total_of eq more t.0)) (total_by-yes (λ s. eq t.0 s.0) us t (laws.refl t.0)) in
      is (total_of eq us t.0) (sums.each t.0 h found.0) (total_of eq more t.0) (sums.amounts t.0 h found.0)
      (subst (λ o. Settles rules (opened rules (option_and_then (λ (x : Held A). x.read) o)) (merged (with_change (total_of eq us t.0) t.1) (total_of eq more t.0))) found.0
      (subst (Settles rules (opened rules (option_and_then (λ (x : Held A). x.read) (lookup (eq t.0) es)))) total there))
