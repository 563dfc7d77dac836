-- A candidate that is taken on top of what was taken.
use Rattle.std.proofs.Common.{◌≡◌, ◌+◌, Bool, true, false, ◌||◌, List, ◌++◌, get_or, Option, None, Some, refl, sym, ap, ◌∙◌, arith, true≢false}
use Rattle.std.specs.Prelude.{IsSome, is_some, option_and_then}
use Rattle.std.specs.List.{list_any, All}
use Rattle.std.specs.Cmp.{IsEquivalence}
use Rattle.std.specs.Map.{lookup}
use Rattle.std.specs.Option.{option_map}
use Rattle.std.proofs.lemmas.List.{append-nil}
use Rattle.std.proofs.lemmas.List.Folds.{list_any-append, list_any_at}
use Rattle.ledger_transfers.specs.declared.change.Change.{Change}
use Rattle.ledger_transfers.specs.declared.held.Held.{Held}
use Rattle.ledger_transfers.specs.declared.totals.Totals.{Totals}
use Rattle.ledger_transfers.specs.Rules.{Rules}
use Rattle.ledger_transfers.specs.Touches.{total_of, no_total}
use Rattle.ledger_transfers.specs.Settling.{opened}
use Rattle.ledger_transfers.specs.Taking.{merged}
use Rattle.ledger_transfers.specs.Selecting.{opened_at, AreReadBy}
use Rattle.ledger_transfers.proofs.TotalLemmas.{total_by-none}
use Rattle.ledger_transfers.proofs.DecideLemmas.{total_by-append, registered_at}

pub merged_none : {E : Type 0} (t : Totals E) → merged t no_total ≡ t
merged_none t = λ i. record {
  debits = (let e : t.debits + 0 ≡ t.debits = omega arith in e) i;
  credits = (let e : t.credits + 0 ≡ t.credits = omega arith in e) i;
  effects = append-nil t.effects i;
}

pub either : (a b : Bool) → (a || b) ≡ true → b ≡ false → a ≡ true
either true b h e = refl
either false b h e = sym e ∙ h

pub is_there : {X : Type 0} (o : Option X) → IsSome o → (x : X) × (o ≡ Some x)
is_there None h = absurd (true≢false (sym h))
is_there (Some x) h = (x, refl)

-- what holds of each key that is touched holds of each touch
module _ {K E : Type 0} (eq : K → K → Bool) (laws : IsEquivalence eq) where
  pub all_touched : (P : K → Type 0) (us : List (K × Change E)) → ((k : K) → list_any (λ t. eq k t.0) us ≡ true → P k) → All (λ t. P t.0) us
  all_touched P us h = λ i d l. h (get_or us i d).0 (list_any_at (λ t. eq (get_or us i d).0 t.0) us i d l (laws.refl (get_or us i d).0))

-- the reads alone say what a key opens with
module _ {A E K : Type 0} (eq : K → K → Bool) (same : A → A → Bool) (rules : Rules A E) where
  read_of : (o : Option (Held A)) → option_and_then (λ (h : Held A). h.read) o ≡ option_and_then (λ (r : Option A). r) (option_map (λ (h : Held A). h.read) o)
  read_of None = refl
  read_of (Some h) = refl

  pub opened_alike : (old new : List (K × Held A)) → AreReadBy eq old new → opened_at eq same rules new ≡ opened_at eq same rules old
  opened_alike old new r = λ i k. ap (opened rules) (read_of (lookup (eq k) new) ∙ ap (option_and_then (λ (r : Option A). r)) (r.reads k) ∙ sym (read_of (lookup (eq k) old))) i

  there_of : (o : Option (Held A)) → is_some (option_map (λ (h : Held A). h.read) o) ≡ is_some o
  there_of None = refl
  there_of (Some h) = refl

  pub there_alike : (old new : List (K × Held A)) (k : K) → AreReadBy eq old new → IsSome (lookup (eq k) old) → IsSome (lookup (eq k) new)
  there_alike old new k r h = sym (there_of (lookup (eq k) new)) ∙ ap is_some (r.reads k) ∙ there_of (lookup (eq k) old) ∙ h

module _ {A E K : Type 0} (eq : K → K → Bool) (laws : IsEquivalence eq) (same : A → A → Bool) (rules : Rules A E) (entries : List (K × Held A)) where
  pub total_untouched : (ts cs : List (K × Change E)) (k : K) → list_any (λ t. eq k t.0) cs ≡ false → total_of eq (ts ++ cs) k ≡ total_of eq ts k
  total_untouched ts cs k u = total_by-append (λ t. eq k t.0) ts cs ∙ ap (merged (total_of eq ts k)) (total_by-none (λ t. eq k t.0) cs u) ∙ merged_none (total_of eq ts k)

  pub registered_either : (ts cs : List (K × Change E)) (k : K) → All (λ t. IsSome (lookup (eq t.0) entries)) ts → All (λ t. IsSome (lookup (eq t.0) entries)) cs → list_any (λ t. eq k t.0) (ts ++ cs) ≡ true → IsSome (lookup (eq k) entries)
  registered_either ts cs k before all touched = by (list_any (λ t. eq k t.0) cs) refl
    where
      by : (b : Bool) → list_any (λ t. eq k t.0) cs ≡ b → IsSome (lookup (eq k) entries)
      by true e = registered_at eq laws same rules entries cs k all e
      by false e = registered_at eq laws same rules entries ts k before (either (list_any (λ t. eq k t.0) ts) (list_any (λ t. eq k t.0) cs) (sym (list_any-append (λ t. eq k t.0) ts cs) ∙ touched) e)
