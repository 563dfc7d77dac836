-- What a look-up finds after an entry was put into a map's list.
use Rattle.std.proofs.Common.{◌≡◌, ℕ, ◌<◌, true, false, cond, List, [], ◌∷◌, Some, refl, ap, ◌∙◌, subst, Ordering}
use Rattle.std.specs.declared.cmp.Ordering.TheVariants.{Less, Equal, Greater}
use Rattle.std.specs.Ordering.{nat_cmp, is_eq, ordering_then, match_ordering}
use Rattle.std.specs.Cmp.{nat_cmp_total}
use Rattle.std.specs.Map.{lookup}
use Rattle.std.specs.BTreeMap.{insert_entry, is_at}
use Rattle.std.proofs.lemmas.Cmp.{tied_itself, ranked}
use Rattle.std.specs.Ordering.{MatchOrdering}
use Rattle.simulate_parts.specs.Tracker.{round_cmp, peer_cmp}
use Rattle.simulate_parts.specs.declared.peer.Round.{Round}

-- an order that tells keys apart
pub record Exact {K : Type 0} (cmp : K → K → Ordering) : Type 0 where
  pub same : (a b : K) → is_eq (cmp a b) ≡ true → a ≡ b
  pub itself : (a : K) → is_eq (cmp a a) ≡ true

is_eq-Equal : (o : Ordering) → is_eq o ≡ true → o ≡ Equal
is_eq-Equal Less h = absurd (cc)
is_eq-Equal Equal h = refl
is_eq-Equal Greater h = absurd (cc)

same_number : (a b : ℕ) → is_eq (nat_cmp a b) ≡ true → a ≡ b
same_number a b h = subst (λ o. MatchOrdering o (a < b) (a ≡ b) (b < a)) (is_eq-Equal _ h) (ranked a b _ refl)

number_itself : (a : ℕ) → is_eq (nat_cmp a a) ≡ true
number_itself a = ap is_eq (tied_itself nat_cmp_total a)

pub exact_numbers : Exact nat_cmp
exact_numbers = record { same = same_number; itself = number_itself }

pub exact_peers : Exact peer_cmp
exact_peers = record {
  same = λ a b h. ap (λ n. record { 0 = n }) (same_number a.0 b.0 h);
  itself = λ a. number_itself a.0;
}

both_equal : (o p : Ordering) → is_eq (ordering_then o p) ≡ true → (is_eq o ≡ true) × (is_eq p ≡ true)
both_equal Less p h = absurd (cc)
both_equal Equal p h = (refl, h)
both_equal Greater p h = absurd (cc)

same_round : (a b : Round) → is_eq (round_cmp a b) ≡ true → a ≡ b
same_round a b h =
    let both = both_equal (nat_cmp a.epoch b.epoch) (nat_cmp a.view b.view) h in
    let e : a.epoch ≡ b.epoch = same_number _ _ both.0 in
    let v : a.view ≡ b.view = same_number _ _ both.1 in
    let pair : ℕ → ℕ → Round = λ x y. record { epoch = x; view = y } in
    ap (λ x. pair x a.view) e ∙ ap (pair b.epoch) v

round_itself : (a : Round) → is_eq (round_cmp a a) ≡ true
round_itself a = rw (tied_itself nat_cmp_total a.epoch, tied_itself nat_cmp_total a.view) refl

pub exact_rounds : Exact round_cmp
exact_rounds = record { same = same_round; itself = round_itself }

-- at the key that was put
pub lookup_put : {K X : Type 0} (cmp : K → K → Ordering) → Exact cmp → (es : List (K × X)) (k : K) (v : X) → lookup (is_at (cmp k)) (insert_entry cmp es k v) ≡ Some v
lookup_put cmp exact [] k v = rw (exact.itself k) refl
lookup_put {K} {X} cmp exact (e ∷ es) k v =
    put_step (lookup_put cmp exact es k v) (cmp k e.0) refl
  where
    put_step : lookup (is_at (cmp k)) (insert_entry cmp es k v) ≡ Some v → (o : Ordering) → cmp k e.0 ≡ o → lookup (is_at (cmp k)) (match_ordering o ((k, v) ∷ e ∷ es) ((e.0, v) ∷ es) (e ∷ insert_entry cmp es k v)) ≡ Some v
    put_step rest Less h = rw (exact.itself k) refl
    put_step rest Equal h = rw h refl
    put_step rest Greater h = rw h rest

-- at another key
pub lookup_beside : {K X : Type 0} (cmp : K → K → Ordering) → Exact cmp → (es : List (K × X)) (k q : K) (v : X) → is_eq (cmp q k) ≡ false → lookup (is_at (cmp q)) (insert_entry cmp es k v) ≡ lookup (is_at (cmp q)) es
lookup_beside cmp exact [] k q v apart = rw apart refl
lookup_beside {K} {X} cmp exact (e ∷ es) k q v apart =
    beside_step (lookup_beside cmp exact es k q v apart) (cmp k e.0) refl
  where
    beside_step : lookup (is_at (cmp q)) (insert_entry cmp es k v) ≡ lookup (is_at (cmp q)) es → (o : Ordering) → cmp k e.0 ≡ o → lookup (is_at (cmp q)) (match_ordering o ((k, v) ∷ e ∷ es) ((e.0, v) ∷ es) (e ∷ insert_entry cmp es k v)) ≡ lookup (is_at (cmp q)) (e ∷ es)
    beside_step rest Less h = rw apart refl
    beside_step rest Equal h =
        let key : k ≡ e.0 = exact.same k e.0 (ap is_eq h) in
        let off : is_eq (cmp q e.0) ≡ false = subst (λ x. is_eq (cmp q x) ≡ false) key apart in
        rw off refl
    beside_step rest Greater h = ap (λ r. cond (is_eq (cmp q e.0)) (Some e.1) r) rest
