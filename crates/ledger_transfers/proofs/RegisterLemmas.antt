-- Keys that are registered, and their slots.
use Rattle.std.proofs.Common.{◌≡◌, ℕ, ◌+◌, ◌-◌, ◌<◌, ◌≤◌, Bool, true, false, cond, List, [], ◌∷◌, ◌++◌, length, get_or, slice_get, take, drop, map, reverse, Option, None, Some, Result, Ok, Err, refl, sym, ap, subst, ◌∙◌, arith, true≢false, suc, zero, append_assoc, add-one}
use Rattle.std.specs.Prelude.{IsSome, is_some, option_and_then}
use Rattle.std.specs.List.{list_any, IsDistinct, zip}
use Rattle.std.specs.Cmp.{IsEquivalence}
use Rattle.std.specs.Map.{lookup, keys_of}
use Rattle.std.specs.Option.{option_map}
use Rattle.std.proofs.Math.Seq.{drop-cons}
use Rattle.std.proofs.lemmas.List.{take_more, take_all, length_push, map-append, reverse-append}
use Rattle.ledger_strategy.specs.Parts.{AreResults}
use Rattle.std.proofs.lemmas.Option.{get_or_from_slice_get}
use Rattle.std.specs.Result.{OnOk, is_err}
use Rattle.std.proofs.lemmas.List.Elements.{All-from_recursion, All-head, All-tail, All-push}
use Rattle.std.proofs.lemmas.Map.Keys.{IsDistinct-head, IsDistinct-tail}
use Rattle.ledger_transfers.specs.declared.change.Change.{Change}
use Rattle.ledger_transfers.specs.declared.slot.Slot.{Slot}
use Rattle.ledger_transfers.specs.declared.held.Held.{Held}
use Rattle.ledger_transfers.specs.declared.totals.Totals.{Totals}
use Rattle.ledger_transfers.specs.Rules.{Rules, AccountLaws}
use Rattle.ledger_transfers.specs.Touches.{total_of, max_amount, no_total}
use Rattle.ledger_transfers.specs.Settling.{Settles, SettlesTo, opened, folded, final_balance, SameSlot, slot_of}
use Rattle.ledger_transfers.specs.Taking.{IsHeld, kept}
use Rattle.ledger_transfers.specs.Selecting.{StandsFor, opened_at}
use Rattle.ledger_transfers.specs.Registering.{registered, fresh, IsSelection, IsKeySlot, AreSettled, AreAmounts}
use Rattle.ledger_transfers.proofs.TotalLemmas.{total_by-none}
use Rattle.ledger_transfers.proofs.AccountLemmas.{outcome_trans}
use Rattle.ledger_transfers.proofs.SettleLemmas.{settles_to}
use Rattle.ledger_transfers.proofs.SelectLemmas.{Some_injective}
use Rattle.ledger_transfers.proofs.DecideLemmas.{settles_at, registered_at}
use Rattle.ledger_transfers.proofs.TakenLemmas.{all_touched}

module _ {A K : Type 0} (eq : K → K → Bool) (laws : IsEquivalence eq) where
  -- a key after the registered ones isn't registered
  pub absent : (ks : List K) (n : ℕ) (d : K) (es : List (K × Held A)) → IsDistinct eq ks → n < length ks → keys_of es ≡ take n ks → lookup (eq (get_or ks n d)) es ≡ None
  absent [] n d es h l e = absurd (omega (arith, l))
  absent (x ∷ xs) zero d [] h l e = refl
  absent (x ∷ xs) zero d (f ∷ es) h l e = cc
  absent (x ∷ xs) (suc n) d [] h l e = cc
  absent (x ∷ xs) (suc n) d (f ∷ es) h l e =
      let apart : eq x (get_or xs n d) ≡ false = All-from_recursion (λ y. eq x y ≡ false) xs (IsDistinct-head eq x xs h) n d (omega (arith, l)) in
      let first : f.0 ≡ x = cc in
      let rest : keys_of es ≡ take n xs = cc in
      ap (λ c. cond c (Some f.1) (lookup (eq (get_or xs n d)) es)) (ap (eq (get_or xs n d)) first ∙ laws.symm (get_or xs n d) x ∙ apart) ∙ absent xs n d es (IsDistinct-tail eq x xs h) (omega (arith, l)) rest

module _ {A K : Type 0} where
  -- one read more
  pub registered_push : (keys : List K) (es : List (K × Held A)) (r : Option A) (rs : List (Option A)) (d : K) → length es < length keys
      → registered keys (es ++ (get_or keys (length es) d, fresh r) ∷ []) rs ≡ registered keys es (r ∷ rs)
  registered_push keys es r rs d l =
      let row : K × Held A = (get_or keys (length es) d, fresh r) in
      let rows = λ (ds : List K) (us : List (Option A)). map (λ (p : K × Option A). let q : K × Held A = (p.0, fresh p.1) in q) (zip ds us) in
      ap (λ n. (es ++ row ∷ []) ++ rows (drop n keys) rs) (length_push es row ∙ add-one (length es))
      ∙ append_assoc es (row ∷ []) (rows (drop (suc (length es)) keys) rs)
      ∙ sym (ap (λ ds. es ++ rows ds (r ∷ rs)) (drop-cons keys (length es) d l))

  pub selection_push : (eq : K → K → Bool) (keys : List K) (es : List (K × Held A)) (h : Held A) (d : K) → length es < length keys → IsSelection eq keys es → IsSelection eq keys (es ++ (get_or keys (length es) d, h) ∷ [])
  selection_push eq keys es h d l s =
      let row : K × Held A = (get_or keys (length es) d, h) in
      record {
        front = map-append (λ (e : K × Held A). e.0) es (row ∷ []) ∙ ap (λ ks. ks ++ row.0 ∷ []) s.front ∙ sym (take_more keys (length es) d l) ∙ sym (ap (λ n. take n keys) (length_push es row));
        distinct = s.distinct;
      }

joined : {X : Type 0} → Option X → Option X → Option X
joined (Some x) y = Some x
joined None y = y

module _ {A E K : Type 0} (eq : K → K → Bool) (laws : IsEquivalence eq) (same : A → A → Bool) (equiv : IsEquivalence same) (rules : Rules A E) where
  -- a key of both lists is found in the first
  found_in : (p : K → Bool) (es fs : List (K × Held A)) (h : Held A) → lookup p es ≡ Some h → lookup p (es ++ fs) ≡ Some h
  found_in p [] fs h e = absurd (true≢false (sym (ap is_some e)))
  found_in p (f ∷ es) fs h e = by (p f.0) e (found_in p es fs h)
    where
      by : (b : Bool) → cond b (Some f.1) (lookup p es) ≡ Some h → (lookup p es ≡ Some h → lookup p (es ++ fs) ≡ Some h) → cond b (Some f.1) (lookup p (es ++ fs)) ≡ Some h
      by true e rest = e
      by false e rest = rest e

  not_found : (p : K → Bool) (es fs : List (K × Held A)) → lookup p es ≡ None → lookup p (es ++ fs) ≡ lookup p fs
  not_found p [] fs e = refl
  not_found p (f ∷ es) fs e = by (p f.0) e (not_found p es fs)
    where
      by : (b : Bool) → cond b (Some f.1) (lookup p es) ≡ None → (lookup p es ≡ None → lookup p (es ++ fs) ≡ lookup p fs) → cond b (Some f.1) (lookup p (es ++ fs)) ≡ lookup p fs
      by true e rest = absurd (true≢false (ap is_some e))
      by false e rest = rest e

  abbrev rows : List K → List (Option A) → List (K × Held A)
  rows ks rs = map (λ p. (p.0, fresh p.1)) (zip ks rs)

  -- a new row is fresh
  row_of : (p : K → Bool) (ks : List K) (rs : List (Option A)) (h : Held A) → AreAmounts rules rs → lookup p (rows ks rs) ≡ Some h → (r : Option A) × (fresh r ≡ h) × (rules.balance_of (opened rules r) ≤ max_amount)
  row_of p [] rs h a e = absurd (true≢false (sym (ap is_some e)))
  row_of p (k ∷ ks) [] h a e = absurd (true≢false (sym (ap is_some e)))
  row_of p (k ∷ ks) (r ∷ rs) h a e = by (p k) e (row_of p ks rs h (All-tail (λ read. rules.balance_of (opened rules read) ≤ max_amount) r rs a))
    where
      by : (b : Bool) → cond b (Some (fresh r)) (lookup p (rows ks rs)) ≡ Some h → (lookup p (rows ks rs) ≡ Some h → (s : Option A) × (fresh s ≡ h) × (rules.balance_of (opened rules s) ≤ max_amount))
          → (s : Option A) × (fresh s ≡ h) × (rules.balance_of (opened rules s) ≤ max_amount)
      by true e rest = (r, Some_injective (fresh r) h e, All-head (λ read. rules.balance_of (opened rules read) ≤ max_amount) r rs a)
      by false e rest = rest e

  is_found : (o : Option (Held A)) → IsSome o → (h : Held A) × (o ≡ Some h)
  is_found None h = absurd (true≢false (sym h))
  is_found (Some x) h = (x, refl)

  -- registered keys keep what the selection stands for
  pub stands_registered : (keys : List K) (es : List (K × Held A)) (reads : List (Option A)) (ts : List (K × Change E)) → AreAmounts rules reads → StandsFor eq same rules es ts → StandsFor eq same rules (registered keys es reads) ts
  stands_registered keys es reads ts amounts stands = record {
    settled = all_touched eq laws (λ k. Settles rules (opened_at eq same rules (registered keys es reads) k) (total_of eq ts k)) ts (λ k touched.
        let h = is_found (lookup (eq k) es) (registered_at eq laws same rules es ts k stands.registered touched) in
        subst (λ o. Settles rules (opened rules (option_and_then (λ (x : Held A). x.read) o)) (total_of eq ts k)) (h.1 ∙ sym (found_in (eq k) es (rows (drop (length es) keys) reads) h.0 h.1)) (settles_at eq laws same rules es ts k stands.settled touched));
    registered = all_touched eq laws (λ k. IsSome (lookup (eq k) (registered keys es reads))) ts (λ k touched.
        let h = is_found (lookup (eq k) es) (registered_at eq laws same rules es ts k stands.registered touched) in
        ap is_some (found_in (eq k) es (rows (drop (length es) keys) reads) h.0 h.1));
    amounts = λ k h at. amount k h at (lookup (eq k) es) refl;
    each = λ k h at. held k h at (lookup (eq k) es) refl;
  }
    where
      amount : (k : K) (h : Held A) → lookup (eq k) (registered keys es reads) ≡ Some h → (o : Option (Held A)) → lookup (eq k) es ≡ o → rules.balance_of (opened rules h.read) ≤ max_amount
      amount k h at None e =
          let row = row_of (eq k) (drop (length es) keys) reads h amounts (sym (not_found (eq k) es (rows (drop (length es) keys) reads) e) ∙ at) in
          subst (λ (x : Held A). rules.balance_of (opened rules x.read) ≤ max_amount) row.1 row.2
      amount k h at (Some g) e =
          subst (λ (x : Held A). rules.balance_of (opened rules x.read) ≤ max_amount) (Some_injective g h (sym (found_in (eq k) es (rows (drop (length es) keys) reads) g e) ∙ at)) (stands.amounts k g e)

      untouched : (k : K) → lookup (eq k) es ≡ None → (b : Bool) → list_any (λ t. eq k t.0) ts ≡ b → b ≡ false
      untouched k e true u = absurd (true≢false (sym (registered_at eq laws same rules es ts k stands.registered u) ∙ ap is_some e))
      untouched k e false u = refl

      held : (k : K) (h : Held A) → lookup (eq k) (registered keys es reads) ≡ Some h → (o : Option (Held A)) → lookup (eq k) es ≡ o → IsHeld same rules h.read h.sums (total_of eq ts k)
      held k h at None e =
          let row = row_of (eq k) (drop (length es) keys) reads h amounts (sym (not_found (eq k) es (rows (drop (length es) keys) reads) e) ∙ at) in
          let none : total_of eq ts k ≡ no_total = total_by-none (λ t. eq k t.0) ts (let b = list_any (λ t. eq k t.0) ts in untouched k e b refl) in
          let start : IsHeld same rules row.0 (fresh row.0).sums no_total = record { debits = refl; credits = refl; account = equiv.refl (opened rules row.0) } in
          subst (λ (x : Held A). IsHeld same rules x.read x.sums (total_of eq ts k)) row.1 (subst (IsHeld same rules row.0 (fresh row.0).sums) (sym none) start)
      held k h at (Some g) e =
          subst (λ (x : Held A). IsHeld same rules x.read x.sums (total_of eq ts k)) (Some_injective g h (sym (found_in (eq k) es (rows (drop (length es) keys) reads) g e) ∙ at)) (stands.each k g e)

  -- a registered key settles
  pub settles_registered : (es : List (K × Held A)) (ts : List (K × Change E)) (k : K) (h : Held A) → StandsFor eq same rules es ts → lookup (eq k) es ≡ Some h → Settles rules (opened rules h.read) (total_of eq ts k)
  settles_registered es ts k h stands at = by (list_any (λ t. eq k t.0) ts) refl
    where
      by : (b : Bool) → list_any (λ t. eq k t.0) ts ≡ b → Settles rules (opened rules h.read) (total_of eq ts k)
      by true e = subst (λ o. Settles rules (opened rules (option_and_then (λ (x : Held A). x.read) o)) (total_of eq ts k)) at (settles_at eq laws same rules es ts k stands.settled e)
      by false e =
          let amount = stands.amounts k h at in
          let start : Settles rules (opened rules h.read) no_total = record { accepted = refl; funded = omega arith; fits = omega (arith, amount) } in
          subst (Settles rules (opened rules h.read)) (sym (total_by-none (λ t. eq k t.0) ts e)) start

module _ {A E : Type 0} (same : A → A → Bool) (equiv : IsEquivalence same) (rules : Rules A E) (laws : AccountLaws same rules) where
  -- the slot of what is kept
  pub held_settles_to : (h : Held A) (total : Totals E) (done final : A) (balance : ℕ) (slot : Slot A) → IsHeld same rules h.read h.sums total → Settles rules (opened rules h.read) total
      → same done (kept rules h.read h.sums) ≡ true → balance ≡ (rules.balance_of (opened rules h.read) - h.sums.debits) + h.sums.credits → same final (rules.with_balance done balance) ≡ true
      → SameSlot same slot (slot_of same rules (opened rules h.read) final) → SettlesTo same rules (opened rules h.read) total slot
  held_settles_to h total done final balance slot held settles d is set t =
      let o = opened rules h.read in
      let sum : balance ≡ final_balance rules o total = is ∙ ap (λ n. (rules.balance_of o - n) + h.sums.credits) held.debits ∙ ap (λ n. (rules.balance_of o - total.debits) + n) held.credits in
      settles_to same equiv rules laws o o done final total balance slot (equiv.refl o)
      (outcome_trans same equiv rules laws (Some done) (Some (kept rules h.read h.sums)) (folded rules o total.effects) d held.account)
      settles.funded sum (subst (λ n. n ≤ max_amount) (sym sum) settles.fits) set t

is_ok_of : {T F : Type 0} (r : Result T F) (P : Type 0) → is_err r ≡ false → OnOk r P → P
is_ok_of (Ok x) P h p = p
is_ok_of (Err e) P h p = absurd (true≢false h)

-- what holds after a call that isn't refused
pub on_ok_of : {T F : Type 0} (r : Result T F) (P : Type 0) → is_err r ≡ false → OnOk r P → P
on_ok_of r P h p = is_ok_of r P h p

module _ {A K : Type 0} (eq : K → K → Bool) where
  -- registering the next key
  pub one_more : (keys : List K) (es new : List (K × Held A)) (k : K) (r : Option A) (rs : List (Option A)) → IsSelection eq keys es → length es < length keys → slice_get keys (length es) ≡ Some k → new ≡ es ++ (k, fresh r) ∷ []
      → IsSelection eq keys new × (registered keys new rs ≡ registered keys es (r ∷ rs)) × (length new ≡ length es + 1)
  one_more keys es new k r rs s l at is =
      let here : get_or keys (length es) k ≡ k = get_or_from_slice_get keys (length es) k k at in
      let row : new ≡ es ++ (get_or keys (length es) k, fresh r) ∷ [] = is ∙ ap (λ q. es ++ (q, fresh r) ∷ []) (sym here) in
      (subst (IsSelection eq keys) (sym row) (selection_push eq keys es (fresh r) k l s), ap (λ xs. registered keys xs rs) row ∙ registered_push keys es r rs k l, ap length is ∙ length_push es (k, fresh r))

-- the last of a list is the first of its reverse
pub reverse_push : {X : Type 0} (xs : List X) (x : X) → reverse (xs ++ x ∷ []) ≡ x ∷ reverse xs
reverse_push xs x = reverse-append xs (x ∷ [])

pub reverse_twice : {X : Type 0} (xs : List X) → reverse (reverse xs) ≡ xs
reverse_twice [] = refl
reverse_twice (x ∷ xs) = ap reverse (reverse_cons xs x) ∙ reverse_push (reverse xs) x ∙ ap (λ us. x ∷ us) (reverse_twice xs)
  where
    reverse_cons : {X : Type 0} (xs : List X) (x : X) → reverse (x ∷ xs) ≡ reverse xs ++ x ∷ []
    reverse_cons xs x = reverse-append (x ∷ []) xs

module _ {A E : Type 0} (rules : Rules A E) where
  -- reads that are amounts in the other order are amounts
  pub back : (reads turned : List (Option A)) → turned ≡ reverse reads → AreAmounts rules turned → AreAmounts rules reads
  back reads turned e a = subst (AreAmounts rules) (reverse_twice reads) (turn (reverse reads) (subst (AreAmounts rules) e a))
    where
      turn : (xs : List (Option A)) → AreAmounts rules xs → AreAmounts rules (reverse xs)
      turn [] h = h
      turn (x ∷ xs) h =
          subst (AreAmounts rules) (sym (reverse-append (x ∷ []) xs))
          (All-push (λ read. rules.balance_of (opened rules read) ≤ max_amount) (reverse xs) x (turn xs (All-tail (λ read. rules.balance_of (opened rules read) ≤ max_amount) x xs h)) (All-head (λ read. rules.balance_of (opened rules read) ≤ max_amount) x xs h))

module _ {K X : Type 0} where
  pub key_at : (es : List (K × X)) (i : ℕ) (e : K × X) → slice_get es i ≡ Some e → slice_get (keys_of es) i ≡ Some e.0
  key_at [] i e h = absurd (true≢false (sym (ap is_some h)))
  key_at (f ∷ es) zero e h = ap (option_map (λ (x : K × X). x.0)) h
  key_at (f ∷ es) (suc i) e h = key_at es i e h

module _ {A E K : Type 0} (eq : K → K → Bool) (laws : IsEquivalence eq) (same : A → A → Bool) (equiv : IsEquivalence same) (rules : Rules A E) where
  -- the registered key at a place
  pub key_place : (keys : List K) (es : List (K × Held A)) (i : ℕ) (k : K) (e : K × Held A) → length es ≡ length keys → IsSelection eq keys es → slice_get keys i ≡ Some k → slice_get es i ≡ Some e → e.0 ≡ k
  key_place keys es i k e l s at there =
      Some_injective e.0 k (sym (key_at es i e there) ∙ ap (λ ks. slice_get ks i) (s.front ∙ take_all (length es) keys (omega (arith, l))) ∙ at)

  -- the slot of the key at a place
  pub key_slot : (keys : List K) (es : List (K × Held A)) (i : ℕ) (e : K × Held A) (slot : Slot A) → length es ≡ length keys → IsSelection eq keys es → slice_get es i ≡ Some e → lookup (eq e.0) es ≡ Some e.1
      → ((total : Totals E) → IsHeld same rules e.1.read e.1.sums total → Settles rules (opened rules e.1.read) total → SettlesTo same rules (opened rules e.1.read) total slot) → IsKeySlot eq same rules keys es i slot
  key_slot keys es i e slot l sel there value settles ts stands k at =
      let key : e.0 ≡ k = key_place keys es i k e l sel at there in
      let found : lookup (eq k) es ≡ Some e.1 = sym (ap (λ q. lookup (eq q) es) key) ∙ value in
      subst (λ o. SettlesTo same rules (opened rules (option_and_then (λ (x : Held A). x.read) o)) (total_of eq ts k) slot) (sym found)
      (settles (total_of eq ts k) (stands.each k e.1 found) (settles_registered eq laws same equiv rules es ts k e.1 stands found))

  -- the slots of all places
  pub settled_of_places : (keys : List K) (es : List (K × Held A)) (slots : List (Slot A)) → AreResults (IsKeySlot eq same rules keys es) (length keys) slots
      → (ts : List (K × Change E)) → StandsFor eq same rules es ts → AreSettled eq same rules keys (opened_at eq same rules es) ts slots
  settled_of_places keys es slots are ts stands = record { all = are.all; each = λ i k slot at got. are.each i slot got ts stands k at }

module _ {A E K : Type 0} (eq : K → K → Bool) (same : A → A → Bool) (rules : Rules A E) where
  -- no keys stand for no touches
  pub stands_empty : StandsFor eq same rules [] []
  stands_empty = record {
    settled = λ i d l. absurd (omega (arith, l));
    registered = λ i d l. absurd (omega (arith, l));
    amounts = λ k h at. absurd (true≢false (sym (ap is_some at)));
    each = λ k h at. absurd (true≢false (sym (ap is_some at)));
  }
