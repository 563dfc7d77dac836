-- Pending requests one by one with what was asked.
use Rattle.std.proofs.Common.{◌≡◌, ℕ, zero, suc, ◌+◌, ◌<◌, not, cond, List, [], ◌∷◌, ◌++◌, length, map, slice_get, Option, Some, None, ◌==◌, position, remove, refl, sym, ap, ◌∙◌, arith, option_and_then}
use Rattle.std.specs.List.{prefix_len}
use Rattle.std.specs.declared.ops.Range.{Range}
use Rattle.std.proofs.lemmas.List.{length-map}
use Rattle.std.proofs.lemmas.Bool.{eqb-true}
use Rattle.std.proofs.lemmas.Option.{get_or_from_slice_get}
use Rattle.std.proofs.lemmas.List.Quantifiers.{position-Some}
use Rattle.sync_net.specs.declared.ask.Pending.{Pending}
use Rattle.sync_net.specs.Asks.{pending_in}
use Rattle.sync_net.specs.View.{MachineView}
use Rattle.sync_client.specs.declared.asked.Asked.{Asked}
use Rattle.sync_client.specs.Collected.{Collected, ranges_of}
use Rattle.sync_client.specs.Session.{Ask, place_of, ask_under}
use Rattle.sync_client.specs.Seen.{ask_of, asks_of, range_of, Paired}

-- ---- lists

pub asks_length : (ps : List Pending) (asked : List Asked) → length ps ≡ length asked → length (asks_of ps asked) ≡ length asked
asks_length [] [] e = refl
asks_length [] (a ∷ asked) e = absurd (omega arith)
asks_length (p ∷ ps) [] e = absurd (omega arith)
asks_length (p ∷ ps) (a ∷ asked) e = ap suc (asks_length ps asked (omega arith))

pub asks_push : (ps : List Pending) (asked : List Asked) (p : Pending) (a : Asked) → length ps ≡ length asked → asks_of (ps ++ p ∷ []) (asked ++ a ∷ []) ≡ asks_of ps asked ++ ask_of p a ∷ []
asks_push [] [] p a e = refl
asks_push [] (b ∷ asked) p a e = absurd (omega arith)
asks_push (q ∷ ps) [] p a e = absurd (omega arith)
asks_push (q ∷ ps) (b ∷ asked) p a e = ap (λ (l : List Ask). ask_of q b ∷ l) (asks_push ps asked p a (omega arith))

pub asks_at : (ps : List Pending) (asked : List Asked) (i : ℕ) (p : Pending) (a : Asked) → slice_get ps i ≡ Some p → slice_get asked i ≡ Some a → slice_get (asks_of ps asked) i ≡ Some (ask_of p a)
asks_at [] asked i p a e f = absurd (cc e)
asks_at (q ∷ ps) [] i p a e f = absurd (cc f)
asks_at (q ∷ ps) (b ∷ asked) zero p a e f =
    let same : q ≡ p = cc e in
    let also : b ≡ a = cc f in
    ap (λ (x : Pending). Some (ask_of x b)) same ∙ ap (λ (x : Asked). Some (ask_of p x)) also
asks_at (q ∷ ps) (b ∷ asked) (suc i) p a e f = asks_at ps asked i p a e f

asks_prefix : (n : ℕ) (ps : List Pending) (asked : List Asked) → length ps ≡ length asked → prefix_len (λ (a : Ask). not (a.number == n)) (asks_of ps asked) ≡ prefix_len (λ (p : Pending). not (p.number == n)) ps
asks_prefix n [] [] e = refl
asks_prefix n [] (a ∷ asked) e = absurd (omega arith)
asks_prefix n (p ∷ ps) [] e = absurd (omega arith)
asks_prefix n (p ∷ ps) (a ∷ asked) e = ap (λ (k : ℕ). cond (not (p.number == n)) (1 + k) 0) (asks_prefix n ps asked (omega arith))

-- an ask's place is its request's
pub asks_place : (n : ℕ) (ps : List Pending) (asked : List Asked) → length ps ≡ length asked → place_of n (asks_of ps asked) ≡ position (λ (p : Pending). p.number == n) ps
asks_place n ps asked e = rw (asks_prefix n ps asked e, asks_length ps asked e ∙ sym e) refl

pub asks_remove : (ps : List Pending) (asked : List Asked) (i : ℕ) → length ps ≡ length asked → asks_of (remove ps i) (remove asked i) ≡ remove (asks_of ps asked) i
asks_remove [] [] zero e = refl
asks_remove [] [] (suc i) e = refl
asks_remove [] (a ∷ asked) i e = absurd (omega arith)
asks_remove (p ∷ ps) [] i e = absurd (omega arith)
asks_remove (p ∷ ps) (a ∷ asked) zero e = refl
asks_remove (p ∷ ps) (a ∷ asked) (suc i) e = ap (λ (l : List Ask). ask_of p a ∷ l) (asks_remove ps asked i (omega arith))

-- ---- a machine and its collector

request_range : Pending → Range ℕ
request_range p = range_of p.ask

pub same_lengths : {Op : Type 0} (m : MachineView) (c : Collected Op) → Paired m c → length m.pending ≡ length c.pending
same_lengths m c pair = sym (length-map m.pending (λ (p : Pending). range_of p.ask)) ∙ (sym (ap length pair.ranges) ∙ length-map c.pending (λ (a : Asked). a.range))

asked_at : (ps : List Pending) (asked : List Asked) (i : ℕ) (p : Pending) → ranges_of asked ≡ map (λ (q : Pending). range_of q.ask) ps → slice_get ps i ≡ Some p → (a : Asked) × (slice_get asked i ≡ Some a) × (a.range ≡ range_of p.ask)
asked_at [] asked i p e f = absurd (cc f)
asked_at (q ∷ ps) [] i p e f = absurd (cc e)
asked_at (q ∷ ps) (a ∷ asked) zero p e f =
    let same : q ≡ p = cc f in
    let first : a.range ≡ range_of q.ask = cc e in
    (a, refl, first ∙ ap (λ (x : Pending). range_of x.ask) same)
asked_at (q ∷ ps) (a ∷ asked) (suc i) p e f = asked_at ps asked i p (cc e) f

-- the ask that stands under a number
pub record Stands {Op : Type 0} (m : MachineView) (c : Collected Op) (n : ℕ) (p : Pending) : Type 0 where
  pub place : ℕ
  pub asked : Asked
  pub found : position (λ (q : Pending). q.number == n) m.pending ≡ Some place
  pub at : slice_get m.pending place ≡ Some p
  pub with : slice_get c.pending place ≡ Some asked
  pub range : asked.range ≡ range_of p.ask
  pub number : p.number ≡ n
  pub is : ask_under n (asks_of m.pending c.pending) ≡ Some (ask_of p asked)

placed : (ps : List Pending) (p : Pending) (o : Option ℕ) → option_and_then (λ i. slice_get ps i) o ≡ Some p → (i : ℕ) × (o ≡ Some i) × (slice_get ps i ≡ Some p)
placed ps p None e = absurd (cc e)
placed ps p (Some i) e = (i, refl, e)

pub stands : {Op : Type 0} (m : MachineView) (c : Collected Op) (n : ℕ) (p : Pending) → Paired m c → pending_in n m.pending ≡ Some p → Stands m c n p
stands m c n p pair e =
    let i = placed m.pending p (position (λ (q : Pending). q.number == n) m.pending) e in
    let a = asked_at m.pending c.pending i.0 p pair.ranges i.2 in
    let q = position-Some (λ (q : Pending). q.number == n) m.pending i.0 p i.1 in
    let here = get_or_from_slice_get m.pending i.0 p p i.2 in
    record {
      place = i.0;
      asked = a.0;
      found = i.1;
      at = i.2;
      with = a.1;
      range = a.2;
      number = sym (ap (λ (x : Pending). x.number) here) ∙ eqb-true _ _ q.1;
      is = ap (λ (o : Option ℕ). option_and_then (λ j. slice_get (asks_of m.pending c.pending) j) o) (asks_place n m.pending c.pending (same_lengths m c pair) ∙ i.1) ∙ asks_at m.pending c.pending i.0 p a.0 i.2 a.1;
    }

nowhere : (ps : List Pending) (asked : List Asked) (o : Option ℕ) → ((i : ℕ) → o ≡ Some i → i < length ps) → length ps ≡ length asked → option_and_then (λ i. slice_get ps i) o ≡ None → option_and_then (λ i. slice_get (asks_of ps asked) i) o ≡ None
nowhere ps asked None within e f = refl
nowhere ps asked (Some i) within e f = absurd (missing ps i (within i refl) f)
  where
    missing : (ps : List Pending) (i : ℕ) → i < length ps → slice_get ps i ≡ None → ⊥
    missing [] i lt f = absurd (omega arith)
    missing (p ∷ ps) zero lt f = cc f
    missing (p ∷ ps) (suc i) lt f = missing ps i (omega arith) f

-- no ask stands under the number of no request
pub none_stands : {Op : Type 0} (m : MachineView) (c : Collected Op) (n : ℕ) → Paired m c → pending_in n m.pending ≡ None → ask_under n (asks_of m.pending c.pending) ≡ None
none_stands m c n pair e =
    let found : Option ℕ = position (λ (q : Pending). q.number == n) m.pending in
    ap (λ (o : Option ℕ). option_and_then (λ j. slice_get (asks_of m.pending c.pending) j) o) (asks_place n m.pending c.pending (same_lengths m c pair))
    ∙ nowhere m.pending c.pending (position (λ (q : Pending). q.number == n) m.pending) (λ i f. within m.pending n i f) (same_lengths m c pair) e
  where
    within : (ps : List Pending) (n i : ℕ) → position (λ (q : Pending). q.number == n) ps ≡ Some i → i < length ps
    within [] n i f = absurd (cc f)
    within (p ∷ ps) n i f = (position-Some (λ (q : Pending). q.number == n) (p ∷ ps) i p f).0
