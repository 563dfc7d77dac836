-- Texts that were written one behind the other.
use Rattle.std.proofs.Common.{◌≡◌, ℕ, zero, suc, ◌+◌, ◌-◌, ◌<◌, ◌≤◌, Bool, List, [], ◌∷◌, ◌++◌, length, map, take, drop, get_or, Option, Result, Ok, Err, refl, sym, ap, subst, ◌∙◌, arith, take-add, take_all, length-drop, append-nil, append_assoc}
use Rattle.std.specs.List.{concat, flat_map}
use Rattle.std.specs.Io.KnownBytes.{Appends}
use Rattle.std.proofs.KnownBytes.{Appends-trans}
use Rattle.std.proofs.lemmas.List.Folds.{concat-append}
use Rattle.std.proofs.lemmas.List.{take_more, take-append-drop, map-append}
use Rattle.ledger_codec.specs.Causes.{Rose}
use Rattle.ledger_codec.specs.declared.sink.SinkError.{SinkError}
use Rattle.ledger_program.specs.Writing.{Writes}

pub front_more : (a b c : Option (List ℕ)) (text : List ℕ) (done count : ℕ) → Appends a b (take done text) → Appends b c (take count (drop done text)) → Appends a c (take (done + count) text)
front_more a b c text done count p q = subst (Appends a c) (sym (take-add done count text)) (Appends-trans a b c _ _ p q)

-- what `&text[done..]` is
pub piece : (text : List ℕ) (done : ℕ) → take (length text - done) (drop done text) ≡ drop done text
piece text done = take_all (length text - done) (drop done text) (omega (arith, length-drop done text))

pub within_more : (text : List ℕ) (done count : ℕ) → done ≤ length text → count ≤ length (take (length text - done) (drop done text)) → done + count ≤ length text
within_more text done count h l =
    let small : count ≤ length (drop done text) = rw (piece text done) at l in
    omega (arith, length-drop done text)

pub went_more : (a b c : Option (List ℕ)) (text : List ℕ) (done count : ℕ) → Appends a b (take done text) → Appends b c (take count (take (length text - done) (drop done text))) → Appends a c (take (done + count) text)
went_more a b c text done count p q = front_more a b c text done count p (subst (λ l. Appends b c (take count l)) (piece text done) q)

-- a front of a text is one of a longer text
front_at : (n : ℕ) (p q : List ℕ) → (m : ℕ) × (take m (p ++ q) ≡ take n p)
front_at zero p q = (0, refl)
front_at (suc n) [] q = (0, refl)
front_at (suc n) (x ∷ p) q = let rest = front_at n p q in (suc rest.0, ap (λ l. x ∷ l) rest.1)

-- so is a text with a front of what follows
past_at : (p q : List ℕ) (n : ℕ) → (m : ℕ) × (take m (p ++ q) ≡ p ++ take n q)
past_at [] q n = (n, refl)
past_at (x ∷ p) q n = let rest = past_at p q n in (suc rest.0, ap (λ l. x ∷ l) rest.1)

pub rose_before : (x y z : ℕ) → x ≤ y → Rose y z → Rose x z
rose_before x y z h r = omega (arith, r, h)

module _ {grows : Bool} (a b : Option (List ℕ)) (x y : ℕ) (p q : List ℕ) (e : SinkError) where
  -- what follows a text that wasn't written whole isn't written
  pub stops_there : Writes grows a b x y p (Err e) → Writes grows a b x y (p ++ q) (Err e)
  stops_there w =
      let m = front_at w.front.0 p q in
      record {
        all = tt;
        front = (m.0, subst (Appends a b) (sym m.1) w.front.1);
        failed = w.failed;
        memory = w.memory;
        later = w.later;
      }

module _ {grows : Bool} (a b c : Option (List ℕ)) (x y z : ℕ) (p q : List ℕ) where
  -- a text was written behind a whole one
  pub goes_on : (r : Result (Unit {0}) SinkError) → Writes grows a b x y p (Ok tt) → Writes grows b c y z q r → Writes grows a c x z (p ++ q) r
  goes_on (Ok tt) v w = record {
    all = Appends-trans a b c p q v.all w.all;
    front = tt;
    failed = λ h. absurd (cc h);
    memory = λ h. absurd (cc h);
    later = omega (arith, v.later, w.later);
  }
  goes_on (Err e) v w =
      let m = past_at p q w.front.0 in
      record {
        all = tt;
        front = (m.0, subst (Appends a c) (sym m.1) (Appends-trans a b c p (take w.front.0 q) v.all w.front.1));
        failed = λ h. rose_before x y z v.later (w.failed h);
        memory = w.memory;
        later = omega (arith, v.later, w.later);
      }

module _ {X : Type 0} (f : X → List ℕ) (xs : List X) (i : ℕ) (d : X) (h : i < length xs) where
  pieces_more : concat (map f (take (i + 1) xs)) ≡ concat (map f (take i xs)) ++ f (get_or xs i d)
  pieces_more =
      ap (λ l. concat (map f l)) (take_more xs i d h) ∙ ap concat (map-append f (take i xs) (get_or xs i d ∷ [])) ∙ concat-append (map f (take i xs)) (f (get_or xs i d) ∷ [])
      ∙ ap (λ l. concat (map f (take i xs)) ++ l) (append-nil (f (get_or xs i d)))

  pieces_all : concat (map f xs) ≡ (concat (map f (take i xs)) ++ f (get_or xs i d)) ++ concat (map f (drop (i + 1) xs))
  pieces_all =
      sym (ap (λ l. concat (map f l)) (take-append-drop (i + 1) xs)) ∙ ap concat (map-append f (take (i + 1) xs) (drop (i + 1) xs)) ∙ concat-append (map f (take (i + 1) xs)) (map f (drop (i + 1) xs))
      ∙ ap (λ l. l ++ concat (map f (drop (i + 1) xs))) pieces_more

  module _ {grows : Bool} (a b c : Option (List ℕ)) (x y z : ℕ) (v : Writes grows a b x y (concat (map f (take i xs))) (Ok tt)) where
    -- one piece more
    pub piece_on : Writes grows b c y z (f (get_or xs i d)) (Ok tt) → Writes grows a c x z (concat (map f (take (i + 1) xs))) (Ok tt)
    piece_on w = subst (λ t. Writes grows a c x z t (Ok tt)) (sym pieces_more) (goes_on a b c x y z (concat (map f (take i xs))) (f (get_or xs i d)) (Ok tt) v w)

    -- a piece that wasn't written whole
    pub piece_stops : (e : SinkError) → Writes grows b c y z (f (get_or xs i d)) (Err e) → Writes grows a c x z (concat (map f xs)) (Err e)
    piece_stops e w =
        subst (λ t. Writes grows a c x z t (Err e)) (sym pieces_all)
        (stops_there a c x z (concat (map f (take i xs)) ++ f (get_or xs i d)) (concat (map f (drop (i + 1) xs))) e (goes_on a b c x y z (concat (map f (take i xs))) (f (get_or xs i d)) (Err e) v w))

flat_append : {X : Type 0} (f : X → List ℕ) (xs ys : List X) → flat_map f (xs ++ ys) ≡ flat_map f xs ++ flat_map f ys
flat_append f [] ys = refl
flat_append f (x ∷ xs) ys = ap (λ l. f x ++ l) (flat_append f xs ys) ∙ sym (append_assoc (f x) (flat_map f xs) (flat_map f ys))

module _ (f : ℕ → List ℕ) (text : List ℕ) (done end : ℕ) (order : done ≤ end) where
  printed_more : flat_map f (take end text) ≡ flat_map f (take done text) ++ flat_map f (take (end - done) (drop done text))
  printed_more =
      let there : done + (end - done) ≡ end = omega (arith, order) in
      ap (λ n. flat_map f (take n text)) (sym there) ∙ ap (flat_map f) (take-add done (end - done) text) ∙ flat_append f (take done text) (take (end - done) (drop done text))

  printed_all : flat_map f text ≡ (flat_map f (take done text) ++ flat_map f (take (end - done) (drop done text))) ++ flat_map f (drop end text)
  printed_all = sym (ap (flat_map f) (take-append-drop end text)) ∙ flat_append f (take end text) (drop end text) ∙ ap (λ l. l ++ flat_map f (drop end text)) printed_more

  module _ {grows : Bool} (a b c : Option (List ℕ)) (x y z : ℕ) (v : Writes grows a b x y (flat_map f (take done text)) (Ok tt)) where
    -- one piece of a text more
    pub printed_on : Writes grows b c y z (flat_map f (take (end - done) (drop done text))) (Ok tt) → Writes grows a c x z (flat_map f (take end text)) (Ok tt)
    printed_on w = subst (λ t. Writes grows a c x z t (Ok tt)) (sym printed_more) (goes_on a b c x y z (flat_map f (take done text)) (flat_map f (take (end - done) (drop done text))) (Ok tt) v w)

    -- a piece of a text that wasn't written whole
    pub printed_stops : (e : SinkError) → Writes grows b c y z (flat_map f (take (end - done) (drop done text))) (Err e) → Writes grows a c x z (flat_map f text) (Err e)
    printed_stops e w =
        subst (λ t. Writes grows a c x z t (Err e)) (sym printed_all)
        (stops_there a c x z (flat_map f (take done text) ++ flat_map f (take (end - done) (drop done text))) (flat_map f (drop end text)) e
        (goes_on a b c x y z (flat_map f (take done text)) (flat_map f (take (end - done) (drop done text))) (Err e) v w))
