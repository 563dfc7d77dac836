-- From two inputs of one digest back to what they were made of.
use Rattle.std.proofs.Common.{◌≡◌, ℕ, zero, suc, ◌+◌, ◌<◌, ◌≤◌, ◌^◌, ◌/◌, ◌%◌, List, [], ◌∷◌, ◌++◌, length, take, drop, get_or, map, Bool, true, false, not, bytes_eq, Result, Ok, Err, IfOk, ◌⊎◌, inl, inr, reverse, refl, sym, ap, ◌∙◌, arith}
use Rattle.std.specs.Prelude.{◌≢◌, count_ones, All}
use Rattle.std.specs.List.{concat}
use Rattle.std.proofs.lemmas.List.{take_at, drop_at, take_more, take_all, map_more, length-map, length-take-le}
use Rattle.std.proofs.lemmas.List.Elements.{All-head, All-tail}
use Rattle.std.proofs.lemmas.Slice.Eq.{bytes_eq-Decides, slice_eq-Decides}
use lib.Pointwise.{pointwise}
use Rattle.std.proofs.lemmas.Bool.{true≢false}
use Rattle.std.proofs.Math.Nat.{pow-suc}
use Rattle.ledger_merkle.specs.Tree.{be64, leaf, node, root, join, push, grow, part_root}
use Rattle.ledger_merkle.specs.declared.proof.Part.{Part}
use Rattle.ledger_merkle.proofs.Growing.{grow_step}
use Rattle.ledger_merkle.specs.Collision.{Collides}
use Rattle.ledger_merkle.proofs.Joining.{ones_half, ones_none, push_is, join_even}

-- what follows of both answers holds of both
pub if_both : {A E : Type 0} (r s : Result A E) (P Q : A → Type 0) (R : A → A → Type 0) → ((a b : A) → P a → Q b → R a b) → IfOk r P → IfOk s Q → IfOk r (λ a. IfOk s (λ b. R a b))
if_both (Ok a) (Ok b) P Q R f p q = f a b p q
if_both (Ok a) (Err e) P Q R f p q = tt
if_both (Err e) s P Q R f p q = tt

-- two lists in two parts, of which the first are equally long
pub split_equal : {A : Type 0} (a c b d : List A) → length a ≡ length c → a ++ b ≡ c ++ d → (a ≡ c) × (b ≡ d)
split_equal a c b d h e = (
  sym (take_at a b (length a) refl) ∙ (ap (take (length a)) e ∙ take_at c d (length a) (sym h)),
  sym (drop_at a b (length a) refl) ∙ (ap (drop (length a)) e ∙ drop_at c d (length a) (sym h)),
)

-- what a comparison of bytes tells
pub told_equal : (x y : List ℕ) (r : Bool) → r ≡ bytes_eq x y → r ≡ true → x ≡ y
told_equal x y r e h = (bytes_eq-Decides x y).0 (sym e ∙ h)

pub told_different : (x y : List ℕ) (r : Bool) → r ≡ not (bytes_eq x y) → r ≡ true → x ≢ y
told_different x y r e h = λ same. true≢false (sym h ∙ (e ∙ ap not ((bytes_eq-Decides x y).1 same)))

is_true : (b r : Bool) → r ≡ not b → r ≡ false → b ≡ true
is_true true r e h = refl
is_true false r e h = absurd (true≢false (sym e ∙ h))

-- what a comparison of peaks tells
pub told_peaks_equal : (xs ys : List (List ℕ)) (r : Bool) → r ≡ not (pointwise bytes_eq xs ys) → r ≡ false → xs ≡ ys
told_peaks_equal xs ys r e h = (slice_eq-Decides bytes_eq-Decides xs ys (pointwise bytes_eq xs ys) refl).0 (is_true (pointwise bytes_eq xs ys) r e h)

pub told_peaks_different : (xs ys : List (List ℕ)) (r : Bool) → r ≡ not (pointwise bytes_eq xs ys) → r ≡ true → xs ≢ ys
told_peaks_different xs ys r e h = λ same. true≢false (sym h ∙ (e ∙ ap not ((slice_eq-Decides bytes_eq-Decides xs ys (pointwise bytes_eq xs ys) refl).1 same)))

-- a number below 2^k has at most k ones
pub ones_below : (k n : ℕ) → n < 2 ^ k → count_ones n ≤ k
ones_below zero n l = let z : n ≡ 0 = omega (arith) in omega (arith, ap count_ones z, ones_none)
ones_below (suc k) n l = omega (arith, ones_half n, ones_below k (n / 2) (omega (arith, pow-suc 2 k)))

-- two leaves of different bytes at one place with one digest
pub leaf_collides : (hash : List ℕ → List ℕ) (at : ℕ) (x y a b : List ℕ) → x ≢ y → leaf hash at x ≡ leaf hash at y → a ≡ 0 ∷ be64 at ++ x → b ≡ 0 ∷ be64 at ++ y → Collides hash a b
unfolding leaf
leaf_collides hash at x y a b d s p q = (
  (λ e. d ((split_equal (0 ∷ be64 at) (0 ∷ be64 at) x y refl (sym p ∙ (e ∙ q))).1)),
  ap hash p ∙ (s ∙ sym (ap hash q)),
)

-- two nodes of different halves with one digest
pub node_collides : (hash : List ℕ → List ℕ) (l r x y a b : List ℕ) → length l ≡ length r → (l ≡ r → x ≢ y) → node hash l x ≡ node hash r y → a ≡ 1 ∷ l ++ x → b ≡ 1 ∷ r ++ y → Collides hash a b
unfolding node
node_collides hash l r x y a b n d s p q = (
  (λ e.
      let both = split_equal (1 ∷ l) (1 ∷ r) x y (ap suc n) (sym p ∙ (e ∙ q)) in
      d (ap (drop 1) both.0) both.1),
  ap hash p ∙ (s ∙ sym (ap hash q)),
)

-- equal peaks from equal bytes
pub concat_equal : (k : ℕ) (xs ys : List (List ℕ)) → length xs ≡ length ys → All (λ x. length x ≡ suc k) xs → All (λ x. length x ≡ suc k) ys → concat xs ≡ concat ys → xs ≡ ys
concat_equal k [] [] n p q e = refl
concat_equal k [] (y ∷ ys) n p q e = absurd (omega (arith, n))
concat_equal k (x ∷ xs) [] n p q e = absurd (omega (arith, n))
concat_equal k (x ∷ xs) (y ∷ ys) n p q e =
    let both = split_equal x y (concat xs) (concat ys) (All-head (λ z. length z ≡ suc k) x xs p ∙ sym (All-head (λ z. length z ≡ suc k) y ys q)) e in
    let first : x ≡ y = both.0 in
    let rest : xs ≡ ys = concat_equal k xs ys (omega (arith, n)) (All-tail (λ z. length z ≡ suc k) x xs p) (All-tail (λ z. length z ≡ suc k) y ys q) both.1 in
    cc (first, rest)

-- two roots of different peaks with one digest
pub root_collides : (hash : List ℕ → List ℕ) (n : ℕ) (xs ys : List (List ℕ)) (a b : List ℕ) → (concat xs ≢ concat ys) → root hash n xs ≡ root hash n ys → a ≡ 2 ∷ be64 n ++ concat xs → b ≡ 2 ∷ be64 n ++ concat ys → Collides hash a b
unfolding root
root_collides hash n xs ys a b d s p q = (
  (λ e. d ((split_equal (2 ∷ be64 n) (2 ∷ be64 n) (concat xs) (concat ys) refl (sym p ∙ (e ∙ q))).1)),
  ap hash p ∙ (s ∙ sym (ap hash q)),
)

-- a joining that can't go on is the push
pub pushed_at : (hash : List ℕ → List ℕ) (n k kept : ℕ) (xs : List (List ℕ)) (d e : List ℕ) → join hash k (reverse (take kept xs)) e ≡ join hash n (reverse xs) d → (kept ≡ 0) ⊎ (k % 2 ≡ 0) → push hash n xs d ≡ take kept xs ++ e ∷ []
pushed_at hash n k kept xs d e same (inl z) = push_is hash n k xs (take kept xs) d e same (rw z refl)
pushed_at hash n k kept xs d e same (inr v) = push_is hash n k xs (take kept xs) d e same (join_even hash k _ e v)

-- parts are equal by their three fields
pub part_equal : {T : Type 0} (a b : Part T) → a.start ≡ b.start → a.pinned ≡ b.pinned → a.ops ≡ b.ops → a ≡ b
part_equal a b p q r = λ i. record { start = p i; pinned = q i; ops = r i }

module _ {T : Type 0} (spelling : T → List ℕ) (hash : List ℕ → List ℕ) where
  -- the peaks after one more item
  pub one_more : (n at i : ℕ) (ps : List (List ℕ)) (ops : List T) (x : T) (nodes new : List (List ℕ)) (d : List ℕ) →
      i < length ops → x ≡ get_or ops i x → at ≡ n + i → nodes ≡ grow hash n ps (map spelling (take i ops)) → d ≡ leaf hash at (spelling x) → new ≡ push hash at nodes d → new ≡ grow hash n ps (map spelling (take (i + 1) ops))
  one_more n at i ps ops x nodes new d l is a b e f =
      let xs = map spelling (take i ops) in
      let count : length xs ≡ i = length-map (take i ops) spelling ∙ length-take-le i ops (omega (arith, l)) in
      let more : map spelling (take (i + 1) ops) ≡ xs ++ spelling x ∷ [] = map_more spelling ops i x l ∙ ap (λ z. xs ++ spelling z ∷ []) (sym is) in
      grow_step hash n at ps xs nodes new (spelling x) d (omega (arith, a, count)) b e f ∙ ap (λ z. grow hash n ps z) (sym more)

  -- the root after all items
  pub whole_root : (n at i : ℕ) (ps : List (List ℕ)) (ops : List T) (nodes : List (List ℕ)) → i ≡ length ops → at ≡ n + i → nodes ≡ grow hash n ps (map spelling (take i ops)) → root hash at nodes ≡ part_root hash ps n (map spelling ops)
  whole_root n at i ps ops nodes l a b =
      let all : take i ops ≡ ops = take_all i ops (omega (arith, l)) in
      let size : at ≡ n + length (map spelling ops) = omega (arith, a, l, length-map ops spelling) in
      let same : nodes ≡ grow hash n ps (map spelling ops) = b ∙ ap (λ z. grow hash n ps (map spelling z)) all in
      cc (size, same)

-- one more item on both sides
pub taken_more : {T : Type 0} (i : ℕ) (xs ys : List T) (x y : T) → i < length xs → i < length ys → x ≡ get_or xs i x → y ≡ get_or ys i y → take i xs ≡ take i ys → x ≡ y → take (i + 1) xs ≡ take (i + 1) ys
taken_more i xs ys x y l m p q e s =
    let left : take (i + 1) xs ≡ take i xs ++ x ∷ [] = take_more xs i x l ∙ ap (λ z. take i xs ++ z ∷ []) (sym p) in
    let right : take (i + 1) ys ≡ take i ys ++ y ∷ [] = take_more ys i y m ∙ ap (λ z. take i ys ++ z ∷ []) (sym q) in
    cc (left, right, e, s)
