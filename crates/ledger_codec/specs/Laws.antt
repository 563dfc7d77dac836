-- What was written is read again, and reading takes a value's own bytes alone.
use Rattle.std.proofs.Common.{◌≡◌, ℕ, zero, suc, ◌+◌, ◌-◌, ◌*◌, ◌/◌, ◌%◌, ◌^◌, ◌<◌, ◌≤◌, Bool, true, false, not, cond, ltb, leb, nat_lt, List, [], ◌∷◌, ◌++◌, length, take, drop, All, Result, Ok, Err, refl, sym, ap, ◌∙◌, append_assoc, arith, lit≤, length-append, length-take}
use Rattle.std.specs.Prelude.{◌&&◌, ◌==◌}
use Rattle.std.specs.Int.{w64, from_be_bytes, to_be_bytes}
use Rattle.std.specs.List.{flat_map}
use Rattle.std.specs.Str.{is_utf8, IsUtf8}
use Rattle.std.proofs.Math.Nat.{pow-suc}
use Rattle.std.proofs.lemmas.Bool.{ltb-false, le-ltb}
use Rattle.std.proofs.lemmas.Bool.Decides.{nat_tests}
use Rattle.std.proofs.lemmas.List.{take_at, drop_at, take-append-drop}
use Rattle.std.proofs.lemmas.List.Elements.{All-head, All-tail}
use Rattle.std.proofs.lemmas.Nat.{from_be_bytes-to_be_bytes_8}
use Rattle.std.proofs.lemmas.Str.{is_utf8-from_IsUtf8}
use Rattle.ledger_codec.specs.declared.fault.CodecError.{CodecError}
use Rattle.ledger_codec.specs.declared.fault.CodecError.TheVariants as faults
use Rattle.ledger_codec.specs.Parsing.{Parsed, ◌>>=◌}
use Rattle.ledger_codec.specs.Numbers.{byte_at, bytes_at, number_at, digest_at, at_most, varint_from, varint32_at, varint64_at, varint_within, varint}
use Rattle.ledger_codec.specs.Sequences.{items_at, limited, count_at, list_at, string_at, text_of, text_at, list_written, string_written, ListFits}
use Rattle.ledger_codec.specs.Spelling.{Used, IsLocal, IsReadAgain, SpellLaws}

-- ---- steps

-- the step that did not fail, and what it went on with
pub bind_ok : {A B : Type 0} (read : Parsed A) (f : A → List ℕ → Result B CodecError) (y : B) → (read >>= f) ≡ Ok y → (x : A × List ℕ) × (read ≡ Ok x) × (f x.0 x.1 ≡ Ok y)
bind_ok (Ok x) f y e = (x, refl, e)
bind_ok (Err fault) f y e = absurd cc

abbrev value_in : {A : Type 0} → A → Parsed A → A
value_in d (Ok x) = x.0
value_in d (Err e) = d

abbrev rest_in : {A : Type 0} → Parsed A → List ℕ
rest_in (Ok x) = x.1
rest_in (Err e) = []

-- a value without bytes
pub ok_local : {A : Type 0} (x : A) → IsLocal (λ bytes. Ok (x, bytes))
ok_local {A} x = record {
  used = λ bytes value rest e.
      let same : x ≡ value = ap (value_in x) e in
      let left : bytes ≡ rest = ap rest_in e in
      record { used = []; parts = left; whatever_follows = λ more. ap (λ (v : A). Ok (v, more)) same };
}

-- a refusal
pub err_local : {A : Type 0} (fault : CodecError) → IsLocal {T = A} (λ bytes. Err fault)
err_local fault = record { used = λ bytes value rest e. absurd cc }

-- a choice
pub cond_local : {A : Type 0} (b : Bool) (f g : List ℕ → Parsed A) → IsLocal f → IsLocal g → IsLocal (λ bytes. cond b (f bytes) (g bytes))
cond_local true f g F G = F
cond_local false f g F G = G

-- one reading after another
pub then_local : {A B : Type 0} (f : List ℕ → Parsed A) (g : A → List ℕ → Parsed B) → IsLocal f → ((x : A) → IsLocal (g x)) → IsLocal (λ bytes. f bytes >>= g)
then_local {A} {B} f g F G = record {
  used = λ bytes value rest e.
      let b = bind_ok (f bytes) g (value, rest) e in
      let u = F.used bytes b.0.0 b.0.1 b.1 in
      let v = (G b.0.0).used b.0.1 value rest b.2 in
      record {
        used = u.used ++ v.used;
        parts = u.parts ∙ (ap (λ (x : List ℕ). u.used ++ x) v.parts ∙ sym (append_assoc u.used v.used rest));
        whatever_follows = λ more. ap (λ (x : List ℕ). f x >>= g) (append_assoc u.used v.used more) ∙ (ap (λ (r : Parsed A). r >>= g) (u.whatever_follows (v.used ++ more)) ∙ v.whatever_follows more);
      };
}

-- a reading that answers the same
pub same_local : {A : Type 0} (f g : List ℕ → Parsed A) → ((bytes : List ℕ) → f bytes ≡ g bytes) → IsLocal g → IsLocal f
same_local f g same G = record {
  used = λ bytes value rest e.
      let u = G.used bytes value rest (sym (same bytes) ∙ e) in
      record { used = u.used; parts = u.parts; whatever_follows = λ more. same (u.used ++ more) ∙ u.whatever_follows more };
}

-- ---- bytes

pub byte_local : IsLocal byte_at
byte_local = record { used = λ bytes value rest e. byte_used bytes value rest e }
  where
    byte_used : (bytes : List ℕ) (value : ℕ) (rest : List ℕ) → byte_at bytes ≡ Ok (value, rest) → Used byte_at bytes value rest
    byte_used [] value rest e = absurd cc
    byte_used (b ∷ bs) value rest e =
        let same : b ≡ value = ap (value_in b) e in
        let left : bs ≡ rest = ap rest_in e in
        record { used = b ∷ []; parts = ap (λ (x : List ℕ). b ∷ x) left; whatever_follows = λ more. ap (λ (v : ℕ). Ok (v, more)) same }

-- so many bytes, seen by h
abbrev front_if : {A : Type 0} → Bool → ℕ → (List ℕ → A) → List ℕ → Parsed A
front_if short n h bytes = cond short (Err faults.EndOfBuffer) (Ok (h (take n bytes), drop n bytes))

abbrev front_at : {A : Type 0} → ℕ → (List ℕ → A) → List ℕ → Parsed A
front_at n h bytes = front_if (ltb (length bytes) n) n h bytes

pub front_again : {A : Type 0} (n : ℕ) (h : List ℕ → A) (x rest : List ℕ) → length x ≡ n → front_at n h (x ++ rest) ≡ Ok (h x, rest)
front_again {A} n h x rest len =
    let long : ltb (length (x ++ rest)) n ≡ false = le-ltb _ _ (omega (arith, length-append x rest)) in
    rw (long, take_at x rest n len, drop_at x rest n len) refl

front_local : {A : Type 0} (n : ℕ) (h : List ℕ → A) → IsLocal (front_at n h)
front_local {A} n h = record { used = λ bytes value rest e. front_used (ltb (length bytes) n) bytes value rest refl e }
  where
    front_used : (short : Bool) (bytes : List ℕ) (value : A) (rest : List ℕ) → ltb (length bytes) n ≡ short → front_if short n h bytes ≡ Ok (value, rest) → Used (front_at n h) bytes value rest
    front_used true bytes value rest t e = absurd cc
    front_used false bytes value rest t e =
        let long : n ≤ length bytes = ltb-false _ _ t in
        let same : h (take n bytes) ≡ value = ap (value_in (h (take n bytes))) e in
        let left : drop n bytes ≡ rest = ap rest_in e in
        record {
          used = take n bytes;
          parts = sym (take-append-drop n bytes) ∙ ap (λ (x : List ℕ). take n bytes ++ x) left;
          whatever_follows = λ more. front_again n h (take n bytes) more (omega (arith, length-take n bytes)) ∙ ap (λ (v : A). Ok (v, more)) same;
        }

pub bytes_local : (n : ℕ) → IsLocal (bytes_at n)
bytes_local n = front_local n (λ x. x)

pub digest_local : IsLocal digest_at
digest_local = front_local 32 (λ x. x)

pub number_local : IsLocal number_at
number_local = front_local 8 (from_be_bytes w64)

pub digest_again : (x rest : List ℕ) → length x ≡ 32 → digest_at (x ++ rest) ≡ Ok (x, rest)
digest_again x rest len = front_again 32 (λ b. b) x rest len

pub number_again : (n : ℕ) (rest : List ℕ) → n < 2 ^ 64 → number_at (to_be_bytes w64 n ++ rest) ≡ Ok (n, rest)
number_again n rest lt = front_again 8 (from_be_bytes w64) (to_be_bytes w64 n) rest refl ∙ ap (λ (v : ℕ). Ok (v, rest)) (from_be_bytes-to_be_bytes_8 n lt)

-- ---- varints

-- a byte, and what is read after it
abbrev byte_then : {A : Type 0} → (ℕ → List ℕ → Parsed A) → List ℕ → Parsed A
byte_then g bytes = byte_at bytes >>= g

-- a varint after its first byte
abbrev varint_after : ℕ → (List ℕ → Parsed ℕ) → Bool → ℕ → List ℕ → Parsed ℕ
varint_after max others first b rest = cond (ltb b 128) (cond (b == 0 && not first) (Err faults.InvalidVarint) (Ok (b, rest))) (others rest >>= λ high after. at_most max (b - 128 + 128 * high) after)

at_most_local : (max n : ℕ) → IsLocal (at_most max n)
at_most_local max n = cond_local (leb n max) (λ rest. Ok (n, rest)) (λ rest. Err faults.InvalidVarint) (ok_local n) (err_local faults.InvalidVarint)

after_local : (max : ℕ) (others : List ℕ → Parsed ℕ) (first : Bool) → IsLocal others → (b : ℕ) → IsLocal (varint_after max others first b)
after_local max others first O b =
    cond_local (ltb b 128) (λ rest. cond (b == 0 && not first) (Err faults.InvalidVarint) (Ok (b, rest))) (λ rest. others rest >>= λ high after. at_most max (b - 128 + 128 * high) after)
    (cond_local (b == 0 && not first) (λ rest. Err faults.InvalidVarint) (λ rest. Ok (b, rest)) (err_local faults.InvalidVarint) (ok_local b))
    (then_local others (λ high after. at_most max (b - 128 + 128 * high) after) O (λ high. at_most_local max (b - 128 + 128 * high)))

varint_step : (max left : ℕ) (first : Bool) (bytes : List ℕ) → varint_from max (suc left) first bytes ≡ byte_then (varint_after max (varint_from max left false) first) bytes
unfolding varint_from
varint_step max left first [] = refl
varint_step max left first (b ∷ rest) = refl

varint_none : (max : ℕ) (first : Bool) (bytes : List ℕ) → varint_from max zero first bytes ≡ Err faults.InvalidVarint
unfolding varint_from
varint_none max first bytes = refl

pub varint_local : (max left : ℕ) (first : Bool) → IsLocal (varint_from max left first)
varint_local max zero first = same_local (varint_from max zero first) (λ bytes. Err faults.InvalidVarint) (varint_none max first) (err_local faults.InvalidVarint)
varint_local max (suc left) first =
    same_local (varint_from max (suc left) first) (byte_then (varint_after max (varint_from max left false) first)) (varint_step max left first)
    (then_local byte_at (varint_after max (varint_from max left false) first) byte_local (after_local max (varint_from max left false) first (varint_local max left false)))

pub varint32_local : IsLocal varint32_at
varint32_local = varint_local (2 ^ 32 - 1) 5 true

pub varint64_local : IsLocal varint64_at
varint64_local = varint_local (2 ^ 64 - 1) 10 true

-- a varint of one byte
last_again : (low : Bool) (max k n : ℕ) (others : List ℕ → Parsed ℕ) (first : Bool) (rest : List ℕ) → nat_lt n 128 ≡ low → n ≤ max → (first ≡ false → 0 < n)
    → (128 ≤ n → (more : List ℕ) → others (varint_within k (n / 128) ++ more) ≡ Ok (n / 128, more))
    → byte_then (varint_after max others first) (cond low (n ∷ []) ((n % 128 + 128) ∷ varint_within k (n / 128)) ++ rest) ≡ Ok (n, rest)
last_again true max k n others first rest t le above again =
    let small : n < 128 = grind (arith, nat_tests) in
    let right : (n == 0 && not first) ≡ false = needed n first above in
    rw (t, right) refl
  where
    needed : (n : ℕ) (first : Bool) → (first ≡ false → 0 < n) → (n == 0 && not first) ≡ false
    needed zero true above = refl
    needed zero false above = absurd (let h : 0 < zero = above refl in omega arith)
    needed (suc n) first above = let t : (suc n == 0) ≡ false = grind (arith, nat_tests) in rw t refl
last_again false max k n others first rest t le above again =
    let large : 128 ≤ n = grind (arith, nat_tests) in
    let top : ltb (n % 128 + 128) 128 ≡ false = le-ltb _ _ (omega arith) in
    let whole : n % 128 + 128 - 128 + 128 * (n / 128) ≡ n = omega arith in
    let within : leb n max ≡ true = grind (arith, nat_tests) in
    rw (top, again large rest, whole, within) refl

-- a number above 0 needs a byte
needs_byte : (k n : ℕ) → n < 128 ^ k → 0 < n → 0 < k
needs_byte zero n h p = absurd (let one : 128 ^ 0 ≡ 1 = refl in omega arith)
needs_byte (suc k) n h p = omega arith

varint_back : (max left k n : ℕ) (first : Bool) (rest : List ℕ) → 0 < left → 0 < k → n ≤ max → n < 128 ^ left → n < 128 ^ k → (first ≡ false → 0 < n) → varint_from max left first (varint_within k n ++ rest) ≡ Ok (n, rest)
varint_back max zero k n first rest l m le a b above = absurd (omega arith)
varint_back max (suc left) zero n first rest l m le a b above = absurd (omega arith)
varint_back max (suc left) (suc k) n first rest l m le a b above =
    let p : 128 ^ suc left ≡ 128 ^ left * 128 = pow-suc 128 left in
    let q : 128 ^ suc k ≡ 128 ^ k * 128 = pow-suc 128 k in
    let shorter : n / 128 < 128 ^ left = omega arith in
    let shorter_too : n / 128 < 128 ^ k = omega arith in
    varint_step max left first (varint_within (suc k) n ++ rest)
    ∙ last_again (nat_lt n 128) max k n (varint_from max left false) first rest refl le above
    (λ large more.
    let one : 0 < n / 128 = omega arith in
    varint_back max left k (n / 128) false more (needs_byte left (n / 128) shorter one) (needs_byte k (n / 128) shorter_too one) (omega arith) shorter shorter_too (λ no. one))

pub varint32_again : (n : ℕ) (rest : List ℕ) → n ≤ 2 ^ 32 - 1 → varint32_at (varint n ++ rest) ≡ Ok (n, rest)
unfolding varint
varint32_again n rest le =
    let five : 2 ^ 32 ≤ 128 ^ 5 = lit≤ tt in
    let ten : 2 ^ 32 ≤ 128 ^ 10 = lit≤ tt in
    varint_back (2 ^ 32 - 1) 5 10 n true rest (omega arith) (omega arith) le (omega arith) (omega arith) (λ no. absurd cc)

pub varint64_again : (n : ℕ) (rest : List ℕ) → n ≤ 2 ^ 64 - 1 → varint64_at (varint n ++ rest) ≡ Ok (n, rest)
unfolding varint
varint64_again n rest le =
    let ten : 2 ^ 64 ≤ 128 ^ 10 = lit≤ tt in
    varint_back (2 ^ 64 - 1) 10 10 n true rest (omega arith) (omega arith) le (omega arith) (omega arith) (λ no. absurd cc)

-- ---- lists and texts

items_step : {T : Type 0} (item : List ℕ → Parsed T) (n : ℕ) (bytes : List ℕ) → items_at item (suc n) bytes ≡ (item bytes >>= λ first rest. items_at item n rest >>= λ others after. Ok (first ∷ others, after))
unfolding items_at
items_step item n bytes = refl

items_none : {T : Type 0} (item : List ℕ → Parsed T) (bytes : List ℕ) → items_at item zero bytes ≡ Ok ([], bytes)
unfolding items_at
items_none item bytes = refl

pub items_local : {T : Type 0} (item : List ℕ → Parsed T) (n : ℕ) → IsLocal item → IsLocal (items_at item n)
items_local {T} item zero I = same_local (items_at item zero) (λ bytes. Ok ([], bytes)) (items_none item) (ok_local [])
items_local {T} item (suc n) I =
    same_local (items_at item (suc n)) (λ bytes. item bytes >>= λ first rest. items_at item n rest >>= λ others after. Ok (first ∷ others, after)) (items_step item n)
    (then_local item (λ first rest. items_at item n rest >>= λ others after. Ok (first ∷ others, after)) I
    (λ first. then_local (items_at item n) (λ others after. Ok (first ∷ others, after)) (items_local item n I) (λ others. ok_local (first ∷ others))))

limited_local : (limit n : ℕ) → IsLocal (limited limit n)
limited_local limit n = cond_local (ltb limit n) (λ rest. Err (faults.InvalidLength n limit)) (λ rest. Ok (n, rest)) (err_local (faults.InvalidLength n limit)) (ok_local n)

pub count_local : (limit : ℕ) → IsLocal (count_at limit)
count_local limit = then_local varint32_at (limited limit) varint32_local (limited_local limit)

list_is : {T : Type 0} (limit : ℕ) (item : List ℕ → Parsed T) (bytes : List ℕ) → list_at limit item bytes ≡ (count_at limit bytes >>= items_at item)
unfolding list_at
list_is limit item bytes = refl

string_is : (limit : ℕ) (bytes : List ℕ) → string_at limit bytes ≡ (count_at limit bytes >>= bytes_at)
unfolding string_at
string_is limit bytes = refl

text_is : (limit : ℕ) (bytes : List ℕ) → text_at limit bytes ≡ (string_at limit bytes >>= text_of)
unfolding text_at
text_is limit bytes = refl

pub list_local : {T : Type 0} (limit : ℕ) (item : List ℕ → Parsed T) → IsLocal item → IsLocal (list_at limit item)
list_local limit item I = same_local (list_at limit item) (λ bytes. count_at limit bytes >>= items_at item) (list_is limit item) (then_local (count_at limit) (items_at item) (count_local limit) (λ n. items_local item n I))

pub string_local : (limit : ℕ) → IsLocal (string_at limit)
string_local limit = same_local (string_at limit) (λ bytes. count_at limit bytes >>= bytes_at) (string_is limit) (then_local (count_at limit) bytes_at (count_local limit) bytes_local)

pub text_local : (limit : ℕ) → IsLocal (text_at limit)
text_local limit = same_local (text_at limit) (λ bytes. string_at limit bytes >>= text_of) (text_is limit)
    (then_local (string_at limit) text_of (string_local limit) (λ text. cond_local (is_utf8 text) (λ rest. Ok (text, rest)) (λ rest. Err faults.Invalid) (ok_local text) (err_local faults.Invalid)))

count_again : (limit n : ℕ) (rest : List ℕ) → n ≤ limit → limit ≤ 2 ^ 32 - 1 → count_at limit (varint n ++ rest) ≡ Ok (n, rest)
count_again limit n rest le most =
    let within : ltb limit n ≡ false = le-ltb _ _ le in
    ap (λ (r : Parsed ℕ). r >>= limited limit) (varint32_again n rest (omega arith)) ∙ rw within refl

items_again : {T : Type 0} (item : List ℕ → Parsed T) (written : T → List ℕ) (values : List T) (rest : List ℕ) → All (λ x. IsReadAgain item x (written x)) values → items_at item (length values) (flat_map written values ++ rest) ≡ Ok (values, rest)
items_again item written [] rest h = items_none item rest
items_again {T} item written (x ∷ xs) rest h =
    let first : IsReadAgain item x (written x) = All-head (λ y. IsReadAgain item y (written y)) x xs h in
    let others : items_at item (length xs) (flat_map written xs ++ rest) ≡ Ok (xs, rest) = items_again item written xs rest (All-tail (λ y. IsReadAgain item y (written y)) x xs h) in
    let regrouped : flat_map written (x ∷ xs) ++ rest ≡ written x ++ (flat_map written xs ++ rest) = append_assoc (written x) (flat_map written xs) rest in
    ap (items_at item (suc (length xs))) regrouped
    ∙ (items_step item (length xs) (written x ++ (flat_map written xs ++ rest))
    ∙ rw (first (flat_map written xs ++ rest), others) refl)

pub list_again : {T : Type 0} (limit : ℕ) (item : List ℕ → Parsed T) (written : T → List ℕ) (values : List T) (rest : List ℕ) → length values ≤ limit → limit ≤ 2 ^ 32 - 1 → All (λ x. IsReadAgain item x (written x)) values
    → list_at limit item (list_written written values ++ rest) ≡ Ok (values, rest)
list_again {T} limit item written values rest le most h =
    list_is limit item (list_written written values ++ rest)
    ∙ (ap (λ (x : List ℕ). count_at limit x >>= items_at item) (append_assoc (varint (length values)) (flat_map written values) rest)
    ∙ (ap (λ (r : Parsed ℕ). r >>= items_at item) (count_again limit (length values) (flat_map written values ++ rest) le most)
    ∙ items_again item written values rest h))

pub string_again : (limit : ℕ) (bytes rest : List ℕ) → length bytes ≤ limit → limit ≤ 2 ^ 32 - 1 → string_at limit (string_written bytes ++ rest) ≡ Ok (bytes, rest)
string_again limit bytes rest le most =
    string_is limit (string_written bytes ++ rest)
    ∙ (ap (λ (x : List ℕ). count_at limit x >>= bytes_at) (append_assoc (varint (length bytes)) bytes rest)
    ∙ (ap (λ (r : Parsed ℕ). r >>= bytes_at) (count_again limit (length bytes) (bytes ++ rest) le most)
    ∙ front_again (length bytes) (λ b. b) bytes rest refl))

pub text_again : (limit : ℕ) (text rest : List ℕ) → IsUtf8 text → length text ≤ limit → limit ≤ 2 ^ 32 - 1 → text_at limit (string_written text ++ rest) ≡ Ok (text, rest)
text_again limit text rest utf8 le most =
    text_is limit (string_written text ++ rest)
    ∙ (ap (λ (r : Parsed (List ℕ)). r >>= text_of) (string_again limit text rest le most)
    ∙ rw (is_utf8-from_IsUtf8 text utf8) refl)

-- ---- laws of types

-- the items of a list within its limit are read again
pub all_again : {T : Type 0} (limit : ℕ) (reading : List ℕ → Parsed T) (written : T → List ℕ) (sound fits : T → Type 0) → SpellLaws reading written sound fits → (values : List T) → All sound values → ListFits limit fits values → All (λ x. IsReadAgain reading x (written x)) values
all_again limit reading written sound fits laws values s f d k lt = laws.again _ (s d k lt) (f.1 d k lt)

-- a digest is sound where it has 32 bytes
pub digest_laws : SpellLaws digest_at (λ x. x) (λ x. length x ≡ 32) (λ x. Unit {0})
digest_laws = record { again = λ value sound fits rest. digest_again value rest sound; local = digest_local }

-- a text is sound where it is UTF-8
pub text_laws : (limit : ℕ) → limit ≤ 2 ^ 32 - 1 → SpellLaws (text_at limit) string_written IsUtf8 (λ x. length x ≤ limit)
text_laws limit most = record { again = λ value sound fits rest. text_again limit value rest sound fits most; local = text_local limit }
