use Rattle.std.proofs.Common.{◌≡◌, ℕ, zero, suc, ◌+◌, ◌-◌, ◌*◌, ◌<◌, ◌≤◌, Bool, false, if◌then◌else◌, replicate, get_or, List, [], ◌∷◌, ◌++◌, length, drop, Some, Result, Ok, Err, IfOk, refl, sym, ap, ◌∙◌, arith}
use Rattle.std.specs.List.{slice_get}
use Rattle.std.proofs.lemmas.List.{length_push}
use Rattle.ledger_log.specs.declared.any.AnyOp.{AnyOp}
use Rattle.ledger_merkle.specs.Tree.{leaf, push, grow, root, tree_root}
use Rattle.ledger_merkle.proofs.Growing.{grow-append}
use Rattle.ledger_activity.specs.Chunks.{bit_of, byte_of, bytes_of, chunk_of, first_chunks}

-- the operation at a place, and those behind it
pub drop_at_get : (ops : List AnyOp) (i : ℕ) (op : AnyOp) → slice_get ops i ≡ Some op → drop i ops ≡ op ∷ drop (i + 1) ops
drop_at_get [] i op e = absurd cc
drop_at_get (x ∷ xs) zero op e = let same : x ≡ op = cc in ap (λ z. z ∷ xs) same
drop_at_get (x ∷ xs) (suc i) op e = let next : suc (i + 1) ≡ suc i + 1 = omega arith in drop_at_get xs i op e ∙ ap (λ k. op ∷ drop k (x ∷ xs)) next

pub no_bytes : (bits : List Bool) (i : ℕ) → bytes_of bits i 0 ≡ []
unfolding bytes_of
no_bytes bits i = refl

pub more_bytes : (bits : List Bool) (i k : ℕ) → bytes_of bits i (k + 1) ≡ bytes_of bits i k ++ byte_of bits (i + 8 * k) ∷ []
unfolding bytes_of
more_bytes bits i k = ap (bytes_of bits i) (let next : k + 1 ≡ suc k = omega arith in next)

pub no_chunks : (bits : List Bool) → first_chunks bits 0 ≡ []
unfolding first_chunks
no_chunks bits = refl

pub more_chunks : (bits : List Bool) (k : ℕ) → first_chunks bits (k + 1) ≡ first_chunks bits k ++ chunk_of bits (256 * k) ∷ []
unfolding first_chunks
more_chunks bits k = ap (first_chunks bits) (let next : k + 1 ≡ suc k = omega arith in next)

pub length-first_chunks : (bits : List Bool) (k : ℕ) → length (first_chunks bits k) ≡ k
unfolding first_chunks
length-first_chunks bits zero = refl
length-first_chunks bits (suc k) = length_push (first_chunks bits k) (chunk_of bits (256 * k)) ∙ (let e : length (first_chunks bits k) ≡ k = length-first_chunks bits k in omega arith)

-- the peaks of one more chunk
pub grow_chunk : (hash : List ℕ → List ℕ) (bits : List Bool) (k : ℕ) (chunk : List ℕ) → chunk ≡ chunk_of bits (256 * k) →
    push hash k (grow hash 0 [] (first_chunks bits k)) (leaf hash k chunk) ≡ grow hash 0 [] (first_chunks bits (k + 1))
grow_chunk hash bits k chunk e =
    let xs = first_chunks bits k in
    let long : 0 + length xs ≡ k = omega (arith, length-first_chunks bits k) in
    sym (ap (grow hash 0 []) (more_chunks bits k)
    ∙ (grow-append hash 0 [] xs (chunk_of bits (256 * k) ∷ [])
    ∙ (ap (λ n. push hash n (grow hash 0 [] xs) (leaf hash n (chunk_of bits (256 * k)))) long
    ∙ ap (λ c. push hash k (grow hash 0 [] xs) (leaf hash k c)) (sym e))))

-- the root of all chunks
pub all_chunks : (hash : List ℕ → List ℕ) (bits : List Bool) (size count : ℕ) (nodes : List (List ℕ)) → size ≡ count → nodes ≡ grow hash 0 [] (first_chunks bits count) →
    root hash size nodes ≡ tree_root hash (first_chunks bits count)
all_chunks hash bits size count nodes s n =
    let long : size ≡ 0 + length (first_chunks bits count) = omega (arith, s, length-first_chunks bits count) in
    ap (λ k. root hash k nodes) long ∙ ap (root hash (0 + length (first_chunks bits count))) n

-- a fact about a value that a call gives, by another
pub if_ok : {T E : Type 0} (r : Result T E) (P Q : T → Type 0) → ((x : T) → P x → Q x) → IfOk r P → IfOk r Q
if_ok (Ok x) P Q f h = f x h
if_ok (Err e) P Q f h = tt

-- no bit is set before the front
low_item : (front i : ℕ) (bits : List Bool) → i < front → get_or (replicate front false ++ bits) i false ≡ false
low_item zero i bits h = absurd (omega arith)
low_item (suc front) zero bits h = refl
low_item (suc front) (suc i) bits h = low_item front i bits (omega arith)

pub low_bit : (front i : ℕ) (bits : List Bool) → i < front → bit_of (replicate front false ++ bits) i ≡ 0
low_bit front i bits h = ap (λ b. if b then 1 else 0) (low_item front i bits h)

-- behind it they are those that are given
high_item : (front i : ℕ) (bits : List Bool) → front ≤ i → get_or (replicate front false ++ bits) i false ≡ get_or bits (i - front) false
high_item zero i bits h = ap (λ k. get_or bits k false) (let same : i ≡ i - 0 = omega arith in same)
high_item (suc front) zero bits h = absurd (omega arith)
high_item (suc front) (suc i) bits h = high_item front i bits (omega arith) ∙ ap (λ k. get_or bits k false) (let same : i - front ≡ suc i - suc front = omega arith in same)

pub high_bit : (front i : ℕ) (bits : List Bool) → front ≤ i → bit_of (replicate front false ++ bits) i ≡ bit_of bits (i - front)
high_bit front i bits h = ap (λ b. if b then 1 else 0) (high_item front i bits h)
