use Rattle.std.proofs.Common.{◌≡◌, ℕ, ◌+◌, ◌-◌, ◌^◌, ◌<◌, ◌≤◌, ◌++◌, map, subst, ◌&&◌, Bool, true, false, if◌then◌else◌, nat_eq, nat_lt, List, [], ◌∷◌, length, count_ones, Option, Some, None, refl, sym, ap, ◌∙◌, arith}
use Rattle.std.specs.Str.{bytes_eq}
use Rattle.std.proofs.lemmas.Bool.Decides.{nat_tests}
use Rattle.std.proofs.lemmas.Slice.Eq.{bytes_eq-Decides}
use Rattle.std.proofs.lemmas.List.{length_push}
use Rattle.ledger_merkle.specs.Tree.{root, grow}
use Rattle.ledger_merkle.specs.Range.{needed, range_root, RangeOk}
use Rattle.ledger_merkle.specs.declared.proof.Proof.{Proof}
use Rattle.ledger_log.specs.View.{LogView, log_size, last_floor}
use Rattle.ledger_log.specs.declared.fault.LogFault.TheVariants as faults
use Rattle.ledger_compact.specs.View.{CompactView, last_op, but_last, kept_of, compact_of, target_of, state_of}
use Rattle.ledger_compact.specs.Refusals.{proves_last, commit_refusal, state_refusal}
use Rattle.ledger_compact.proofs.Ends.{last_of_push, front_of_push, last_floor-is, log_ends}
use Rattle.ledger_compact.proofs.Growing.{count_after, proved_after}
use Rattle.ledger_compact.proofs.Kept.{kept_from}

pub if_yes : {A : Type 0} (b : Bool) (x y : A) → b ≡ true → (if b then x else y) ≡ x
if_yes true x y e = refl
if_yes false x y e = absurd cc

pub both_true : (a b : Bool) → a ≡ true → b ≡ true → (a && b) ≡ true
both_true true true p q = refl
both_true true false p q = q
both_true false b p q = p

pub eq_self : (n : ℕ) → nat_eq n n ≡ true
eq_self n = grind (arith, nat_tests)

pub bytes_self : (xs ys : List ℕ) → xs ≡ ys → bytes_eq xs ys ≡ true
bytes_self xs ys e = (bytes_eq-Decides xs ys).1 e

-- a right proof passes the test
pub proof_passes : (hash : List ℕ → List ℕ) (the_root : List ℕ) (n : ℕ) (bytes : List ℕ) (proof : Proof) →
    RangeOk hash the_root proof.leaves proof.inactive_peaks proof.digests n (n - 1) (bytes ∷ []) → proves_last hash the_root n bytes proof ≡ true
proof_passes hash the_root n bytes proof ok =
    both_true _ _
    (both_true _ _
    (both_true _ _ (ap (λ k. nat_eq k n) ok.0 ∙ eq_self n) (ap (λ k. nat_eq k 0) ok.1))
    (ap (λ k. nat_eq k (needed n (n - 1) 1)) ok.2 ∙ eq_self (needed n (n - 1) 1)))
    (bytes_self (range_root hash n (n - 1) (bytes ∷ []) proof.digests) the_root ok.3)

-- what a compact log tells of itself is taken
pub taken_again : {Op : Type 0} (hash : List ℕ → List ℕ) (spelling : Op → List ℕ) (floor_of : Op → Option ℕ) (c : CompactView Op) (floor : ℕ) →
    length c.nodes ≡ count_ones c.size → floor_of c.last ≡ Some floor → floor < c.size →
    RangeOk hash (root hash c.size c.nodes) c.size 0 c.before c.size (c.size - 1) (spelling c.last ∷ []) →
    state_refusal hash spelling floor_of (target_of hash c) (state_of c) ≡ None
taken_again hash spelling floor_of c floor count at below ok =
    let the_root = root hash c.size c.nodes in
    let proof : Proof = record { leaves = c.size; inactive_peaks = 0; digests = c.before } in
    let proved : proves_last hash the_root c.size (spelling c.last) proof ≡ true = proof_passes hash the_root c.size (spelling c.last) proof ok in
    let last : commit_refusal (proves_last hash the_root c.size (spelling c.last) proof) c.size (floor_of c.last) ≡ None =
    ap (λ b. commit_refusal b c.size (floor_of c.last)) proved
    ∙ (ap (commit_refusal true c.size) at ∙ if_yes (nat_lt floor c.size) None (Some (faults.FloorOutside floor)) (grind (arith, nat_tests))) in
    if_yes _ _ _ (both_true (nat_eq c.size c.size) (nat_lt 0 c.size) (eq_self c.size) (grind (arith, nat_tests)))
    ∙ (if_yes _ _ _ (ap (λ k. nat_eq k (count_ones c.size)) count ∙ eq_self (count_ones c.size))
    ∙ (if_yes _ _ _ (bytes_self the_root the_root refl) ∙ last))

both_of : (a b : Bool) → (a && b) ≡ true → (a ≡ true) × (b ≡ true)
both_of true b e = (refl, e)
both_of false b e = absurd cc

eq_of : (m n : ℕ) → nat_eq m n ≡ true → m ≡ n
eq_of m n e = grind (arith, nat_tests)

-- a proof that passes the test is right
pub passed_is_right : (hash : List ℕ → List ℕ) (the_root : List ℕ) (n : ℕ) (bytes : List ℕ) (proof : Proof) → proves_last hash the_root n bytes proof ≡ true →
    RangeOk hash the_root proof.leaves proof.inactive_peaks proof.digests n (n - 1) (bytes ∷ [])
passed_is_right hash the_root n bytes proof e =
    let three = both_of (nat_eq proof.leaves n && nat_eq proof.inactive_peaks 0 && nat_eq (length proof.digests) (needed n (n - 1) 1)) (bytes_eq (range_root hash n (n - 1) (bytes ∷ []) proof.digests) the_root) e in
    let two = both_of (nat_eq proof.leaves n && nat_eq proof.inactive_peaks 0) (nat_eq (length proof.digests) (needed n (n - 1) 1)) three.0 in
    let one = both_of (nat_eq proof.leaves n) (nat_eq proof.inactive_peaks 0) two.0 in
    (eq_of proof.leaves n one.0, eq_of proof.inactive_peaks 0 one.1, eq_of (length proof.digests) (needed n (n - 1) 1) two.1, (bytes_eq-Decides (range_root hash n (n - 1) (bytes ∷ []) proof.digests) the_root).0 three.1)

-- what a log tells of itself is taken
pub told_again : {Op : Type 0} (hash : List ℕ → List ℕ) (spelling : Op → List ℕ) (f : Op → Option ℕ) (log : LogView Op) (floor : ℕ) →
    length log.pinned ≡ count_ones log.front → log_size log ≤ 2 ^ 62 → last_floor f log.ops ≡ Some floor → floor < log_size log →
    (c : CompactView Op) → compact_of hash spelling log ≡ Some c → state_refusal hash spelling f (target_of hash c) (state_of c) ≡ None
told_again hash spelling f log floor pins most at below c e =
    let k = kept_from hash spelling log c e in
    let l = k.0 in
    let kept = kept_of hash spelling log l in
    let end = log_ends f log.ops floor at in
    let others = end.0 in
    let rest : but_last log.ops ≡ others = ap but_last end.2 ∙ front_of_push others end.1 in
    let own : last_op log.ops ≡ Some end.1 = ap last_op end.2 ∙ last_of_push others end.1 in
    let both : Some l ≡ Some end.1 = sym k.1 ∙ own in
    let same : l ≡ end.1 = cc in
    let whole : log.ops ≡ others ++ l ∷ [] = end.2 ∙ ap (λ z. others ++ z ∷ []) (sym same) in
    let size : log_size log ≡ log.front + length others + 1 = omega (arith, ap length whole, length_push others l) in
    let before : kept.before ≡ grow hash log.front log.pinned (map spelling others) = ap (λ z. grow hash log.front log.pinned (map spelling z)) rest in
    let nodes : kept.nodes ≡ grow hash log.front log.pinned (map spelling (others ++ l ∷ [])) = ap (λ z. grow hash log.front log.pinned (map spelling z)) whole in
    let floored : f l ≡ Some floor = sym (last_floor-is f log.ops l k.1) ∙ at in
    let taken = taken_again hash spelling f kept floor
    (count_after hash spelling log.front log.pinned others l (log_size log) kept.nodes kept.before pins size most before nodes)
    floored
    below
    (proved_after hash spelling log.front log.pinned others l (log_size log) kept.nodes kept.before pins size most before nodes) in
    subst (λ (x : CompactView _). state_refusal hash spelling f (target_of hash x) (state_of x) ≡ None) (sym k.2) taken

pub same_bool : (a b : Bool) → (a ≡ true → b ≡ true) → (b ≡ true → a ≡ true) → a ≡ b
same_bool true b p q = sym (p refl)
same_bool false true p q = q refl
same_bool false false p q = refl
