-- The test of a proof, and what it tests.
use Rattle.std.proofs.Common.{◌≡◌, ◌↔◌, ℕ, true, ◌&&◌, ◌==◌, List, length, map, Result, Ok, Err, IsOk, is_ok, bytes_eq, refl, sym, inl, inr}
use Rattle.std.proofs.lemmas.Bool.{and_from, and_parts, eq-eqb, eqb-true, cases_Bool}
use Rattle.std.proofs.lemmas.List.{length-map}
use Rattle.std.proofs.lemmas.Slice.Eq.{bytes_eq-Decides}
use Rattle.ledger_merkle.specs.Range.{needed, range_root, RangeOk}
use Rattle.ledger_merkle.specs.declared.proof.Proof.{Proof}
use Rattle.sync_client.specs.Asking.{range_ok}

abbrev Holds : {Op : Type 0} → (List ℕ → List ℕ) → (Op → List ℕ) → List ℕ → ℕ → Proof → ℕ → List Op → Type 0
Holds hash spelling root size proof start ops = RangeOk hash root proof.leaves proof.inactive_peaks proof.digests size start (map spelling ops)

same_bytes : (xs ys : List ℕ) → xs ≡ ys → bytes_eq xs ys ≡ true
same_bytes xs ys e = (bytes_eq-Decides xs ys).1 e

bytes_same : (xs ys : List ℕ) → bytes_eq xs ys ≡ true → xs ≡ ys
bytes_same xs ys e = (bytes_eq-Decides xs ys).0 e

pub range_ok_yes : {Op : Type 0} (hash : List ℕ → List ℕ) (spelling : Op → List ℕ) (root : List ℕ) (size : ℕ) (proof : Proof) (start : ℕ) (ops : List Op) → Holds hash spelling root size proof start ops → range_ok hash spelling root size proof start ops ≡ true
unfolding range_ok
range_ok_yes hash spelling root size proof start ops h =
    and_from _ _ (eq-eqb _ _ h.0) (and_from _ _ (eq-eqb _ _ h.1) (and_from _ _ (eq-eqb _ _ (simp length-map at h.2)) (same_bytes _ _ h.3)))

pub range_ok_is : {Op : Type 0} (hash : List ℕ → List ℕ) (spelling : Op → List ℕ) (root : List ℕ) (size : ℕ) (proof : Proof) (start : ℕ) (ops : List Op) → range_ok hash spelling root size proof start ops ≡ true → Holds hash spelling root size proof start ops
unfolding range_ok
range_ok_is hash spelling root size proof start ops e =
    let b = and_parts (proof.leaves == size) ((proof.inactive_peaks == 0) && ((length proof.digests == needed size start (length ops)) && bytes_eq (range_root hash size start (map spelling ops) proof.digests) root)) e in
    let c = and_parts (proof.inactive_peaks == 0) ((length proof.digests == needed size start (length ops)) && bytes_eq (range_root hash size start (map spelling ops) proof.digests) root) b.1 in
    let d = and_parts (length proof.digests == needed size start (length ops)) (bytes_eq (range_root hash size start (map spelling ops) proof.digests) root) c.1 in
    (eqb-true proof.leaves size b.0, eqb-true proof.inactive_peaks 0 c.0, simp length-map (eqb-true _ _ d.0), bytes_same _ _ d.1)

pub proved_is : {Op E : Type 0} (res : Result (Unit {0}) E) (hash : List ℕ → List ℕ) (spelling : Op → List ℕ) (root : List ℕ) (size : ℕ) (proof : Proof) (start : ℕ) (ops : List Op)
    → (IsOk res ↔ Holds hash spelling root size proof start ops) → is_ok res ≡ range_ok hash spelling root size proof start ops
proved_is (Ok x) hash spelling root size proof start ops h = sym (range_ok_yes hash spelling root size proof start ops (h.0 refl))
proved_is (Err x) hash spelling root size proof start ops h =
    elim (cases_Bool (range_ok hash spelling root size proof start ops)) [
      | inl e ↦ absurd (cc (h.1 (range_ok_is hash spelling root size proof start ops e)))
      | inr e ↦ sym e
    ]
