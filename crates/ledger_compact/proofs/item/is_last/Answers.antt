use Rattle.std.proofs.Common.{◌≡◌, ℕ, List, ◌-◌, ◌∷◌, [], sym, subst, ◌∙◌, arith}
use Rattle.ledger_merkle.specs.Range.{RangeOk}
use Rattle.ledger_compact.specs.Refusals.{proves_last}
use Rattle.ledger_compact.proofs.States.{same_bool, proof_passes, passed_is_right}
use Rattle.ledger_compact.proofs.item.is_last.Goals as goal

pub returns : goal.returns
returns g c =
    let hash = g.H.Hasher.digest in
    let n = c.args.size in
    let the_root = c.args.root.now in
    let proof = c.args.proof.now in
    let bytes = g.T.Leaf.spelling c.args.op.now in
    let At : ℕ → List ℕ → Type 0 = λ k b. RangeOk hash the_root proof.leaves proof.inactive_peaks proof.digests n k (b ∷ []) in
    let place : c.plus-place.result ≡ n - 1 = omega (arith, c.plus-place.ensures, c.get.ensures.same) in
    let is : c.of.result ≡ bytes = c.of.ensures in
    let told = c.check_range.ensures.ok in
    c.is_ok.ensures.value ∙ same_bool _ (proves_last hash the_root n bytes proof)
    (λ e. proof_passes hash the_root n bytes proof (subst (λ b. At (n - 1) b) is (subst (λ k. At k c.of.result) place (told.0 e))))
    (λ e. told.1 (subst (λ k. At k c.of.result) (sym place) (subst (λ b. At (n - 1) b) (sym is) (passed_is_right hash the_root n bytes proof e))))
