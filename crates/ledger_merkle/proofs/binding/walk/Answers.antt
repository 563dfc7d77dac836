use Rattle.std.proofs.Common.{◌≡◌, ◌≢◌, ◌<◌, length, get_or, take, map, sym, ap, ◌∙◌, arith}
use Rattle.std.specs.List.{concat}
use Rattle.std.proofs.lemmas.List.{take_all}
use Rattle.std.specs.Int.RustNames.{count_ones}
use Rattle.ledger_merkle.specs.Tree.{grow, root, part_root}
use Rattle.ledger_merkle.proofs.Joining.{push_length}
use Rattle.ledger_merkle.proofs.Inputs.{if_both, part_equal, one_more, whole_root, taken_more, root_collides, concat_equal, told_peaks_equal, told_peaks_different}
use Rattle.ledger_merkle.proofs.binding.walk.Goals as goal

pub loop-index-preserved : goal.loop-index-preserved
loop-index-preserved g c =
    let hash = g.H.Hasher.digest in
    let spelling = g.T.Leaf.spelling in
    let i = c.loop-index.index in
    let a = c.args.a.now in
    let b = c.args.b.now in
    let at = c.loop-index.at in
    let within : i < length a.ops = omega (arith, c.loop-index-test.true, ap length c.as_slice-ones.ensures) in
    let withins : i < length b.ops = omega (arith, within, c.requires.count) in
    let one : c.index-ones-index.result ≡ get_or a.ops i c.index-ones-index.result = cc (c.index-ones-index.is, c.as_slice-ones.ensures) in
    let other : c.index-others-index.result ≡ get_or b.ops i c.index-others-index.result = cc (c.index-others-index.is, c.as_slice-others.ensures) in
    record {
      at = omega (arith, c.plus-at.ensures, c.loop-index.invariant.at);
      left = one_more spelling hash a.start at i a.pinned a.ops c.index-ones-index.result c.loop-index.left c.push_both.new.left c.in_ok-one.one within one c.loop-index.invariant.at c.loop-index.invariant.left c.in_ok-one.ensures.leaves.0 c.in_ok-push_both.ensures.left;
      right = one_more spelling hash a.start at i b.pinned b.ops c.index-others-index.result c.loop-index.right c.push_both.new.right c.in_ok-one.other withins other c.loop-index.invariant.at c.loop-index.invariant.right c.in_ok-one.ensures.leaves.1 c.in_ok-push_both.ensures.right;
      lefts = ap length c.in_ok-push_both.ensures.left ∙ (push_length hash at c.loop-index.left c.in_ok-one.one c.loop-index.invariant.lefts ∙ ap count_ones (sym c.plus-at.ensures));
      rights = ap length c.in_ok-push_both.ensures.right ∙ (push_length hash at c.loop-index.right c.in_ok-one.other c.loop-index.invariant.rights ∙ ap count_ones (sym c.plus-at.ensures));
      same = λ e.
          let before = c.in_ok-push_both.ensures.same e in
          let first = c.loop-index.invariant.same before.0 in
          (first.0, taken_more i a.ops b.ops c.index-ones-index.result c.index-others-index.result within withins one other first.1 (c.in_ok-one.ensures.same before.1));
    }

pub returns-then-ne-clause-met : goal.returns-then-ne-clause-met
returns-then-ne-clause-met g c =
    let hash = g.H.Hasher.digest in
    let spelling = g.T.Leaf.spelling in
    let i = c.loop-index.index in
    let at = c.loop-index.at in
    let a = c.args.a.now in
    let b = c.args.b.now in
    let xs = c.nodes-then-ne.result.now in
    let ys = c.nodes-then-ne-2.result.now in
    let long : length xs ≡ length ys = ap length c.nodes-then-ne.ensures ∙ (c.loop-index.invariant.lefts ∙ (sym c.loop-index.invariant.rights ∙ sym (ap length c.nodes-then-ne-2.ensures))) in
    let differ : concat xs ≢ concat ys = λ e.
    told_peaks_different c.nodes.result.now c.nodes-2.result.now c.ne.result c.ne.ensures c.if-ne.true
    (c.nodes.ensures ∙ (sym c.nodes-then-ne.ensures ∙ (concat_equal 31 xs ys long c.root_input-input.ensures.digests c.root_input.ensures.digests e ∙ (c.nodes-then-ne-2.ensures ∙ sym c.nodes-2.ensures)))) in
    let all : i ≡ length a.ops = omega (arith, c.loop-index-test.false, ap length c.as_slice-ones.ensures) in
    let alls : i ≡ length b.ops = omega (arith, all, c.requires.count) in
    let same : root hash at xs ≡ root hash at ys =
    ap (root hash at) c.nodes-then-ne.ensures ∙ (whole_root spelling hash a.start at i a.pinned a.ops c.loop-index.left all c.loop-index.invariant.at c.loop-index.invariant.left ∙ (c.requires.root ∙ (ap (λ n. part_root hash b.pinned n (map spelling b.ops)) (sym c.requires.start) ∙ (sym (whole_root spelling hash a.start at i b.pinned b.ops c.loop-index.right alls c.loop-index.invariant.at c.loop-index.invariant.right) ∙ ap (root hash at) (sym c.nodes-then-ne-2.ensures))))) in
    c.inputs.ensures hash (if_both c.root_input-input.result c.root_input.result _ _ _ (λ p q e f. root_collides hash at xs ys p.items q.items differ same e f) c.root_input-input.ensures.input c.root_input.ensures.input)

pub returns-then-ne-clause-differ : goal.returns-then-ne-clause-differ
returns-then-ne-clause-differ g c = λ e.
    told_peaks_different c.nodes.result.now c.nodes-2.result.now c.ne.result c.ne.ensures c.if-ne.true
    (c.nodes.ensures ∙ (c.loop-index.invariant.left ∙ (ap (λ p. grow g.H.Hasher.digest c.args.a.now.start p.pinned (map g.T.Leaf.spelling (take c.loop-index.index p.ops))) e ∙ (sym c.loop-index.invariant.right ∙ sym c.nodes-2.ensures))))

pub returns-clause-ok : goal.returns-clause-ok
returns-clause-ok g c =
    let i = c.loop-index.index in
    let a = c.args.a.now in
    let b = c.args.b.now in
    let peaks : c.loop-index.left ≡ c.loop-index.right = sym c.nodes.ensures ∙ (told_peaks_equal c.nodes.result.now c.nodes-2.result.now c.ne.result c.ne.ensures c.if-ne.false ∙ c.nodes-2.ensures) in
    let same = c.loop-index.invariant.same peaks in
    let all : i ≡ length a.ops = omega (arith, c.loop-index-test.false, ap length c.as_slice-ones.ensures) in
    let ops : a.ops ≡ b.ops = sym (take_all i a.ops (omega (arith, all))) ∙ (same.1 ∙ take_all i b.ops (omega (arith, all, c.requires.count))) in
    part_equal a b c.requires.start same.0 ops
