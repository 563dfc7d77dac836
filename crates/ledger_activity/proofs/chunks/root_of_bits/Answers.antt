use Rattle.std.proofs.Common.{◌≡◌, ◌+◌, ◌/◌, ◌++◌, [], length, false, replicate, sym, ap, ◌∙◌, arith}
use Rattle.std.proofs.lemmas.List.{length-append, length-replicate}
use Rattle.ledger_merkle.specs.Tree.{leaf, push, grow, tree_root}
use Rattle.ledger_activity.specs.Chunks.{first_chunks}
use Rattle.ledger_activity.proofs.Cut.{no_chunks, grow_chunk, all_chunks}
use Rattle.ledger_activity.proofs.chunks.root_of_bits.Goals as goal

pub loop-index-init : goal.loop-index-init
loop-index-init g c = record {
  size = c.new-peaks.ensures.0;
  nodes = c.new-peaks.ensures.1 ∙ sym (ap (grow g.H.Hasher.digest 0 []) (no_chunks (replicate c.args.front false ++ c.args.bits.now)));
}

pub loop-index-preserved : goal.loop-index-preserved
loop-index-preserved g c =
    let hash = g.H.Hasher.digest in
    let bits = (replicate c.args.front false ++ c.args.bits.now) in
    let i = c.loop-index.index in
    let old = c.loop-index.peaks in
    let chunk = c.chunk_at-chunk.result in
    let s : old.size ≡ i = c.loop-index.invariant.size in
    let d : c.hash_item-digest.result ≡ leaf hash i chunk = c.hash_item-digest.ensures ∙ ap (λ k. leaf hash k chunk) (c.size.ensures ∙ s) in
    record {
      size = c.in_ok-push.ensures.ok.0 ∙ ap (λ k. k + 1) s;
      nodes = c.in_ok-push.ensures.ok.1
          ∙ (ap (λ k. push hash k old.nodes c.hash_item-digest.result) s
          ∙ (ap (λ p. push hash i p c.hash_item-digest.result) c.loop-index.invariant.nodes
          ∙ (ap (λ z. push hash i (grow hash 0 [] (first_chunks bits i)) z) d
          ∙ grow_chunk hash bits i chunk c.chunk_at-chunk.ensures)));
    }

pub returns : goal.returns
returns g c =
    let hash = g.H.Hasher.digest in
    let bits = (replicate c.args.front false ++ c.args.bits.now) in
    let p = c.loop-index.peaks in
    let i = c.loop-index.index in
    let count : i ≡ (length bits + 255) / 256 = omega (arith, c.div_ceil-count.ensures, length-append (replicate c.args.front false) c.args.bits.now, length-replicate c.args.front false) in
    c.root.ensures ∙ (all_chunks hash bits p.size i p.nodes c.loop-index.invariant.size c.loop-index.invariant.nodes ∙ ap (λ k. tree_root hash (first_chunks bits k)) count)
