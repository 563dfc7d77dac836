use Rattle.std.proofs.Common.{◌≡◌, ◌<◌, ◌≤◌, ◌∷◌, ◌++◌, [], length, false, replicate, refl, sym, ap, ◌∙◌, arith}
use Rattle.std.proofs.lemmas.List.{length-set, take_all, take_more_set}
use Rattle.ledger_activity.specs.Chunks.{bytes_of}
use Rattle.ledger_activity.proofs.Cut.{no_bytes, more_bytes}
use Rattle.ledger_activity.proofs.chunks.chunk_at.Goals as goal

pub loop-index-init : goal.loop-index-init
loop-index-init c = record { long = refl; done = sym (no_bytes (replicate c.args.front false ++ c.args.bits.now) c.args.at) }

pub loop-index-preserved : goal.loop-index-preserved
loop-index-preserved c =
    let bits = (replicate c.args.front false ++ c.args.bits.now) in
    let at = c.args.at in
    let i = c.loop-index.index in
    let chunk = c.loop-index.chunk in
    let within : i < length chunk = omega (arith, c.loop-index.invariant.long) in
    record {
      long = length-set chunk i c.byte_at.result ∙ c.loop-index.invariant.long;
      done = take_more_set chunk i c.byte_at.result within
          ∙ (ap (λ l. l ++ c.byte_at.result ∷ []) c.loop-index.invariant.done
          ∙ (ap (λ b. bytes_of bits at i ++ b ∷ []) c.byte_at.ensures ∙ sym (more_bytes bits at i)));
    }

pub returns : goal.returns
returns c =
    let i = c.loop-index.index in
    let chunk = c.loop-index.chunk in
    let end : i ≡ 32 = omega arith in
    let all : length chunk ≤ i = omega (arith, c.loop-index.invariant.long) in
    sym (take_all i chunk all) ∙ (c.loop-index.invariant.done ∙ ap (bytes_of (replicate c.args.front false ++ c.args.bits.now) c.args.at) end)
