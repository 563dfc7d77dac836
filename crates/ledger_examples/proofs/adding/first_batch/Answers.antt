use Rattle.std.proofs.Common.{◌≡◌, ◌+◌, ◌<◌, ◌≤◌, ◌∷◌, length, drop, is_some, true, sym, ap, ◌∙◌, arith}
use Rattle.std.proofs.lemmas.List.{drop_more}
use Rattle.ledger_examples.proofs.Batching.{batch_len, len_here, len_all, cut_by}
use Rattle.ledger_examples.proofs.adding.first_batch.Goals as goal

pub returns-then-is_some-clause-cut : goal.returns-then-is_some-clause-cut
returns-then-is_some-clause-cut g c =
    let f = g.F.Family.floor_of in
    let ops = c.args.ops.now in
    let i = c.loop-op.op-index in
    let op = c.op-item.result in
    let within : i < length ops = omega arith in
    let here : drop i ops ≡ op ∷ drop (i + 1) ops = drop_more ops i op within ∙ ap (λ x. x ∷ drop (i + 1) ops) (sym c.op-item.is) in
    let commit : is_some (f op) ≡ true = sym (ap is_some c.commit_floor.ensures.floor) ∙ (sym c.is_some.ensures ∙ c.if-is_some.true) in
    let len : i + 1 ≡ batch_len f ops = len_here f ops (drop (i + 1) ops) i op here commit c.loop-op.invariant.rest in
    let count : c.loop-op.count + 1 ≡ batch_len f ops = ap (λ k. k + 1) c.loop-op.invariant.counted ∙ len in
    cut_by f ops (c.loop-op.count + 1) c.requires count

pub returns-clause-cut : goal.returns-clause-cut
returns-clause-cut g c =
    let f = g.F.Family.floor_of in
    let ops = c.args.ops.now in
    let all : length ops ≤ c.loop-op.op-index = omega arith in
    cut_by f ops c.loop-op.count c.requires (c.loop-op.invariant.counted ∙ len_all f ops c.loop-op.op-index all c.loop-op.invariant.rest)
