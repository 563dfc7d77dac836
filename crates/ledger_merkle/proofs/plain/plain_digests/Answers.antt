use Rattle.std.proofs.Common.{◌≡◌, suc, ◌+◌, ◌-◌, ◌*◌, ◌/◌, ◌%◌, ◌^◌, [], ◌++◌, length, sym, ap, ◌∙◌, arith}
use Rattle.std.proofs.lemmas.List.{append-nil, append_assoc}
use Rattle.ledger_merkle.specs.Levels.{tree, outside_of, outside_below}
use Rattle.ledger_merkle.proofs.Peaked.{begins, outside_odd, outside_even, outside_end}
use Rattle.ledger_merkle.proofs.plain.plain_digests.Goals as goal

pub loop-height-preserved-in-Continue-1 : goal.loop-height-preserved-in-Continue-1
loop-height-preserved-in-Continue-1 g c =
    let trees = tree g.H.Hasher.digest [] 0 c.args.leaves.now in
    let n = length c.args.leaves.now in
    let s = c.args.start in
    let e = c.args.end in
    let k = c.loop-height.height in
    let j = k - 1 in
    let i : k ≡ suc j = omega arith in
    let index : c.index_of-index.result ≡ n / 2 ^ j = c.index_of-index.ensures in
    let odd : n / 2 ^ j % 2 ≡ 1 = ap (λ x. x % 2) (sym index) ∙ c.if-index-eq1.true in
    let old = c.loop-height.digests.items in
    let left = outside_below trees s e n j (begins n j) in
    let more = outside_of trees s e j ((n / 2 ^ j - 1) * 2 ^ j) in
    let put : c.add_plain.new.digests.items ≡ old ++ more =
    c.in_ok-add_plain.ensures ∙ (ap (λ x. old ++ outside_of trees s e j x) c.place_of-at.ensures.place ∙ ap (λ x. old ++ outside_of trees s e j ((x - 1) * 2 ^ j)) index) in
    record { high = omega arith; done = ap (λ l. l ++ left) put ∙ (append_assoc old more left ∙ (ap (λ l. old ++ l) (sym (outside_odd trees s e n k j i odd)) ∙ c.loop-height.invariant.done)) }

pub loop-height-preserved : goal.loop-height-preserved
loop-height-preserved g c =
    let trees = tree g.H.Hasher.digest [] 0 c.args.leaves.now in
    let n = length c.args.leaves.now in
    let k = c.loop-height.height in
    let j = k - 1 in
    let i : k ≡ suc j = omega arith in
    let index : c.index_of-index.result ≡ n / 2 ^ j = c.index_of-index.ensures in
    let even : n / 2 ^ j % 2 ≡ 0 = ap (λ x. x % 2) (sym index) ∙ omega arith in
    record { high = omega arith; done = ap (λ l. c.loop-height.digests.items ++ l) (sym (outside_even trees c.args.start c.args.end n k j i even)) ∙ c.loop-height.invariant.done }

pub returns : goal.returns
returns g c =
    let trees = tree g.H.Hasher.digest [] 0 c.args.leaves.now in
    let n = length c.args.leaves.now in
    let s = c.args.start in
    let e = c.args.end in
    let zero : c.loop-height.height ≡ 0 = omega arith in
    let end : e ≡ s + (e - s) = omega (arith, c.requires.order) in
    let none : outside_below trees s e n c.loop-height.height (begins n c.loop-height.height) ≡ [] = ap (λ k. outside_below trees s e n k (begins n k)) zero ∙ outside_end trees s e n (begins n 0) in
    sym (append-nil c.loop-height.digests.items)
    ∙ (ap (λ l. c.loop-height.digests.items ++ l) (sym none) ∙ (c.loop-height.invariant.done ∙ ap (λ x. outside_below trees s x n 63 0) end))
