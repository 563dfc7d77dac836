use Rattle.std.proofs.Common.{◌≡◌, suc, ◌+◌, ◌-◌, ◌*◌, ◌/◌, ◌%◌, ◌^◌, ◌<◌, ◌≤◌, [], ◌++◌, length, reverse, count_ones, sym, ap, ◌∙◌, subst, arith}
use Rattle.std.proofs.lemmas.List.{append-nil, append_assoc}
use Rattle.ledger_merkle.specs.Leaves.{ListView}
use Rattle.ledger_merkle.specs.Levels.{tree, outside_of, outside_below}
use Rattle.ledger_merkle.proofs.Ranges.{low_all}
use Rattle.ledger_merkle.proofs.LastLeaf.{last_leaf}
use Rattle.ledger_merkle.proofs.Peaked.{peaks_are, begins, outside_odd, outside_even, outside_end, proof_holds}
use Rattle.ledger_merkle.proofs.merkle_list.MerkleList.proof.Goals as goal

pub loop-height-preserved-in-Continue-1 : goal.loop-height-preserved-in-Continue-1
loop-height-preserved-in-Continue-1 g c =
    let hash = g.H.Hasher.digest in
    let v = c.args.self.now in
    let trees = tree hash (reverse v.pinned) v.front v.leaves in
    let n = c.get-size.result in
    let k = c.loop-height.height in
    let j = k - 1 in
    let i : k ≡ suc j = omega arith in
    let index : c.index_of-index.result ≡ n / 2 ^ j = c.index_of-index.ensures in
    let s = c.args.start in
    let e = c.get.result + c.args.count in
    let odd : n / 2 ^ j % 2 ≡ 1 = ap (λ x. x % 2) (sym index) ∙ c.if-index-eq1.true in
    let left = outside_below trees s e n j (begins n j) in
    let more = outside_of trees s e j ((n / 2 ^ j - 1) * 2 ^ j) in
    let put : c.add_outside.new.digests.items ≡ c.loop-height.digests.items ++ more =
    c.in_ok-add_outside.ensures ∙ (ap (λ x. c.loop-height.digests.items ++ outside_of trees x e j ((c.index_of-index.result - 1) * 2 ^ j)) c.get-then-index-eq1.ensures.same ∙ ap (λ x. c.loop-height.digests.items ++ outside_of trees s e j ((x - 1) * 2 ^ j)) index) in
    record {
      high = omega arith;
      done = ap (λ l. l ++ left) put ∙ (append_assoc c.loop-height.digests.items more left ∙ (ap (λ l. c.loop-height.digests.items ++ l) (sym (outside_odd trees s e n k j i odd)) ∙ c.loop-height.invariant.done));
    }

pub loop-height-preserved : goal.loop-height-preserved
loop-height-preserved g c =
    let hash = g.H.Hasher.digest in
    let v = c.args.self.now in
    let trees = tree hash (reverse v.pinned) v.front v.leaves in
    let n = c.get-size.result in
    let k = c.loop-height.height in
    let j = k - 1 in
    let i : k ≡ suc j = omega arith in
    let index : c.index_of-index.result ≡ n / 2 ^ j = c.index_of-index.ensures in
    let even : n / 2 ^ j % 2 ≡ 0 = ap (λ x. x % 2) (sym index) ∙ omega arith in
    record { high = omega arith; done = ap (λ l. c.loop-height.digests.items ++ l) (sym (outside_even trees c.args.start (c.get.result + c.args.count) n k j i even)) ∙ c.loop-height.invariant.done }

pub returns-clause-holds : goal.returns-clause-holds
returns-clause-holds g c items same =
    let hash = g.H.Hasher.digest in
    let v = c.args.self.now in
    let trees = tree hash (reverse v.pinned) v.front v.leaves in
    let count : length v.pinned ≡ count_ones v.front = subst (λ (x : ListView). length x.pinned ≡ count_ones x.front) c.self.view_is c.self.invariant.0 in
    let n = c.get-size.result in
    let s = c.args.start in
    let e = c.get.result + c.args.count in
    let size : n ≡ c.args.op_count = c.get-size.ensures.same in
    let zero : c.loop-height.height ≡ 0 = omega arith in
    let none : outside_below trees s e n c.loop-height.height (begins n c.loop-height.height) ≡ [] = ap (λ k. outside_below trees s e n k (begins n k)) zero ∙ outside_end trees s e n (begins n 0) in
    let all : c.from_vec.result ≡ outside_below trees s (s + c.args.count) c.args.op_count 63 0 =
    c.from_vec.ensures
    ∙ (sym (append-nil c.loop-height.digests.items)
    ∙ (ap (λ l. c.loop-height.digests.items ++ l) (sym none)
    ∙ (c.loop-height.invariant.done
    ∙ (ap (λ m. outside_below trees s e m 63 0) size
    ∙ ap (λ x. outside_below trees s (x + c.args.count) c.args.op_count 63 0) c.get.ensures.same)))) in
    proof_holds hash v c.args.op_count s c.args.count c.from_vec.result items count c.requires.least c.requires.within c.requires.most c.get-size.ensures.most all same

pub returns-clause-last : goal.returns-clause-last
returns-clause-last g c one next =
    let hash = g.H.Hasher.digest in
    let v = c.args.self.now in
    let trees = tree hash (reverse v.pinned) v.front v.leaves in
    let count : length v.pinned ≡ count_ones v.front = subst (λ (x : ListView). length x.pinned ≡ count_ones x.front) c.self.view_is c.self.invariant.0 in
    let n = c.get-size.result in
    let s = c.args.start in
    let e = c.get.result + c.args.count in
    let size : n ≡ c.args.op_count = c.get-size.ensures.same in
    let zero : c.loop-height.height ≡ 0 = omega arith in
    let none : outside_below trees s e n c.loop-height.height (begins n c.loop-height.height) ≡ [] = ap (λ k. outside_below trees s e n k (begins n k)) zero ∙ outside_end trees s e n (begins n 0) in
    let all : c.from_vec.result ≡ outside_below trees s (s + c.args.count) c.args.op_count 63 0 =
    c.from_vec.ensures
    ∙ (sym (append-nil c.loop-height.digests.items)
    ∙ (ap (λ l. c.loop-height.digests.items ++ l) (sym none)
    ∙ (c.loop-height.invariant.done
    ∙ (ap (λ m. outside_below trees s e m 63 0) size
    ∙ ap (λ x. outside_below trees s (x + c.args.count) c.args.op_count 63 0) c.get.ensures.same)))) in
    let m = c.args.op_count in
    let end : s + c.args.count ≡ m = omega (arith, one, next) in
    let most : m ≤ 2 ^ 62 = c.get-size.ensures.most in
    let whole : 0 + m % 2 ^ 63 ≡ m = omega (arith, low_all m most) in
    let some : 0 < m % 2 ^ 63 = omega (arith, next) in
    let low : s % 2 ^ 63 + 1 ≡ m % 2 ^ 63 = omega (arith, low_all s (omega (arith, next)), low_all m most, next) in
    all
    ∙ (ap (λ x. outside_below trees s x m 63 0) end
    ∙ (last_leaf trees s m 63 0 (sym next) whole some low
    ∙ sym (peaks_are hash v s count c.requires.least (omega (arith, next, c.requires.most)) (omega (arith, next)))))

pub returns-clause-exact : goal.returns-clause-exact
returns-clause-exact g c =
    let hash = g.H.Hasher.digest in
    let v = c.args.self.now in
    let trees = tree hash (reverse v.pinned) v.front v.leaves in
    let n = c.get-size.result in
    let s = c.args.start in
    let e = c.get.result + c.args.count in
    let size : n ≡ c.args.op_count = c.get-size.ensures.same in
    let zero : c.loop-height.height ≡ 0 = omega arith in
    let none : outside_below trees s e n c.loop-height.height (begins n c.loop-height.height) ≡ [] = ap (λ k. outside_below trees s e n k (begins n k)) zero ∙ outside_end trees s e n (begins n 0) in
    let all : c.from_vec.result ≡ outside_below trees s (s + c.args.count) c.args.op_count 63 0 =
    c.from_vec.ensures
    ∙ (sym (append-nil c.loop-height.digests.items)
    ∙ (ap (λ l. c.loop-height.digests.items ++ l) (sym none)
    ∙ (c.loop-height.invariant.done
    ∙ (ap (λ m. outside_below trees s e m 63 0) size
    ∙ ap (λ x. outside_below trees s (x + c.args.count) c.args.op_count 63 0) c.get.ensures.same)))) in
    ap (λ x. record { leaves = c.args.op_count; inactive_peaks = 0; digests = x }) all
