use Rattle.std.proofs.Common.{◌≡◌, suc, ◌-◌, ◌*◌, ◌/◌, ◌%◌, ◌^◌, [], ◌++◌, length, reverse, count_ones, sym, ap, ◌∙◌, subst, refl, arith}
use Rattle.std.proofs.lemmas.List.{append-nil}
use Rattle.ledger_merkle.specs.Leaves.{ListView}
use Rattle.ledger_merkle.specs.Levels.{tree, perfect_below}
use Rattle.ledger_merkle.proofs.Lists.{walk_step}
use Rattle.ledger_merkle.specs.Leaves.{peaks_at}
use Rattle.ledger_merkle.proofs.Pruned.{pruned_count}
use Rattle.ledger_merkle.proofs.Peaked.{begins, perfect_odd, perfect_even, perfect_end, peaks_are}
use Rattle.ledger_merkle.proofs.merkle_list.MerkleList.pinned.Goals as goal

pub loop-height-preserved-in-Continue-1 : goal.loop-height-preserved-in-Continue-1
loop-height-preserved-in-Continue-1 g c =
    let hash = g.H.Hasher.digest in
    let v = c.args.self.now in
    let trees = tree hash (reverse v.pinned) v.front v.leaves in
    let n = c.get-size.result in
    let k = c.loop-height.height in
    let j = k - 1 in
    let i : k ≡ suc j = omega arith in
    let index : c.index_of-index.result ≡ n / 2 ^ j = c.index_of-index.ensures in
    let odd : n / 2 ^ j % 2 ≡ 1 = ap (λ x. x % 2) (sym index) ∙ c.if-index-eq1.true in
    let peak : c.node_at-peak.result ≡ trees j ((n / 2 ^ j - 1) * 2 ^ j) = c.node_at-peak.ensures ∙ ap (λ x. trees j ((x - 1) * 2 ^ j)) index in
    let left = perfect_below trees n j (begins n j) in
    record {
      high = omega arith;
      done = ap (λ l. l ++ left) c.in_ok-push.ensures.items ∙ walk_step c.loop-height.peaks.items (perfect_below trees n k (begins n k)) left left _ c.node_at-peak.result (trees j ((n / 2 ^ j - 1) * 2 ^ j)) c.loop-height.invariant.done (perfect_odd trees n k j i odd) peak refl;
    }

pub loop-height-preserved : goal.loop-height-preserved
loop-height-preserved g c =
    let hash = g.H.Hasher.digest in
    let v = c.args.self.now in
    let trees = tree hash (reverse v.pinned) v.front v.leaves in
    let n = c.get-size.result in
    let k = c.loop-height.height in
    let j = k - 1 in
    let i : k ≡ suc j = omega arith in
    let index : c.index_of-index.result ≡ n / 2 ^ j = c.index_of-index.ensures in
    let even : n / 2 ^ j % 2 ≡ 0 = ap (λ x. x % 2) (sym index) ∙ omega arith in
    record { high = omega arith; done = ap (λ l. c.loop-height.peaks.items ++ l) (sym (perfect_even trees n k j i even)) ∙ c.loop-height.invariant.done }

pub returns-clause-peaks : goal.returns-clause-peaks
returns-clause-peaks g c =
    let hash = g.H.Hasher.digest in
    let v = c.args.self.now in
    let trees = tree hash (reverse v.pinned) v.front v.leaves in
    let count : length v.pinned ≡ count_ones v.front = subst (λ (x : ListView). length x.pinned ≡ count_ones x.front) c.self.view_is c.self.invariant.0 in
    let n = c.get-size.result in
    let same : n ≡ c.args.loc = c.get-size.ensures.same in
    let zero : c.loop-height.height ≡ 0 = omega arith in
    let none : perfect_below trees n c.loop-height.height (begins n c.loop-height.height) ≡ [] = ap (λ k. perfect_below trees n k (begins n k)) zero ∙ perfect_end trees n (begins n 0) in
    sym (append-nil c.loop-height.peaks.items)
    ∙ (ap (λ l. c.loop-height.peaks.items ++ l) (sym none)
    ∙ (c.loop-height.invariant.done
    ∙ (ap (λ m. perfect_below trees m 63 0) same
    ∙ sym (peaks_are hash v c.args.loc count c.requires.least c.requires.most c.get-size.ensures.most))))

pub returns-clause-count : goal.returns-clause-count
returns-clause-count g c =
    let hash = g.H.Hasher.digest in
    let v = c.args.self.now in
    let trees = tree hash (reverse v.pinned) v.front v.leaves in
    let count : length v.pinned ≡ count_ones v.front = subst (λ (x : ListView). length x.pinned ≡ count_ones x.front) c.self.view_is c.self.invariant.0 in
    let n = c.get-size.result in
    let same : n ≡ c.args.loc = c.get-size.ensures.same in
    let zero : c.loop-height.height ≡ 0 = omega arith in
    let none : perfect_below trees n c.loop-height.height (begins n c.loop-height.height) ≡ [] = ap (λ k. perfect_below trees n k (begins n k)) zero ∙ perfect_end trees n (begins n 0) in
    let peaks : c.loop-height.peaks.items ≡ peaks_at hash v c.args.loc =
    sym (append-nil c.loop-height.peaks.items)
    ∙ (ap (λ l. c.loop-height.peaks.items ++ l) (sym none)
    ∙ (c.loop-height.invariant.done
    ∙ (ap (λ m. perfect_below trees m 63 0) same
    ∙ sym (peaks_are hash v c.args.loc count c.requires.least c.requires.most c.get-size.ensures.most)))) in
    ap length peaks ∙ pruned_count hash v c.args.loc count c.requires.least c.requires.most
