use Rattle.std.proofs.Common.{◌≡◌, ℕ, suc, ◌+◌, ◌-◌, ◌/◌, ◌<◌, ◌≤◌, ◌^◌, ◌++◌, List, [], length, get_or, set, take, drop, sym, ap, ◌∙◌, inl, inr, arith}
use Rattle.std.proofs.lemmas.List.{get_or_default, get_or-set_same, get_or-set_other, get_or_past, drop_all, take_all, append-nil}
use Rattle.std.proofs.Math.Seq.{take-nil}
use Rattle.std.proofs.lemmas.Bool.{cases_eq}
use Rattle.ledger_merkle.proofs.Trees.{below_or_not}
use Rattle.ledger_merkle.proofs.Kept.{half_last}
use Rattle.ledger_merkle.proofs.level.cut_levels.Goals as goal

pub loop-level-preserved : goal.loop-level-preserved
loop-level-preserved c =
    let i = c.loop-level.level-index in
    let items = c.loop-level.level-items in
    let start = c.deref_mut-level-items.result.now in
    let new = c.shorten.new.self in
    let there : i < length items = omega (arith, c.loop-level.auto.level-items, c.loop-level-test.true) in
    let far : suc i ≡ i + 1 = omega arith in
    let here : new ≡ take (c.args.size / 2 ^ i - c.args.front / 2 ^ i) (get_or start i []) =
    c.shorten.ensures
    ∙ (ap (λ z. take (c.loop-level.next - c.loop-level.first) z) (get_or_default items i c.level-item.result [] there ∙ c.loop-level.invariant.rest i (omega arith))
    ∙ (ap (λ z. take (z - c.loop-level.first) (get_or start i [])) c.loop-level.invariant.next ∙ ap (λ z. take (c.args.size / 2 ^ i - z) (get_or start i [])) c.loop-level.invariant.first)) in
    record {
      order = omega (arith, c.loop-level.invariant.order);
      first = ap (λ z. z / 2) c.loop-level.invariant.first ∙ (sym (half_last c.args.front i) ∙ ap (λ z. c.args.front / 2 ^ z) far);
      next = ap (λ z. z / 2) c.loop-level.invariant.next ∙ (sym (half_last c.args.size i) ∙ ap (λ z. c.args.size / 2 ^ z) far);
      done = λ h b. elim (cases_eq h i) [
        | inl y ↦ ap (λ z. get_or (set items i new) z []) y ∙ (get_or-set_same items i new [] there ∙ (here ∙ ap (λ z. take (c.args.size / 2 ^ z - c.args.front / 2 ^ z) (get_or start z [])) (sym y)))
        | inr n ↦ get_or-set_other items i h new [] n ∙ c.loop-level.invariant.done h (omega arith)
      ];
      rest = λ h b. get_or-set_other items i h new [] (λ y. omega arith) ∙ c.loop-level.invariant.rest h (omega arith);
    }

pub returns : goal.returns
returns c h =
    let i = c.loop-level.level-index in
    let items = c.loop-level.level-items in
    let start = c.deref_mut-level-items.result.now in
    let old = c.args.levels.now.items in
    let len = c.args.levels.now.len in
    let n = c.args.size / 2 ^ h - c.args.front / 2 ^ h in
    let now : start ≡ old = c.deref_mut-level-items.ensures.value in
    let same : length start ≡ length old = ap length now in
    let long : length items ≡ length start = c.loop-level.auto.level-items in
    let tail : drop (length items) old ≡ [] = drop_all (length items) old (omega arith) in
    let fits : length items ≤ len = omega (arith, c.deref_mut-level-items.ensures.len) in
    let whole : take len (items ++ drop (length items) old) ≡ items = ap (λ z. take len (items ++ z)) tail ∙ (ap (take len) (append-nil items) ∙ take_all len items fits) in
    ap (λ z. get_or z h []) whole
    ∙ elim (below_or_not (suc h) i) [
      | inl b ↦ c.loop-level.invariant.done h (omega arith) ∙ ap (λ z. take n (get_or z h [])) now
      | inr b ↦ c.loop-level.invariant.rest h (omega arith) ∙ (get_or_past start h [] (omega (arith, c.loop-level-test.false)) ∙ sym (ap (take n) (get_or_past old h [] (omega (arith, c.loop-level-test.false))) ∙ take-nil {A = List ℕ} n))
    ]
