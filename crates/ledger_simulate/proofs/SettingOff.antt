-- What the configured failures do and count, one thing after another.
use Rattle.std.proofs.Common.{◌≡◌, inl, inr, ◌<◌, ◌≤◌, ◌+◌, ◌-◌, ◌%◌, ℕ, zero, suc, List, [], ◌∷◌, ◌++◌, Some, None, drop, length, get_or, remove, refl, sym, ap, ◌∙◌, subst, arith}
use Rattle.std.specs.Option.{option_or}
use Rattle.std.proofs.Math.ListN.{drop_of_length-le}
use Rattle.std.proofs.lemmas.List.{append-nil, append_assoc, drop_more, get_or_default, nil_from_length}
use Rattle.rand_pcg.specs.Lcg.{Lcg}
use Rattle.rand_pcg.specs.Pcg.{pcg32}
use Rattle.simulate_parts.specs.declared.peer.Peer.{Peer}
use Rattle.simulate_parts.specs.declared.schedule.Crash.{Crash}
use Rattle.ledger_simulate.specs.Causes.{IsSkip}
use Rattle.ledger_simulate.specs.Failures.{Standing, first_passed, looked_at, passed_at, picked, windows_entered}
use Rattle.ledger_simulate.specs.declared.fault.Stop.{Stop}

module _ (crashes items : List Crash) (i : ℕ) (same : items ≡ crashes) where
  -- the failures that are left, the one at this place first
  left_at : (c : Crash) → i < length items → c ≡ get_or items i c → drop i crashes ≡ c ∷ drop (i + 1) crashes
  left_at c within at =
      ap (drop i) (sym same) ∙ drop_more items i c within ∙ ap (λ x. x ∷ drop (i + 1) items) (sym at) ∙ ap (λ xs. c ∷ drop (i + 1) xs) same

  -- none is left
  none_left : length items ≤ i → drop i crashes ≡ []
  none_left past = drop_of_length-le crashes (subst (λ cs. length cs ≤ i) same past)

module _ {D E S : Type 0} (height : S → ℕ) (crashes items : List Crash) (i : ℕ) (same : items ≡ crashes) where
  -- the failure at this place was looked at
  pub windows_more : (c : Crash) (s u v : Standing D E S) → i < length items → c ≡ get_or items i c → windows_entered height i (drop i crashes) u ≡ windows_entered height 0 crashes s → v ≡ looked_at height i c u → windows_entered height (i + 1) (drop (i + 1) crashes) v ≡ windows_entered height 0 crashes s
  windows_more c s u v within at so_far looked =
      ap (windows_entered height (i + 1) (drop (i + 1) crashes)) looked ∙ sym (ap (λ cs. windows_entered height i cs u) (left_at crashes items i same c within at)) ∙ so_far

  -- it was no window that was passed
  pub passed_more : (c : Crash) (s u v : Standing D E S) → i < length items → c ≡ get_or items i c → first_passed height i (drop i crashes) u ≡ first_passed height 0 crashes s → passed_at height i c u ≡ None → v ≡ looked_at height i c u → first_passed height (i + 1) (drop (i + 1) crashes) v ≡ first_passed height 0 crashes s
  passed_more c s u v within at so_far unpassed looked =
      ap (first_passed height (i + 1) (drop (i + 1) crashes)) looked
      ∙ sym (ap (λ o. option_or o (first_passed height (i + 1) (drop (i + 1) crashes) (looked_at height i c u))) unpassed)
      ∙ sym (ap (λ cs. first_passed height i cs u) (left_at crashes items i same c within at))
      ∙ so_far

  -- it was a window that was passed
  pub passed_here : (c : Crash) (s u : Standing D E S) (stop : Stop) → i < length items → c ≡ get_or items i c → first_passed height i (drop i crashes) u ≡ first_passed height 0 crashes s → IsSkip (λ h. passed_at height i c u ≡ Some h) stop → IsSkip (λ h. first_passed height 0 crashes s ≡ Some h) stop
  passed_here c s u stop within at so_far (inl short) = inl short
  passed_here c s u stop within at so_far (inr skips) = inr (
    skips.0,
    skips.1,
    sym so_far
        ∙ ap (λ cs. first_passed height i cs u) (left_at crashes items i same c within at)
        ∙ ap (λ o. option_or o (first_passed height (i + 1) (drop (i + 1) crashes) (looked_at height i c u))) skips.2,
  )

  -- all were looked at
  pub windows_all : (s u : Standing D E S) → length items ≤ i → windows_entered height i (drop i crashes) u ≡ windows_entered height 0 crashes s → u ≡ windows_entered height 0 crashes s
  windows_all s u past so_far = sym (ap (λ cs. windows_entered height i cs u) (none_left crashes items i same past)) ∙ so_far

  pub passed_none : (s u : Standing D E S) → length items ≤ i → first_passed height i (drop i crashes) u ≡ first_passed height 0 crashes s → first_passed height 0 crashes s ≡ None
  passed_none s u past so_far = sym so_far ∙ ap (λ cs. first_passed height i cs u) (none_left crashes items i same past)

-- one peer is taken out, and so many are still to be
picked_more : (n : ℕ) (words after : Lcg) (left rest : List Peer) (pk : Peer) → 0 < length left → pk ≡ get_or left ((pcg32 words).0 % length left) pk → rest ≡ remove left ((pcg32 words).0 % length left) → after ≡ (pcg32 words).1 → picked (suc n) words left ≡ pk ∷ picked n after rest
picked_more n words after [] rest pk some taken removed next = absurd (omega arith)
picked_more n words after (p ∷ ps) rest pk some taken removed next =
    let at = (pcg32 words).0 % length (p ∷ ps) in
    let inside : at < length (p ∷ ps) = within (pcg32 words).0 (length ps) in
    let head : get_or (p ∷ ps) at p ≡ pk = get_or_default (p ∷ ps) at p pk inside ∙ sym taken in
    ap (λ x. x ∷ picked n (pcg32 words).1 (remove (p ∷ ps) at)) head ∙ ap (λ w. pk ∷ picked n w (remove (p ∷ ps) at)) (sym next) ∙ ap (λ ls. pk ∷ picked n after ls) (sym removed)
  where
    within : (w l : ℕ) → w % suc l < suc l
    within w l = omega arith

-- of nobody, nobody is taken out
picked_nobody : (n : ℕ) (words : Lcg) → picked n words [] ≡ []
picked_nobody zero words = refl
picked_nobody (suc n) words = refl

module _ (count done : ℕ) (words : Lcg) (left so_far whole : List Peer) where
  -- so many were taken out, and one more is
  pub picked_push : (after : Lcg) (rest grown : List Peer) (pk : Peer) → done < count → 0 < length left → pk ≡ get_or left ((pcg32 words).0 % length left) pk → rest ≡ remove left ((pcg32 words).0 % length left) → after ≡ (pcg32 words).1 → grown ≡ so_far ++ pk ∷ [] → so_far ++ picked (count - done) words left ≡ whole → grown ++ picked (count - (done + 1)) after rest ≡ whole
  picked_push after rest grown pk more some taken removed next push before =
      let n = count - (done + 1) in
      let one : picked (count - done) words left ≡ pk ∷ picked n after rest = ap (λ m. picked m words left) (less count done more) ∙ picked_more n words after left rest pk some taken removed next in
      ap (λ ps. ps ++ picked n after rest) push ∙ append_assoc so_far (pk ∷ []) (picked n after rest) ∙ ap (λ ps. so_far ++ ps) (sym one) ∙ before
    where
      less : (count done : ℕ) → done < count → count - done ≡ suc (count - (done + 1))
      less count done more = omega arith

  -- as many as are wanted were taken out
  pub picked_all : count ≤ done → so_far ++ picked (count - done) words left ≡ whole → so_far ≡ whole
  picked_all all before =
      sym (append-nil so_far) ∙ ap (λ m. so_far ++ picked m words left) (sym (nothing count done all)) ∙ before
    where
      nothing : (count done : ℕ) → count ≤ done → count - done ≡ 0
      nothing count done all = omega arith

  -- nobody is left
  pub picked_out : length left ≡ 0 → so_far ++ picked (count - done) words left ≡ whole → so_far ≡ whole
  picked_out nobody before =
      sym (append-nil so_far) ∙ ap (λ ps. so_far ++ ps) (sym (picked_nobody (count - done) words))
      ∙ ap (λ ls. so_far ++ picked (count - done) words ls) (sym (nil_from_length left nobody)) ∙ before
