use Rattle.std.proofs.Common.{◌≡◌, ℕ, zero, suc, ◌+◌, List, [], ◌∷◌, ◌++◌, sym, ap, ◌∙◌, arith}
use Rattle.std.specs.List.{flat_map, range_with_len}
use Rattle.std.proofs.lemmas.List.{flat_map_more}

-- one number more
pub range_more : (a n : ℕ) → range_with_len a (n + 1) ≡ range_with_len a n ++ (a + n) ∷ []
range_more a zero = ap (λ k. k ∷ []) (let e : a ≡ a + 0 = omega arith in e)
range_more a (suc n) =
    let next : suc n + 1 ≡ suc (n + 1) = omega arith in
    let sum : a + 1 + n ≡ a + suc n = omega arith in
    ap (range_with_len a) next ∙ ap (λ l. a ∷ l) (range_more (a + 1) n ∙ ap (λ k. range_with_len (a + 1) n ++ k ∷ []) sum)

-- the operations of one number more
pub steps_more : {Op : Type 0} (step : ℕ → List Op) (n : ℕ) → flat_map step (range_with_len 0 n) ++ step n ≡ flat_map step (range_with_len 0 (n + 1))
steps_more step n =
    let zero_on : 0 + n ≡ n = omega arith in
    flat_map_more step [] (range_with_len 0 n) n ∙ ap (flat_map step) (sym (range_more 0 n ∙ ap (λ k. range_with_len 0 n ++ k ∷ []) zero_on))
