-- Kept pieces that cover a range make one part.
use Rattle.std.proofs.Common.{◌≡◌, ℕ, suc, ◌+◌, ◌-◌, ◌<◌, ◌≤◌, List, [], ◌∷◌, length, get_or, take, drop, refl, sym, ap, subst, ◌∙◌, arith, inl, inr}
use Rattle.std.proofs.lemmas.Bool.{cases_lt}
use Rattle.std.proofs.lemmas.List.{ext_get_or, get_or-drop, get_or-take}
use Rattle.std.proofs.lemmas.List.Elements.{All-get_or}
use Rattle.std.proofs.lemmas.List.Sums.{sum_by-cons}
use Rattle.sync_client.specs.declared.collector.Piece.{Piece}
use Rattle.sync_client.specs.Tiles.{inside, in_pieces}
use Rattle.sync_client.specs.Parts.{Stands, Assembles}
use Rattle.sync_client.proofs.Insides.{inside_in, inside_before, inside_behind}

bounds : (x a b : ℕ) → 0 < inside x a b → (a ≤ x) × (x < b)
bounds x a b h = elim (cases_lt x a) [
  | inl k ↦ let e = inside_before x a b k in absurd (omega arith)
  | inr k ↦ elim (cases_lt x b) [
    | inl j ↦ (k, j)
    | inr j ↦ let e = inside_behind x a b j in absurd (omega arith)
  ]
]

-- a piece in which the place stands
stands_in : {Op : Type 0} (x : ℕ) (ks : List (Piece Op)) → 0 < in_pieces x ks → (p : Piece Op) × (i : ℕ) × (i < length ks) × (get_or ks i p ≡ p) × (p.at ≤ x) × (x < p.at + length p.ops)
stands_in x [] h = absurd (omega arith)
stands_in {Op} x (p ∷ ks) h =
    let c : in_pieces x (p ∷ ks) ≡ inside x p.at (p.at + length p.ops) + in_pieces x ks = sum_by-cons (λ (p : Piece Op). inside x p.at (p.at + length p.ops)) p ks in
    elim (cases_lt 0 (inside x p.at (p.at + length p.ops))) [
      | inl k ↦ let b = bounds x p.at (p.at + length p.ops) k in (p, 0, omega arith, refl, b.0, b.1)
      | inr k ↦ let r = stands_in x ks (omega arith) in (r.0, suc r.1, (let q = r.2 in omega arith), r.3, r.4, r.5)
    ]

-- what stands at a place of the part
reads : {Op : Type 0} (start : ℕ) (ops : List Op) (p : Piece Op) (x : ℕ) (d : Op) → Stands start ops p → p.at ≤ x → x < p.at + length p.ops → get_or ops (x - start) d ≡ get_or p.ops (x - p.at) d
reads {Op} start ops p x d h le lt =
    let s : start ≤ p.at = h.0 in
    let a : get_or (take (length p.ops) (drop (p.at - start) ops)) (x - p.at) d ≡ get_or (drop (p.at - start) ops) (x - p.at) d = get_or-take (length p.ops) (drop (p.at - start) ops) (x - p.at) d (omega arith) in
    let b : get_or (drop (p.at - start) ops) (x - p.at) d ≡ get_or ops (p.at - start + (x - p.at)) d = get_or-drop (p.at - start) ops (x - p.at) d in
    let e : p.at - start + (x - p.at) ≡ x - start = omega arith in
    sym (sym (ap (λ (zs : List Op). get_or zs (x - p.at) d) h.1) ∙ (a ∙ (b ∙ ap (λ (i : ℕ). get_or ops i d) e)))

same_at : {Op : Type 0} (start end : ℕ) (ks : List (Piece Op)) (a b : List Op) (d : Op) → ((x : ℕ) → in_pieces x ks ≡ inside x start end) → length a ≡ end - start → Assembles start ks a → Assembles start ks b → (i : ℕ) → i < length a → get_or a i d ≡ get_or b i d
same_at {Op} start end ks a b d cover len ha hb i lt =
    let one : inside (start + i) start end ≡ 1 = inside_in (start + i) start end (omega arith) (omega arith) in
    let some : 0 < in_pieces (start + i) ks = let c = cover (start + i) in omega arith in
    let r = stands_in (start + i) ks some in
    let sa : Stands start a r.0 = subst (Stands start a) r.3 (All-get_or (Stands start a) ks r.1 r.0 r.2 ha.1) in
    let sb : Stands start b r.0 = subst (Stands start b) r.3 (All-get_or (Stands start b) ks r.1 r.0 r.2 hb.1) in
    let e : start + i - start ≡ i = omega arith in
    let x = reads start a r.0 (start + i) d sa r.4 r.5 in
    let y = reads start b r.0 (start + i) d sb r.4 r.5 in
    sym (ap (λ (k : ℕ). get_or a k d) e) ∙ (x ∙ (sym y ∙ ap (λ (k : ℕ). get_or b k d) e))

pub one_part : {Op : Type 0} (start end : ℕ) (ks : List (Piece Op)) (a b : List Op) → ((x : ℕ) → in_pieces x ks ≡ inside x start end) → length a ≡ end - start → Assembles start ks a → Assembles start ks b → a ≡ b
one_part start end ks [] [] cover len ha hb = refl
one_part start end ks [] (y ∷ b) cover len ha hb = let e = ha.0 in let f = hb.0 in absurd (omega arith)
one_part start end ks (x ∷ a) b cover len ha hb = ext_get_or x (x ∷ a) b (ha.0 ∙ sym hb.0) (same_at start end ks (x ∷ a) b x cover len ha hb)
