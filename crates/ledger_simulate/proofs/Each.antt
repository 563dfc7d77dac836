-- A fact of each element, as far as a loop has come.
use Rattle.std.proofs.Common.{◌≡◌, ℕ, ◌+◌, ◌<◌, ◌≤◌, List, [], ◌∷◌, ◌++◌, length, take, get_or, All, subst, sym, ap, ◌∙◌, take_all}
use Rattle.std.proofs.lemmas.List.{take_more}
use Rattle.std.proofs.lemmas.List.Elements.{All-push}

-- one element more
pub All_more : {X : Type 0} (P : X → Type 0) (xs : List X) (i : ℕ) (x : X) → i < length xs → x ≡ get_or xs i x → All P (take i xs) → P x → All P (take (i + 1) xs)
All_more P xs i x h at all here = subst (All P) (sym (take_more xs i x h ∙ ap (λ y. take i xs ++ y ∷ []) (sym at))) (All-push P (take i xs) x all here)

-- all elements
pub All_whole : {X : Type 0} (P : X → Type 0) (xs : List X) (i : ℕ) → length xs ≤ i → All P (take i xs) → All P xs
All_whole P xs i h all = subst (All P) (take_all i xs h) all
