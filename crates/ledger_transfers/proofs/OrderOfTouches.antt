-- That the keys of a table which takes the touches one by one are in order of first touch.
use Rattle.std.proofs.Common.{◌≡◌, Bool, true, false, cond, ◌||◌, List, [], ◌∷◌, ◌++◌, map, refl, sym, ap, ◌∙◌}
use Rattle.std.specs.Prelude.{fold}
use Rattle.std.specs.List.{list_any}
use Rattle.std.specs.Map.{keys_of}
use Rattle.std.proofs.lemmas.List.{map-append}
use Rattle.indexmap.specs.IndexMap.{insert_entry}
use Rattle.indexmap.specs.IndexSet.{insert_key, insert_all}
use Rattle.ledger_transfers.specs.declared.change.Change.{Change}
use Rattle.ledger_transfers.specs.Registering.{touched}

module _ {K : Type 0} (eq : K → K → Bool) where
  fold_push : (ks qs : List K) (q : K) → insert_all eq ks (qs ++ q ∷ []) ≡ insert_key eq (insert_all eq ks qs) q
  fold_push ks [] q = refl
  fold_push ks (x ∷ qs) q = fold_push (insert_key eq ks x) qs q

module _ {K X : Type 0} (eq : K → K → Bool) where
  -- the keys after an entry is put
  pub keys_put : (es : List (K × X)) (k : K) (v : X) → keys_of (insert_entry eq es k v) ≡ insert_key eq (keys_of es) k
  keys_put [] k v = refl
  keys_put (e ∷ es) k v = by (eq k e.0) (list_any (eq k) (keys_of es)) refl (keys_put es k v)
    where
      by : (b c : Bool) → list_any (eq k) (keys_of es) ≡ c → keys_of (insert_entry eq es k v) ≡ cond (list_any (eq k) (keys_of es)) (keys_of es) (keys_of es ++ k ∷ [])
          → keys_of (cond b ((e.0, v) ∷ es) (e ∷ insert_entry eq es k v)) ≡ cond (b || list_any (eq k) (keys_of es)) (e.0 ∷ keys_of es) (e.0 ∷ (keys_of es ++ k ∷ []))
      by true c p rest = refl
      by false true p rest = ap (λ ks. e.0 ∷ ks) (rest ∙ ap (λ b. cond b (keys_of es) (keys_of es ++ k ∷ [])) p) ∙ ap (λ b. cond b (e.0 ∷ keys_of es) (e.0 ∷ (keys_of es ++ k ∷ []))) (sym p)
      by false false p rest = ap (λ ks. e.0 ∷ ks) (rest ∙ ap (λ b. cond b (keys_of es) (keys_of es ++ k ∷ [])) p) ∙ ap (λ b. cond b (e.0 ∷ keys_of es) (e.0 ∷ (keys_of es ++ k ∷ []))) (sym p)

  -- one touch more
  pub touched_push : {E : Type 0} (ts : List (K × Change E)) (t : K × Change E) (es : List (K × X)) (v : X) → keys_of es ≡ touched eq [] ts → keys_of (insert_entry eq es t.0 v) ≡ touched eq [] (ts ++ t ∷ [])
  touched_push ts t es v h =
      keys_put es t.0 v ∙ ap (λ ks. insert_key eq ks t.0) h ∙ sym (fold_push eq [] (map (λ u. u.0) ts) t.0)
      ∙ ap (insert_all eq []) (sym (map-append (λ u. u.0) ts (t ∷ [])))
