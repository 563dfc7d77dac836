use Rattle.std.proofs.Common.{◌≡◌, ℕ, ◌||◌, Bool, true, false, cond, List, ◌∷◌, Option, Some, None, is_some, refl, sym, ap, ◌∙◌}
use Rattle.std.specs.BTreeSet.{BTreeSet, contains}
use Rattle.std.specs.BTreeMap.{is_at}
use Rattle.std.specs.Cmp.Lexicographic.{slice_cmp}
use Rattle.std.specs.Ordering.{nat_cmp}
use Rattle.std.specs.Str.{bytes_eq}
use Rattle.std.proofs.lemmas.Map.Text.{is_eq-slice_cmp}
use Rattle.ledger_log.specs.Any.{any_floor, any_write}
use Rattle.ledger_log.specs.Index.{writes_key}
use Rattle.ledger_log.specs.declared.any.AnyOp.{AnyOp}
use Rattle.ledger_activity.specs.declared.later.Later.{Later}
use Rattle.ledger_activity.specs.Active.{is_written, has_commit, IsLater}

-- whether a write is of this key
written : (b : Bool) (value : Option (List ℕ)) → is_some (cond b (Some value) None) ≡ b
written true value = refl
written false value = refl

one_more : (b rest : Bool) → cond b true rest ≡ (b || rest)
one_more true rest = refl
one_more false rest = refl

-- the keys after one more operation that writes one
pub keys_met : (old new : BTreeSet (List ℕ)) (key : List ℕ) (op : AnyOp) (value : Option (List ℕ)) (ops : List AnyOp) → any_write op ≡ Some (key, value) →
    ((q : List ℕ) → contains (slice_cmp nat_cmp) new q ≡ cond (is_at (slice_cmp nat_cmp key) q) true (contains (slice_cmp nat_cmp) old q)) →
    ((q : List ℕ) → contains (slice_cmp nat_cmp) old q ≡ is_written q ops) → (q : List ℕ) → contains (slice_cmp nat_cmp) new q ≡ is_written q (op ∷ ops)
keys_met old new key op value ops w updates before q =
    updates q
    ∙ (ap (λ b. cond b true (contains (slice_cmp nat_cmp) old q)) (is_eq-slice_cmp key q)
    ∙ (ap (cond (bytes_eq key q) true) (before q)
    ∙ (one_more (bytes_eq key q) (is_written q ops)
    ∙ ap (λ b. b || is_written q ops) (sym (ap (writes_key q) w ∙ written (bytes_eq key q) value)))))

-- what is known after an operation that writes a key
pub met_write : (old new : Later) (key : List ℕ) (op : AnyOp) (value : Option (List ℕ)) (ops : List AnyOp) → any_write op ≡ Some (key, value) → any_floor op ≡ None →
    ((q : List ℕ) → contains (slice_cmp nat_cmp) new.keys q ≡ cond (is_at (slice_cmp nat_cmp key) q) true (contains (slice_cmp nat_cmp) old.keys q)) → new.commit ≡ old.commit →
    IsLater old ops → IsLater new (op ∷ ops)
met_write old new key op value ops w none updates same h = record {
  keys = keys_met old.keys new.keys key op value ops w updates h.keys;
  commit = same ∙ (h.commit ∙ sym (ap (λ o. is_some o || has_commit ops) none));
}
