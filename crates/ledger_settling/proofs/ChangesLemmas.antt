-- Copies and commits leave the values that the blocks' changes alone leave.
use Rattle.std.proofs.Common.{◌≡◌, ℕ, Bool, List, [], ◌∷◌, ◌++◌, map, Option, Some, None, refl, sym, ap, ◌∙◌, bytes_eq}
use Rattle.std.specs.Prelude.{option_and_then, option_map, unwrap_or}
use Rattle.std.specs.List.{last_or, cons_option, filter_map}
use Rattle.std.proofs.lemmas.List.Elements.{filter_map-append}
use Rattle.ledger_job.specs.declared.block.Block.{Block}
use Rattle.ledger_job.specs.declared.block.BlockVerdicts.{BlockVerdicts}
use Rattle.ledger_log.specs.Any.{any_write}
use Rattle.ledger_log.specs.View.{value_at, value_or_none, written_at}
use Rattle.ledger_log.specs.declared.any.AnyOp.{AnyOp}
use Rattle.ledger_managed.specs.Values.{Values}
use Rattle.ledger_settling.proofs.FloorLemmas.{grown_raises, grown_whole}
use Rattle.ledger_settling.specs.Blocks.{Meaning, RunsTo, batch_of, changed, firsts, grown, slot_at, with_changes, written}
use Rattle.ledger_settling.specs.Reports.{IsWhole}
use Rattle.ledger_transfers.specs.Rules.{Rules}
use Rattle.ledger_transfers.specs.Settling.{opened, after, slot_of}
use Rattle.ledger_transfers.specs.Touches.{touches, total_of}
use Rattle.ledger_transfers.specs.declared.change.Change.{Change}
use Rattle.ledger_transfers.specs.declared.slot.Slot.TheVariants.{Keep}

last_in_two : {X : Type 0} (o : Option X) (xs ys : List X) → last_or o (xs ++ ys) ≡ last_or (last_or o xs) ys
last_in_two o [] ys = refl
last_in_two o (x ∷ xs) ys = last_in_two (Some x) xs ys

after_value : (o p : Option (Option (List ℕ))) (ws : List (Option (List ℕ))) → value_or_none o ≡ value_or_none p → value_or_none (last_or o ws) ≡ value_or_none (last_or p ws)
after_value o p [] e = e
after_value o p (w ∷ ws) e = refl

-- what the operations leave at the key, one after another
abbrev left_at : List ℕ → List AnyOp → List (Option (List ℕ))
left_at key ops = filter_map (λ op. written_at key (any_write op)) ops

split : (key : List ℕ) (us zs : List AnyOp) → value_at any_write key (us ++ zs) ≡ value_or_none (last_or (last_or None (left_at key us)) (left_at key zs))
split key us zs =
    ap (λ (l : List (Option (List ℕ))). value_or_none (last_or None l)) (filter_map-append (λ op. written_at key (any_write op)) us zs)
    ∙ ap value_or_none (last_in_two None (left_at key us) (left_at key zs))

-- the value behind more operations depends on the one before them alone
values_behind : (key : List ℕ) (xs ys zs : List AnyOp) → value_at any_write key xs ≡ value_at any_write key ys → value_at any_write key (xs ++ zs) ≡ value_at any_write key (ys ++ zs)
values_behind key xs ys zs e = split key xs zs ∙ (after_value (last_or None (left_at key xs)) (last_or None (left_at key ys)) (left_at key zs) e ∙ sym (split key ys zs))

map_alike : {X Y : Type 0} (f g : X → Option Y) → ((x : X) → f x ≡ g x) → (xs : List X) → filter_map f xs ≡ filter_map g xs
map_alike f g h [] = refl
map_alike f g h (x ∷ xs) = ap (λ o. cons_option o (filter_map f xs)) (h x) ∙ ap (cons_option (g x)) (map_alike f g h xs)

-- each key has one value behind both
abbrev pub SameValues : List AnyOp → List AnyOp → Type 0
SameValues xs ys = (key : List ℕ) → value_at any_write key xs ≡ value_at any_write key ys

module _ {A E : Type 0} (same : A → A → Bool) (rules : Rules A E) (values : Values A) where
  -- what changes depends on the values alone
  changed_alike : (ops other : List AnyOp) (ts : List (List ℕ × Change E)) → SameValues ops other → changed same rules values ops ts ≡ changed same rules values other ts
  changed_alike ops other ts e = map_alike (λ key. written values key (slot_at same rules values ops ts key)) (λ key. written values key (slot_at same rules values other ts key)) at (firsts bytes_eq (map (λ t. t.0) ts))
    where
      at : (key : List ℕ) → written values key (slot_at same rules values ops ts key) ≡ written values key (slot_at same rules values other ts key)
      at key =
          ap (λ (v : Option (List ℕ)). written values key (unwrap_or (option_map (slot_of same rules (opened rules (option_and_then values.read v))) (after rules (opened rules (option_and_then values.read v)) (total_of bytes_eq ts key))) Keep)) (e key)

module _ {T A E : Type 0} (m : Meaning T A E) (start : ℕ) where
  runs_beside : (bs : List (Block T)) (vs : List BlockVerdicts) (ops other all : List AnyOp) → SameValues ops other → IsWhole start ops → RunsTo m start ops bs vs all → SameValues all (with_changes m other bs vs)
  runs_beside [] [] ops other all s w e = λ key. ap (value_at any_write key) e ∙ s key
  runs_beside [] (v ∷ vs) ops other all s w e = absurd e
  runs_beside (b ∷ bs) [] ops other all s w e = absurd e
  runs_beside (b ∷ bs) (v ∷ vs) ops other all s w e =
      runs_beside bs vs (grown m start ops (batch_of b v)) (other ++ changed m.same m.rules m.values other (touches m.changes_of (batch_of b v))) all
      (λ key. (grown_raises m start ops (batch_of b v) w).replay key
      ∙ (values_behind key ops other (changed m.same m.rules m.values ops (touches m.changes_of (batch_of b v))) (s key)
      ∙ ap (λ (us : List AnyOp). value_at any_write key (other ++ us)) (changed_alike m.same m.rules m.values ops other (touches m.changes_of (batch_of b v)) s)))
      (grown_whole m start ops (batch_of b v) w) e.1

  -- what blocks leave has the values that their changes alone leave
  pub runs_replay : (bs : List (Block T)) (vs : List BlockVerdicts) (ops all : List AnyOp) → IsWhole start ops → RunsTo m start ops bs vs all → SameValues all (with_changes m ops bs vs)
  runs_replay bs vs ops all w e = runs_beside bs vs ops ops all (λ key. refl) w e
