use Rattle.std.proofs.Common.{◌≡◌, ℕ, ◌+◌, ◌<◌, ◌≤◌, Bool, false, List, [], ◌∷◌, length, drop, set, replicate, sym, ap, subst, ◌∙◌, arith}
use Rattle.std.proofs.lemmas.List.{drop_all, drop-set-lt, drop_more, get_or-set_same, length-set, length-replicate}
use Rattle.ledger_log.specs.declared.any.AnyOp.{AnyOp}
use Rattle.ledger_activity.specs.declared.later.Later.{Later}
use Rattle.ledger_activity.specs.Active.{IsLater, activity}

-- what is known of a walk over these operations that has come down to one of them
pub record Walked (ops : List AnyOp) (index : ℕ) (bits : List Bool) (met : Later) : Type 0 where
  pub most : index ≤ length ops
  pub long : length bits ≡ length ops
  pub done : drop index bits ≡ activity (drop index ops)
  pub later : IsLater met (drop index ops)

-- a bit written at a place
set_done : (bits : List Bool) (p : ℕ) (b : Bool) → p < length bits → drop p (set bits p b) ≡ b ∷ drop (p + 1) bits
set_done bits p b l =
    let within : p < length (set bits p b) = omega (arith, length-set bits p b) in
    let less : p < p + 1 = omega arith in
    drop_more (set bits p b) p false within ∙ (ap (λ x. x ∷ drop (p + 1) (set bits p b)) (get_or-set_same bits p b false l) ∙ ap (λ z. b ∷ z) (drop-set-lt (p + 1) bits p b less))

module _ (ops : List AnyOp) where
  -- the walk begins behind the operations
  pub walk_begins : (count : ℕ) (later : Later) → count ≡ length ops → IsLater later [] → Walked ops count (replicate count false) later
  walk_begins count later e l =
      let none : drop count ops ≡ [] = drop_all count ops (omega arith) in
      record {
        most = omega arith;
        long = length-replicate count false ∙ e;
        done = drop_all count (replicate count false) (omega (arith, length-replicate count false)) ∙ ap activity (sym none);
        later = subst (IsLater later) (sym none) l;
      }

  -- one operation further down
  pub walk_on : (index p : ℕ) (bits : List Bool) (b : Bool) (later next : Later) → p + 1 ≡ index → Walked ops index bits later →
      activity (drop p ops) ≡ b ∷ activity (drop (p + 1) ops) → IsLater next (drop p ops) → Walked ops p (set bits p b) next
  walk_on index p bits b later next i w a n =
      let done : drop (p + 1) bits ≡ activity (drop (p + 1) ops) = subst (λ k. drop k bits ≡ activity (drop k ops)) (sym i) w.done in
      let within : p < length bits = omega (arith, w.most, w.long) in
      record {
        most = omega (arith, w.most);
        long = length-set bits p b ∙ w.long;
        done = set_done bits p b within ∙ (ap (λ z. b ∷ z) done ∙ sym a);
        later = n;
      }

  -- at the first one all bits are known
  pub walk_ends : (index : ℕ) (bits : List Bool) (later : Later) → index ≡ 0 → Walked ops index bits later → bits ≡ activity ops
  walk_ends index bits later e w = subst (λ k. drop k bits ≡ activity (drop k ops)) e w.done
