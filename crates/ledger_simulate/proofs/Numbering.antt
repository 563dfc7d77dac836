-- The numbers of queued events.
use Rattle.std.proofs.Common.{◌≡◌, ◌≤◌, ◌<◌, ◌+◌, ℕ, suc, IfNone, IfSome, List, [], ◌∷◌, Option, None, Some, length, sym, ◌∙◌, subst, arith, Ordering}
use Rattle.std.specs.declared.cmp.Ordering.TheVariants.{Less, Equal, Greater}
use Rattle.std.specs.Ordering.{match_ordering}
use Rattle.std.specs.BTreeMap.{insert_entry}
use Rattle.std.proofs.lemmas.List.Elements.{All-cons, All-head, All-nil, All-tail, All-weaker}
use Rattle.ledger_simulate.specs.Queue.{NumberedBelow, QueueView, key_cmp, later, queued, queued_all}
use Rattle.ledger_simulate.specs.declared.event.Event.{Event}

-- numbers are below a greater one too
pub numbered_up : (n m : ℕ) (es : List ((ℕ × ℕ) × Event)) → n ≤ m → NumberedBelow n es → NumberedBelow m es
numbered_up n m es up below =
    All-weaker (λ (e : (ℕ × ℕ) × Event). e.0.1 < n) (λ e. e.0.1 < m) (λ e h. under e.0.1 n m h up) es below
  where
    under : (k n m : ℕ) → k < n → n ≤ m → k < m
    under k n m h up = omega arith

-- one event more, of a number that is below too
pub numbered_insert : (n : ℕ) (es : List ((ℕ × ℕ) × Event)) (k : ℕ × ℕ) (v : Event) → k.1 < n → NumberedBelow n es → NumberedBelow n (insert_entry key_cmp es k v)
numbered_insert n [] k v inside below = All-cons (λ (e : (ℕ × ℕ) × Event). e.0.1 < n) (k, v) [] inside (All-nil (λ (e : (ℕ × ℕ) × Event). e.0.1 < n))
numbered_insert n (e ∷ es) k v inside below =
    let head : e.0.1 < n = All-head (λ (x : (ℕ × ℕ) × Event). x.0.1 < n) e es below in
    let tail : NumberedBelow n es = All-tail (λ (x : (ℕ × ℕ) × Event). x.0.1 < n) e es below in
    place head tail (numbered_insert n es k v inside tail) (key_cmp k e.0)
  where
    place : e.0.1 < n → NumberedBelow n es → NumberedBelow n (insert_entry key_cmp es k v) → (o : Ordering) → NumberedBelow n (match_ordering o ((k, v) ∷ e ∷ es) ((e.0, v) ∷ es) (e ∷ insert_entry key_cmp es k v))
    place head tail rest Less = All-cons (λ (x : (ℕ × ℕ) × Event). x.0.1 < n) (k, v) (e ∷ es) inside below
    place head tail rest Equal = All-cons (λ (x : (ℕ × ℕ) × Event). x.0.1 < n) (e.0, v) es head tail
    place head tail rest Greater = All-cons (λ (x : (ℕ × ℕ) × Event). x.0.1 < n) e (insert_entry key_cmp es k v) head rest

-- those that are left once the first was taken off, if there was one
pub numbered_rest : (n : ℕ) (taken : Option ((ℕ × ℕ) × Event)) (old new : List ((ℕ × ℕ) × Event)) → IfSome taken (λ e. old ≡ e ∷ new) → IfNone taken (new ≡ old) → NumberedBelow n old → NumberedBelow n new
numbered_rest n None old new removal same below = subst (NumberedBelow n) (sym same) below
numbered_rest n (Some e) old new removal same below = All-tail (λ (x : (ℕ × ℕ) × Event). x.0.1 < n) e new (subst (NumberedBelow n) removal below)

-- the next number after these events
pub next_after : (q : QueueView) (now : ℕ) (es : List (ℕ × Event)) → (queued_all q now es).next ≡ q.next + length es
next_after q now [] = omega arith
next_after q now (e ∷ es) =
    let rest : (queued_all (queued q (later now e.0, e.1)) now es).next ≡ (q.next + 1) + length es = next_after (queued q (later now e.0, e.1)) now es in
    rest ∙ one q.next (length es)
  where
    one : (n l : ℕ) → (n + 1) + l ≡ n + suc l
    one n l = omega arith
