-- The target that a line names.
use Rattle.std.proofs.Common.{◌≡◌, ℕ, ◌<◌, ◌≤◌, ◌^◌, Bool, true, false, List, Some, None, Option, nat_le, nat_lt, refl, sym, ◌∙◌, ap, arith}
use Rattle.std.proofs.lemmas.Bool.{ltb-true}
use Rattle.std.proofs.lemmas.Bool.Decides.{nat_tests}
use denote.Struct.Props.{props}
use Rattle.std.specs.Prelude.{MatchOption}
use Rattle.ledger_log.specs.declared.target.Target.{Target}
use Rattle.ledger_job.specs.Ranges.{target_if, target_of}

-- the target of a target's parts is itself
if_is : (ordered : Bool) (target : Target) (less : nat_lt target.start target.end ≡ ordered) → target_if ordered target.root target.start target.end less ≡ Some target
if_is true target less =
    let p : IsProp (target.start < target.end) = hlevel props in
    ap (λ (o : target.start < target.end). Some (record { root = target.root; start = target.start; end = target.end; ordered = o })) (p (ltb-true target.start target.end less) target.ordered)
if_is false target less = absurd (let o : target.start < target.end = target.ordered in let t : nat_lt target.start target.end ≡ true = grind (arith, nat_tests) in cc)

if_none : (ordered : Bool) (root : List ℕ) (start end : ℕ) (less : nat_lt start end ≡ ordered) → end ≤ start → target_if ordered root start end less ≡ None
if_none true root start end less h = absurd (let f : nat_lt start end ≡ false = grind (arith, nat_tests) in cc)
if_none false root start end less h = refl

within : (root : List ℕ) (start end : ℕ) → end ≤ 2 ^ 62 → target_of root start end ≡ target_if (nat_lt start end) root start end refl
unfolding target_of
within root start end h = let t : nat_le end (2 ^ 62) ≡ true = grind (arith, nat_tests) in rw t refl

-- an end beyond the greatest size
pub beyond : (root : List ℕ) (start end : ℕ) → 2 ^ 62 < end → None ≡ target_of root start end
unfolding target_of
beyond root start end h = let t : nat_le end (2 ^ 62) ≡ false = grind (arith, nat_tests) in rw t refl

pub empty : (root : List ℕ) (start end : ℕ) → end ≤ 2 ^ 62 → end ≤ start → None ≡ target_of root start end
empty root start end w h = sym (within root start end w ∙ if_none (nat_lt start end) root start end refl h)

-- a start beyond it
beyond_by : (far : Bool) (root : List ℕ) (start end : ℕ) → nat_le end (2 ^ 62) ≡ far → 2 ^ 62 < start → None ≡ target_of root start end
beyond_by true root start end e h = let w : end ≤ 2 ^ 62 = grind (arith, nat_tests) in empty root start end w (omega (arith, w, h))
beyond_by false root start end e h = beyond root start end (let w : 2 ^ 62 < end = grind (arith, nat_tests) in w)

pub begins_beyond : (root : List ℕ) (start end : ℕ) → 2 ^ 62 < start → None ≡ target_of root start end
begins_beyond root start end h = beyond_by (nat_le end (2 ^ 62)) root start end refl h

made_of : (root : List ℕ) (start end : ℕ) (t : Target) → end ≤ 2 ^ 62 → t.root ≡ root → t.start ≡ start → t.end ≡ end → Some t ≡ target_of root start end
made_of root start end t w p q r =
    sym (within root start end w
    ∙ (ap (λ (k : List ℕ). target_if (nat_lt start end) k start end refl) (sym p)
    ∙ (ap (λ (k : ℕ). target_if (nat_lt k end) t.root k end refl) (sym q)
    ∙ (ap (λ (k : ℕ). target_if (nat_lt t.start k) t.root t.start k refl) (sym r)
    ∙ if_is (nat_lt t.start t.end) t refl))))

-- what `Target::new` makes of parts within the greatest size
pub made : (root : List ℕ) (start end : ℕ) (result : Option Target) → end ≤ 2 ^ 62 → MatchOption result (end ≤ start) (λ t. (t.root ≡ root) × (t.start ≡ start) × (t.end ≡ end)) → result ≡ target_of root start end
made root start end None w m = empty root start end w m
made root start end (Some t) w m = made_of root start end t w m.0 m.1 m.2

-- what `Location::new` answered
pub new_none : (o : Option ℕ) (n : ℕ) → o ≡ None → MatchOption o (2 ^ 62 < n) (λ l. (n ≤ 2 ^ 62) × (l ≡ n)) → 2 ^ 62 < n
new_none None n e m = m
new_none (Some l) n e m = absurd cc

pub new_some : (o : Option ℕ) (n l : ℕ) → o ≡ Some l → MatchOption o (2 ^ 62 < n) (λ l. (n ≤ 2 ^ 62) × (l ≡ n)) → (n ≤ 2 ^ 62) × (l ≡ n)
new_some None n l e m = absurd cc
new_some (Some k) n l e m = let same : k ≡ l = cc in (m.0, sym same ∙ m.1)
