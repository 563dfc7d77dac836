use Rattle.std.proofs.Common.{◌≡◌, ◌+◌, ◌++◌, ◌∷◌, [], ℕ, Option, Some, None, ap, ◌∙◌}
use Rattle.std.specs.Prelude.{IfSome, IfNone}
use Rattle.turn_lock.specs.declared.held.Held.{Held}
use Rattle.turn_lock.specs.History.{entry}
use Rattle.turn_lock.specs.Passes.{PassValue, Takes, Gives}
use Rattle.turn_lock.proofs.Turning.{gives_one, gives_none}
use Rattle.turn_lock.proofs.tests.add.Goals as goal

-- by cases on the answer
gives : (o : ℕ) (p q : PassValue ℕ ℕ ℕ) (y z : Held ℕ ℕ ℕ) (caller more : ℕ) (answer : Option ℕ) → Takes (λ value event outcome. outcome) (λ value event outcome. outcome ≡ value + event) o p q y → caller ≡ p.caller
    → IfSome answer (λ sum. (sum ≡ y.value + more) × (z.value ≡ sum) × (z.history.items ≡ y.history.items ++ entry caller more sum ∷ []))
    → IfNone answer ((z.value ≡ y.value) × (z.history.items ≡ y.history.items)) → Gives (λ value event outcome. outcome) (λ value event outcome. outcome ≡ value + event) o q z
gives o p q y z caller more (Some sum) t is ok none = gives_one _ _ o p q y z more sum t ok.0 ok.1 (ok.2 ∙ ap (λ c. y.history.items ++ entry c more sum ∷ []) is)
gives o p q y z caller more None t is ok none = gives_none _ _ o p q y z t none.0 none.1

pub give_back-requires-clause-gives : goal.give_back-requires-clause-gives
give_back-requires-clause-gives g c =
    let s = c.grow-sum.ensures in
    gives c.args.lock.now.opening c.args.pass.now c.take-held.new.pass c.take-held.result c.grow-sum.new.held c.caller.result c.args.more c.grow-sum.result c.take-held.ensures (c.caller.ensures ∙ ap (λ p. p.caller) c.take-held.ensures.pass) s.some s.none
