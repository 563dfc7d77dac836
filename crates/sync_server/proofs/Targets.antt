-- A log's target is that of the reply core.
use Rattle.std.proofs.Common.{◌≡◌, ℕ, ◌<◌, Bool, true, false, nat_lt, List, refl, ap, ◌∙◌, arith}
use Rattle.std.proofs.lemmas.Bool.{ltb-true}
use Rattle.std.proofs.lemmas.Bool.Decides.{nat_tests}
use denote.Struct.Props.{props}
use Rattle.ledger_log.specs.declared.target.Target.{Target}
use Rattle.sync_net.specs.declared.message.Message.{Message}
use Rattle.sync_net.specs.declared.message.Message.TheVariants as messages
use Rattle.sync_net.specs.Core.{target_answer}

-- the answer with this target
abbrev target_sent : {Op : Type 0} → ℕ → Target → Message Op
target_sent number target = messages.GetSyncTargetResponse (record { request_id = number; target = target })

-- the answer with a target of these parts
abbrev target_found : {Op : Type 0} → ℕ → List ℕ → ℕ → ℕ → Message Op
target_found number root start end = target_answer (nat_lt start end) number root start end refl

answered : {Op : Type 0} (ordered : Bool) (number : ℕ) (target : Target) (less : nat_lt target.start target.end ≡ ordered) → target_sent {Op = Op} number target ≡ target_answer ordered number target.root target.start target.end less
answered {Op} true number target less =
    let p : IsProp (target.start < target.end) = hlevel props in
    ap (λ (o : target.start < target.end). target_sent {Op = Op} number (record { root = target.root; start = target.start; end = target.end; ordered = o })) (p target.ordered (ltb-true target.start target.end less))
answered false number target less = absurd (let o : target.start < target.end = target.ordered in let t : nat_lt target.start target.end ≡ true = grind (arith, nat_tests) in cc)

pub target_is : {Op : Type 0} (number : ℕ) (target : Target) (root : List ℕ) (start end : ℕ) → target.root ≡ root → target.start ≡ start → target.end ≡ end → target_sent {Op = Op} number target ≡ target_found number root start end
target_is {Op} number target root start end p q r =
    answered (nat_lt target.start target.end) number target refl
    ∙ (ap (λ (k : List ℕ). target_found {Op = Op} number k target.start target.end) p
    ∙ (ap (λ (k : ℕ). target_found {Op = Op} number root k target.end) q
    ∙ ap (λ (k : ℕ). target_found {Op = Op} number root start k) r))
