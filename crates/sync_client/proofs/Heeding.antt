-- What heeding the next answer on a later target comes to.
use Rattle.std.proofs.Common.{◌≡◌, ℕ, subst, Bool, true, false, ◌||◌, nat_le, List, ◌∷◌, Option, Some, None, Result, Ok, Err, refl, sym, ap, ◌∙◌, if◌then◌else◌}
use Rattle.ledger_log.specs.declared.target.Target.{Target}
use Rattle.sync_client.specs.declared.fault.CollectFault.{CollectFault}
use Rattle.sync_client.specs.declared.fault.CollectFault.TheVariants as refusals
use Rattle.sync_client.specs.declared.fault.SyncFault.{SyncFault}
use Rattle.sync_client.specs.declared.fault.SyncFault.TheVariants as faults
use Rattle.std.specs.declared.ops.Range.{Range}
use Rattle.sync_net.specs.declared.response.GetOperationsResponse.{GetOperationsResponse}
use Rattle.sync_client.specs.Asking.{Plan, Judge, good}
use Rattle.sync_client.specs.Collected.{Collected, target_of, accepted, replanned, is_complete}
use Rattle.sync_client.specs.Told.{Retargets}
use Rattle.sync_client.specs.Steps.{TakesTarget, Heeds, TakesReply}
use Rattle.sync_client.specs.Updates.{is_stale, with_target, heeded, answer_next, answers_left}
use Rattle.sync_client.proofs.Aiming.{unheeded, none_named, one_named, named_first}

-- a refusal says that the target is stale
pub refused_stale : {Op : Type 0} (fault : CollectFault) (later : Target) (c d : Collected Op) → Retargets (Err fault) later c d → is_stale c.plan later ≡ true
refused_stale (refusals.StaleUpdate start end) later c d h = h.0
refused_stale refusals.OutOfMemory later c d h = absurd h
refused_stale (refusals.InvalidProof n) later c d h = absurd h
refused_stale (refusals.WrongRoot found) later c d h = absurd h

-- no answer is asked for
pub heeds_not : {Op : Type 0} (c : Collected Op) (answers : List (Option Target)) (x : Unit {0}) → (is_complete c || nat_le 8 c.plan.taken) ≡ true → Heeds (Ok x) c c answers answers
heeds_not c answers x e = (unheeded (is_complete c) c.plan answers e, refl)

-- none is named
pub heeds_none : {Op : Type 0} (c : Collected Op) (before now : List (Option Target)) (answer : Option Target) (x : Unit {0}) → (is_complete c || nat_le 8 c.plan.taken) ≡ false → answer ≡ answer_next before → answer ≡ None → now ≡ answers_left before → Heeds (Ok x) c c before now
heeds_none c before now answer x e f n g =
    (none_named (is_complete c) c.plan before e (sym f ∙ n) ∙ ap (λ (l : List (Option Target)). let r : Result (Plan × List (Option Target)) Target = Ok (c.plan, l) in r) (sym g), refl)

-- one is named
module _ {Op : Type 0} (c d : Collected Op) (before now : List (Option Target)) (answer : Option Target) (later : Target) (e : (is_complete c || nat_le 8 c.plan.taken) ≡ false) (f : answer ≡ answer_next before) (n : answer ≡ Some later) (g : now ≡ answers_left before) where
  named : heeded (is_complete c) c.plan before ≡ (if is_stale c.plan later then Err later else Ok (with_target c.plan later, now))
  named = one_named (is_complete c) c.plan before later e (sym f ∙ n) ∙ ap (λ (l : List (Option Target)). let r : Result (Plan × List (Option Target)) Target = if is_stale c.plan later then Err later else Ok (with_target c.plan later, l) in r) (sym g)

  pub heeds_named : (result : Result (Unit {0}) SyncFault) → TakesTarget result later c d → Heeds result c d before now
  heeds_named (Ok x) h =
      let one : heeded (is_complete c) c.plan before ≡ Ok (with_target c.plan later, now) = named ∙ ap (λ (b : Bool). let r : Result (Plan × List (Option Target)) Target = if b then Err later else Ok (with_target c.plan later, now) in r) h.0 in
      let plan : d.plan ≡ with_target c.plan later = ap (λ (v : Collected Op). v.plan) h.1 in
      (one ∙ ap (λ (p : Plan). let r : Result (Plan × List (Option Target)) Target = Ok (p, now) in r) (sym plan), h.1 ∙ ap (λ (p : Plan). replanned p c) (sym plan))
  heeds_named (Err (faults.StaleUpdate start end)) h =
      let one : heeded (is_complete c) c.plan before ≡ Err later = named ∙ ap (λ (b : Bool). let r : Result (Plan × List (Option Target)) Target = if b then Err later else Ok (with_target c.plan later, now) in r) h.0 in
      (later, h.1, h.2, one, named_first before later (sym f ∙ n) ∙ ap (λ (l : List (Option Target)). Some later ∷ l) (sym g))
  heeds_named (Err faults.Network) h = absurd h
  heeds_named (Err faults.RequestChannelClosed) h = absurd h
  heeds_named (Err faults.InvalidResponse) h = absurd h
  heeds_named (Err (faults.UnexpectedResponse k)) h = absurd h
  heeds_named (Err (faults.Server code text)) h = absurd h
  heeds_named (Err (faults.InvalidProof k)) h = absurd h
  heeds_named (Err faults.TooManyStrays) h = absurd h
  heeds_named (Err (faults.WrongRoot found)) h = absurd h
  heeds_named (Err faults.Closed) h = absurd h
  heeds_named (Err faults.Exhausted) h = absurd h
  heeds_named (Err faults.OutOfMemory) h = absurd h

-- ---- a reply

-- an answer was kept, and then the next answer on a later target heeded
pub replies_heeded : {Op : Type 0} (result : Result (Unit {0}) SyncFault) (proved : Target → Judge Op) (r : Range ℕ) (number : ℕ) (m : GetOperationsResponse Op) (c kept d : Collected Op) (before now : List (Option Target))
    → good (proved (target_of c r)) c.plan.target.start r m ≡ true → kept ≡ accepted r m c → Heeds result kept d before now → TakesReply result proved r number m c d before now
replies_heeded (Ok x) proved r number m c kept d before now ok is h = (ok, subst (λ (v : Collected _). Heeds (Ok x) v d before now) is h)
replies_heeded (Err (faults.StaleUpdate start end)) proved r number m c kept d before now ok is h = (ok, subst (λ (v : Collected _). Heeds (Err (faults.StaleUpdate start end)) v d before now) is h)
replies_heeded (Err faults.Network) proved r number m c kept d before now ok is h = absurd h
replies_heeded (Err faults.RequestChannelClosed) proved r number m c kept d before now ok is h = absurd h
replies_heeded (Err faults.InvalidResponse) proved r number m c kept d before now ok is h = absurd h
replies_heeded (Err (faults.UnexpectedResponse k)) proved r number m c kept d before now ok is h = absurd h
replies_heeded (Err (faults.Server code text)) proved r number m c kept d before now ok is h = absurd h
replies_heeded (Err (faults.InvalidProof k)) proved r number m c kept d before now ok is h = absurd h
replies_heeded (Err faults.TooManyStrays) proved r number m c kept d before now ok is h = absurd h
replies_heeded (Err (faults.WrongRoot found)) proved r number m c kept d before now ok is h = absurd h
replies_heeded (Err faults.Closed) proved r number m c kept d before now ok is h = absurd h
replies_heeded (Err faults.Exhausted) proved r number m c kept d before now ok is h = absurd h
replies_heeded (Err faults.OutOfMemory) proved r number m c kept d before now ok is h = absurd h
