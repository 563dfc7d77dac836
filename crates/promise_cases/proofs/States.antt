-- States that a log tells of itself are taken.
use Rattle.std.proofs.Common.{◌≡◌, ℕ, List, Option, Some, None, Result, Ok, Err, option_map, refl, subst}
use Rattle.std.specs.Prelude.{IsOk, IsOkUnless, MatchOption}
use Rattle.std.proofs.lemmas.Option.{MatchOption-at_none}
use Rattle.ledger_compact.specs.View.{CompactView, state_of, target_of}
use Rattle.ledger_compact.specs.Refusals.{state_refusal}
use Rattle.ledger_log.specs.declared.fault.LogFault.{LogFault}
use Rattle.ledger_log.specs.declared.target.CompactTarget.{CompactTarget}
use Rattle.ledger_log.specs.declared.target.CompactState.{CompactState}

pub ok_unless : {X E : Type 0} (result : Result X E) (fault : E) → IsOk result → IsOkUnless result fault
ok_unless (Ok x) fault h = tt
ok_unless (Err e) fault h = absurd (cc h)

module _ {Op : Type 0} (hash : List ℕ → List ℕ) (spelling : Op → List ℕ) (floor_of : Op → Option ℕ) where
  -- what is kept of a log makes a state that nothing refuses
  pub nothing_refuses : (kept : Option (CompactView Op)) (target : CompactTarget) (state : CompactState Op) → option_map (target_of hash) kept ≡ Some target → option_map state_of kept ≡ Some state
      → ((log : CompactView Op) → kept ≡ Some log → state_refusal hash spelling floor_of (target_of hash log) (state_of log) ≡ None) → state_refusal hash spelling floor_of target state ≡ None
  nothing_refuses None target state t s taken = absurd (cc t)
  nothing_refuses (Some log) target state t s taken =
      let its_target : target_of hash log ≡ target = cc t in
      let its_state : state_of log ≡ state = cc s in
      subst (λ (x : CompactTarget). state_refusal hash spelling floor_of x state ≡ None) its_target (subst (λ (x : CompactState Op). state_refusal hash spelling floor_of (target_of hash log) x ≡ None) its_state (taken log refl))

  -- so it is taken
  pub state_taken : {X : Type 0} (kept : Option (CompactView Op)) (target : CompactTarget) (state : CompactState Op) (result : Result X LogFault) (memory : LogFault) → option_map (target_of hash) kept ≡ Some target → option_map state_of kept ≡ Some state
      → ((log : CompactView Op) → kept ≡ Some log → state_refusal hash spelling floor_of (target_of hash log) (state_of log) ≡ None)
      → MatchOption (state_refusal hash spelling floor_of target state) (IsOk result) (λ fault. result ≡ Err fault) → IsOkUnless result memory
  state_taken kept target state result memory t s taken refusal =
      ok_unless result memory (MatchOption-at_none (IsOk result) (λ fault. result ≡ Err fault) (nothing_refuses kept target state t s taken) refusal)
