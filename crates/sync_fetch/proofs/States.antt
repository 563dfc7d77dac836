-- A fetched state: its kind, and what is made of it.
use Rattle.std.proofs.Common.{◌≡◌, true, Option, Some, None, Result, Ok, Err, refl, sym, subst, ap, ◌∙◌}
use Rattle.std.specs.Prelude.{MatchOption, IsOk}
use Rattle.ledger_log.specs.declared.fault.LogFault.{LogFault}
use Rattle.ledger_log.specs.declared.target.CompactTarget.{CompactTarget}
use Rattle.sync_net.specs.declared.ask.Ask.TheVariants as asks
use Rattle.sync_net.specs.declared.message.Message.{Message}
use Rattle.sync_net.specs.declared.message.Message.TheVariants as messages
use Rattle.sync_net.specs.declared.response.GetCompactStateResponse.{GetCompactStateResponse}
use Rattle.sync_net.specs.Asks.{is_response_to}

-- of the request's response kind
pub is_state : {Op : Type 0} (target : CompactTarget) (m : Message Op) → is_response_to (asks.CompactState target) m ≡ true → (r : GetCompactStateResponse Op) × (m ≡ messages.GetCompactStateResponse r)
is_state target (messages.GetCompactStateResponse r) e = (r, refl)
is_state target (messages.GetOperationsRequest r) e = absurd (cc e)
is_state target (messages.GetOperationsResponse r) e = absurd (cc e)
is_state target (messages.GetSyncTargetRequest r) e = absurd (cc e)
is_state target (messages.GetSyncTargetResponse r) e = absurd (cc e)
is_state target (messages.GetCompactTargetRequest r) e = absurd (cc e)
is_state target (messages.GetCompactTargetResponse r) e = absurd (cc e)
is_state target (messages.GetCompactStateRequest r) e = absurd (cc e)
is_state target (messages.Error r) e = absurd (cc e)

-- it was taken, so nothing refuses it
pub nothing_refuses : {X : Type 0} (refusal : Option LogFault) (result : Result X LogFault) (x : X) → MatchOption refusal (IsOk result) (λ fault. result ≡ Err fault) → result ≡ Ok x → refusal ≡ None
nothing_refuses None result x h e = refl
nothing_refuses (Some fault) result x h e = absurd (let k : Ok x ≡ Err fault = sym e ∙ h in cc)

-- it was refused so, so this refuses it
pub this_refuses : {X : Type 0} (refusal : Option LogFault) (result : Result X LogFault) (fault : LogFault) → MatchOption refusal (IsOk result) (λ fault. result ≡ Err fault) → result ≡ Err fault → refusal ≡ Some fault
this_refuses {X} None result fault h e = absurd (let k : IsOk {T = X} {E = LogFault} (Err fault) = subst (λ (r : Result X LogFault). IsOk r) e h in cc)
this_refuses (Some other) result fault h e = let k : Err other ≡ Err fault = sym h ∙ e in let same : other ≡ fault = cc in ap Some same
