-- A message that was written is read again, and reading takes its own bytes alone.
use Rattle.std.specs.Prelude.{◌≡◌, ℕ, ◌≤◌, Bool, List, [], ◌∷◌, ◌++◌, length, Ok}
use Rattle.std.proofs.Common.{refl, ap, ◌∙◌, append_assoc, lit≤, eqb}
use Rattle.ledger_codec.specs.declared.fault.CodecError.TheVariants as faults
use Rattle.ledger_codec.specs.Parsing.{Parsed, ◌>>=◌}
use Rattle.ledger_codec.specs.Numbers.{byte_at, number_at, varint}
use Rattle.ledger_codec.specs.Sequences.{list_at, text_at, list_written, string_written}
use Rattle.ledger_codec.specs.Spelling.{IsLocal, IsReadAgain, SpellLaws}
use Rattle.ledger_codec.specs.Laws.{then_local, same_local, cond_local, ok_local, err_local, byte_local, number_local, number_again, list_local, list_again, text_local, text_again, all_again}
use Rattle.ledger_merkle.specs.Spellings.{location_at, location_local, location_again, proof_at, proof_written, proof_local, proof_again}
use Rattle.ledger_log.specs.Spellings.{target_at, target_written, target_laws, compact_target_at, compact_target_written, compact_target_laws, compact_state_at, compact_state_written, compact_state_laws, CompactStateFits}
use Rattle.sync_net.specs.declared.request.GetOperationsRequest.{GetOperationsRequest}
use Rattle.sync_net.specs.declared.response.GetOperationsResponse.{GetOperationsResponse}
use Rattle.sync_net.specs.declared.response.ErrorResponse.{ErrorResponse}
use Rattle.sync_net.specs.declared.message.Message.{Message}
use Rattle.sync_net.specs.declared.message.Message.TheVariants as messages
use Rattle.sync_net.specs.Fields.{flag_at, flag_written, flag_local, flag_again, non_zero_at, non_zero_at_local, non_zero_again, code_at, code_number, code_local, code_again, pinned_at, pinned_written, pinned_local, pinned_again}
use Rattle.sync_net.specs.Messages.{operations_request_at, operations_request_written, IsSoundOperationsRequest, operations_response_at, operations_response_written, IsSoundOperationsResponse, OperationsResponseFits, sync_target_request_at, sync_target_request_written, sync_target_response_at, sync_target_response_written, IsSoundSyncTargetResponse, compact_target_request_at, compact_target_request_written, compact_target_response_at, compact_target_response_written, IsSoundCompactTargetResponse, compact_state_request_at, compact_state_request_written, IsSoundCompactStateRequest, compact_state_response_at, compact_state_response_written, IsSoundCompactStateResponse, error_response_at, error_response_written, IsSoundErrorResponse, within, tagged, message_at, message_written, IsSoundMessage, MessageFits, IsNumber, number_written}

-- ---- requests for operations

abbrev operations_request_read : List ℕ → Parsed GetOperationsRequest
operations_request_read bytes =
    number_at bytes >>= λ request_id rest.
    location_at rest >>= λ op_count rest.
    location_at rest >>= λ start_loc rest.
    non_zero_at rest >>= λ max_ops rest.
    flag_at rest >>= λ pinned rest.
    Ok (record { request_id = request_id; op_count = op_count; start_loc = start_loc; max_ops = max_ops; include_pinned_nodes = pinned }, rest)

operations_request_is : (bytes : List ℕ) → operations_request_at bytes ≡ operations_request_read bytes
unfolding operations_request_at
operations_request_is bytes = refl

operations_request_local : IsLocal operations_request_at
operations_request_local = same_local operations_request_at operations_request_read operations_request_is
    (then_local number_at _ number_local (λ request_id. then_local location_at _ location_local (λ op_count. then_local location_at _ location_local (λ start_loc. then_local non_zero_at _ non_zero_at_local (λ max_ops. then_local flag_at _ flag_local (λ pinned. ok_local (record { request_id = request_id; op_count = op_count; start_loc = start_loc; max_ops = max_ops; include_pinned_nodes = pinned })))))))

abbrev with_flag : GetOperationsRequest → Bool → GetOperationsRequest
with_flag m pinned = record m { include_pinned_nodes = pinned }

operations_request_again : (m : GetOperationsRequest) (rest : List ℕ) → IsSoundOperationsRequest m → operations_request_at (operations_request_written m ++ rest) ≡ Ok (m, rest)
operations_request_again m rest sound =
    let regrouped : operations_request_written m ++ rest ≡ number_written m.request_id ++ (varint m.op_count ++ (varint m.start_loc ++ (number_written m.max_ops.value ++ (flag_written m.include_pinned_nodes ++ rest)))) = regroup (number_written m.request_id) (varint m.op_count) (varint m.start_loc) (number_written m.max_ops.value) (flag_written m.include_pinned_nodes) rest in
    ap operations_request_at regrouped
    ∙ (operations_request_is _
    ∙ rw (
      number_again m.request_id (varint m.op_count ++ (varint m.start_loc ++ (number_written m.max_ops.value ++ (flag_written m.include_pinned_nodes ++ rest)))) sound.request_id,
      location_again m.op_count (varint m.start_loc ++ (number_written m.max_ops.value ++ (flag_written m.include_pinned_nodes ++ rest))) sound.op_count,
      location_again m.start_loc (number_written m.max_ops.value ++ (flag_written m.include_pinned_nodes ++ rest)) sound.start_loc,
      non_zero_again m.max_ops (flag_written m.include_pinned_nodes ++ rest) sound.max_ops,
    )
    (ap (λ (r : Parsed Bool). r >>= λ pinned after. Ok (with_flag m pinned, after)) (flag_again m.include_pinned_nodes rest)))
  where
    regroup : (a b c d e f : List ℕ) → ((((a ++ b) ++ c) ++ d) ++ e) ++ f ≡ a ++ (b ++ (c ++ (d ++ (e ++ f))))
    regroup a b c d e f = simp append_assoc

pub operations_request_laws : SpellLaws operations_request_at operations_request_written IsSoundOperationsRequest (λ _. Unit {0})
operations_request_laws = record { again = λ m sound fits rest. operations_request_again m rest sound; local = operations_request_local }

-- ---- answers with operations

operations_response_is : {Op : Type 0} (op : List ℕ → Parsed Op) (bytes : List ℕ) → operations_response_at op bytes ≡ (
    number_at bytes >>= λ request_id rest.
    proof_at rest >>= λ proof rest.
    list_at 10000 op rest >>= λ operations rest.
    pinned_at rest >>= λ pinned_nodes rest.
    Ok (record { request_id = request_id; proof = proof; operations = operations; pinned_nodes = pinned_nodes }, rest))
unfolding operations_response_at
operations_response_is op bytes = refl

operations_response_local : {Op : Type 0} (op : List ℕ → Parsed Op) → IsLocal op → IsLocal (operations_response_at op)
operations_response_local op L = same_local (operations_response_at op) _ (operations_response_is op)
    (then_local number_at _ number_local (λ request_id. then_local proof_at _ proof_local (λ proof. then_local (list_at 10000 op) _ (list_local 10000 op L) (λ operations. then_local pinned_at _ pinned_local (λ pinned_nodes. ok_local (record { request_id = request_id; proof = proof; operations = operations; pinned_nodes = pinned_nodes }))))))

operations_response_again : {Op : Type 0} (op : List ℕ → Parsed Op) (written : Op → List ℕ) (sound fits : Op → Type 0) (m : GetOperationsResponse Op) (rest : List ℕ) → SpellLaws op written sound fits → IsSoundOperationsResponse sound m → OperationsResponseFits fits m
    → operations_response_at op (operations_response_written written m ++ rest) ≡ Ok (m, rest)
operations_response_again op written sound fits m rest laws s f =
    let regrouped : operations_response_written written m ++ rest ≡ number_written m.request_id ++ (proof_written m.proof ++ (list_written written m.operations ++ (pinned_written m.pinned_nodes ++ rest))) = regroup (number_written m.request_id) (proof_written m.proof) (list_written written m.operations) (pinned_written m.pinned_nodes) rest in
    ap (operations_response_at op) regrouped
    ∙ (operations_response_is op _
    ∙ rw (
      number_again m.request_id (proof_written m.proof ++ (list_written written m.operations ++ (pinned_written m.pinned_nodes ++ rest))) s.request_id,
      proof_again m.proof (list_written written m.operations ++ (pinned_written m.pinned_nodes ++ rest)) s.proof f.proof,
      list_again 10000 op written m.operations (pinned_written m.pinned_nodes ++ rest) f.operations.0 (lit≤ tt) (all_again 10000 op written sound fits laws m.operations s.operations f.operations),
      pinned_again m.pinned_nodes rest s.pinned_nodes f.pinned_nodes,
    ) refl)
  where
    regroup : (a b c d e : List ℕ) → (((a ++ b) ++ c) ++ d) ++ e ≡ a ++ (b ++ (c ++ (d ++ e)))
    regroup a b c d e = simp append_assoc

pub operations_response_laws : {Op : Type 0} (op : List ℕ → Parsed Op) (written : Op → List ℕ) (sound fits : Op → Type 0) → SpellLaws op written sound fits → SpellLaws (operations_response_at op) (operations_response_written written) (IsSoundOperationsResponse sound) (OperationsResponseFits fits)
operations_response_laws op written sound fits laws = record { again = λ m s f rest. operations_response_again op written sound fits m rest laws s f; local = operations_response_local op laws.local }

-- ---- a number alone

pub sync_target_request_laws : SpellLaws sync_target_request_at sync_target_request_written (λ m. IsNumber m.request_id) (λ _. Unit {0})
sync_target_request_laws = record {
  again = λ m sound fits rest. rw (number_again m.request_id rest sound) refl;
  local = then_local number_at _ number_local (λ request_id. ok_local (record { request_id = request_id }));
}

pub compact_target_request_laws : SpellLaws compact_target_request_at compact_target_request_written (λ m. IsNumber m.request_id) (λ _. Unit {0})
compact_target_request_laws = record {
  again = λ m sound fits rest. rw (number_again m.request_id rest sound) refl;
  local = then_local number_at _ number_local (λ request_id. ok_local (record { request_id = request_id }));
}

-- ---- a number and one value more

-- a number, then a value
abbrev numbered : {A M : Type 0} → (ℕ → A → M) → (List ℕ → Parsed A) → List ℕ → Parsed M
numbered make value bytes = number_at bytes >>= λ request_id rest. value rest >>= λ x rest. Ok (make request_id x, rest)

numbered_local : {A M : Type 0} (make : ℕ → A → M) (value : List ℕ → Parsed A) → IsLocal value → IsLocal (numbered make value)
numbered_local make value L = then_local number_at _ number_local (λ request_id. then_local value _ L (λ x. ok_local (make request_id x)))

numbered_again : {A M : Type 0} (make : ℕ → A → M) (value : List ℕ → Parsed A) (n : ℕ) (x : A) (written rest : List ℕ) → IsNumber n → IsReadAgain value x written → numbered make value ((number_written n ++ written) ++ rest) ≡ Ok (make n x, rest)
numbered_again make value n x written rest lt again =
    ap (numbered make value) (append_assoc (number_written n) written rest) ∙ rw (number_again n (written ++ rest) lt, again rest) refl

sync_target_response_is : (bytes : List ℕ) → sync_target_response_at bytes ≡ numbered (λ request_id target. record { request_id = request_id; target = target }) target_at bytes
unfolding sync_target_response_at
sync_target_response_is bytes = refl

pub sync_target_response_laws : SpellLaws sync_target_response_at sync_target_response_written IsSoundSyncTargetResponse (λ _. Unit {0})
sync_target_response_laws = record {
  again = λ m sound fits rest. sync_target_response_is (sync_target_response_written m ++ rest) ∙ numbered_again (λ request_id target. record { request_id = request_id; target = target }) target_at m.request_id m.target (target_written m.target) rest sound.0 (target_laws.again m.target sound.1 tt);
  local = same_local sync_target_response_at _ sync_target_response_is (numbered_local (λ request_id target. record { request_id = request_id; target = target }) target_at target_laws.local);
}

compact_target_response_is : (bytes : List ℕ) → compact_target_response_at bytes ≡ numbered (λ request_id target. record { request_id = request_id; target = target }) compact_target_at bytes
unfolding compact_target_response_at
compact_target_response_is bytes = refl

pub compact_target_response_laws : SpellLaws compact_target_response_at compact_target_response_written IsSoundCompactTargetResponse (λ _. Unit {0})
compact_target_response_laws = record {
  again = λ m sound fits rest. compact_target_response_is (compact_target_response_written m ++ rest) ∙ numbered_again (λ request_id target. record { request_id = request_id; target = target }) compact_target_at m.request_id m.target (compact_target_written m.target) rest sound.0 (compact_target_laws.again m.target sound.1 tt);
  local = same_local compact_target_response_at _ compact_target_response_is (numbered_local (λ request_id target. record { request_id = request_id; target = target }) compact_target_at compact_target_laws.local);
}

compact_state_request_is : (bytes : List ℕ) → compact_state_request_at bytes ≡ numbered (λ request_id target. record { request_id = request_id; target = target }) compact_target_at bytes
unfolding compact_state_request_at
compact_state_request_is bytes = refl

pub compact_state_request_laws : SpellLaws compact_state_request_at compact_state_request_written IsSoundCompactStateRequest (λ _. Unit {0})
compact_state_request_laws = record {
  again = λ m sound fits rest. compact_state_request_is (compact_state_request_written m ++ rest) ∙ numbered_again (λ request_id target. record { request_id = request_id; target = target }) compact_target_at m.request_id m.target (compact_target_written m.target) rest sound.0 (compact_target_laws.again m.target sound.1 tt);
  local = same_local compact_state_request_at _ compact_state_request_is (numbered_local (λ request_id target. record { request_id = request_id; target = target }) compact_target_at compact_target_laws.local);
}

compact_state_response_is : {Op : Type 0} (op : List ℕ → Parsed Op) (bytes : List ℕ) → compact_state_response_at op bytes ≡ numbered (λ request_id state. record { request_id = request_id; state = state }) (compact_state_at op) bytes
unfolding compact_state_response_at
compact_state_response_is op bytes = refl

pub compact_state_response_laws : {Op : Type 0} (op : List ℕ → Parsed Op) (written : Op → List ℕ) (sound fits : Op → Type 0) → SpellLaws op written sound fits → SpellLaws (compact_state_response_at op) (compact_state_response_written written) (IsSoundCompactStateResponse sound) (λ m. CompactStateFits fits m.state)
compact_state_response_laws op written sound fits laws =
    let state = compact_state_laws op written sound fits laws in
    record {
      again = λ m s f rest. compact_state_response_is op (compact_state_response_written written m ++ rest) ∙ numbered_again (λ request_id state. record { request_id = request_id; state = state }) (compact_state_at op) m.request_id m.state (compact_state_written written m.state) rest s.0 (state.again m.state s.1 f);
      local = same_local (compact_state_response_at op) _ (compact_state_response_is op) (numbered_local (λ request_id state. record { request_id = request_id; state = state }) (compact_state_at op) state.local);
    }

-- ---- refusals

error_response_is : (bytes : List ℕ) → error_response_at bytes ≡ (
    number_at bytes >>= λ request_id rest.
    code_at rest >>= λ error_code rest.
    text_at 10485760 rest >>= λ message rest.
    Ok (record { request_id = request_id; error_code = error_code; message = message }, rest))
unfolding error_response_at
error_response_is bytes = refl

error_response_local : IsLocal error_response_at
error_response_local = same_local error_response_at _ error_response_is
    (then_local number_at _ number_local (λ request_id. then_local code_at _ code_local (λ error_code. then_local (text_at 10485760) _ (text_local 10485760) (λ message. ok_local (record { request_id = request_id; error_code = error_code; message = message })))))

error_response_again : (m : ErrorResponse) (rest : List ℕ) → IsSoundErrorResponse m → length m.message ≤ 10485760 → error_response_at (error_response_written m ++ rest) ≡ Ok (m, rest)
error_response_again m rest sound fits =
    let regrouped : error_response_written m ++ rest ≡ number_written m.request_id ++ (code_number m.error_code ∷ (string_written m.message ++ rest)) = regroup (number_written m.request_id) (code_number m.error_code) (string_written m.message) rest in
    ap error_response_at regrouped
    ∙ (error_response_is _
    ∙ rw (
      number_again m.request_id (code_number m.error_code ∷ (string_written m.message ++ rest)) sound.0,
      code_again m.error_code (string_written m.message ++ rest),
      text_again 10485760 m.message rest sound.1 fits (lit≤ tt),
    ) refl)
  where
    regroup : (a : List ℕ) (b : ℕ) (c d : List ℕ) → ((a ++ b ∷ []) ++ c) ++ d ≡ a ++ (b ∷ (c ++ d))
    regroup a b c d = simp append_assoc

pub error_response_laws : SpellLaws error_response_at error_response_written IsSoundErrorResponse (λ m. length m.message ≤ 10485760)
error_response_laws = record { again = λ m sound fits rest. error_response_again m rest sound fits; local = error_response_local }

-- ---- messages

message_is : {Op : Type 0} (op : List ℕ → Parsed Op) (bytes : List ℕ) → message_at op bytes ≡ (byte_at bytes >>= tagged op)
unfolding message_at
message_is op bytes = refl

within_local : {Op M : Type 0} (message : M → Message Op) (fields : List ℕ → Parsed M) → IsLocal fields → IsLocal (within message fields)
within_local message fields L = then_local fields _ L (λ value. ok_local (message value))

within_again : {Op M : Type 0} (message : M → Message Op) (fields : List ℕ → Parsed M) (m : M) (written rest : List ℕ) → IsReadAgain fields m written → within message fields (written ++ rest) ≡ Ok (message m, rest)
within_again message fields m written rest again = rw (again rest) refl

tagged_local : {Op : Type 0} (op : List ℕ → Parsed Op) (written : Op → List ℕ) (sound fits : Op → Type 0) → SpellLaws op written sound fits → (tag : ℕ) → IsLocal (tagged op tag)
tagged_local {Op} op written sound fits laws tag =
    cond_local (eqb tag 0) (within messages.GetOperationsRequest operations_request_at) _ (within_local messages.GetOperationsRequest operations_request_at operations_request_laws.local) (
    cond_local (eqb tag 1) (within messages.GetOperationsResponse (operations_response_at op)) _ (within_local messages.GetOperationsResponse (operations_response_at op) (operations_response_local op laws.local)) (
    cond_local (eqb tag 2) (within messages.GetSyncTargetRequest sync_target_request_at) _ (within_local messages.GetSyncTargetRequest sync_target_request_at sync_target_request_laws.local) (
    cond_local (eqb tag 3) (within messages.GetSyncTargetResponse sync_target_response_at) _ (within_local messages.GetSyncTargetResponse sync_target_response_at sync_target_response_laws.local) (
    cond_local (eqb tag 4) (within messages.GetCompactTargetRequest compact_target_request_at) _ (within_local messages.GetCompactTargetRequest compact_target_request_at compact_target_request_laws.local) (
    cond_local (eqb tag 5) (within messages.GetCompactTargetResponse compact_target_response_at) _ (within_local messages.GetCompactTargetResponse compact_target_response_at compact_target_response_laws.local) (
    cond_local (eqb tag 6) (within messages.GetCompactStateRequest compact_state_request_at) _ (within_local messages.GetCompactStateRequest compact_state_request_at compact_state_request_laws.local) (
    cond_local (eqb tag 7) (within messages.GetCompactStateResponse (compact_state_response_at op)) _ (within_local messages.GetCompactStateResponse (compact_state_response_at op) (let l = compact_state_response_laws op written sound fits laws in l.local)) (
    cond_local (eqb tag 8) (within messages.Error error_response_at) _ (within_local messages.Error error_response_at error_response_laws.local) (err_local (faults.InvalidEnum tag))))))))))

message_again : {Op : Type 0} (op : List ℕ → Parsed Op) (written : Op → List ℕ) (sound fits : Op → Type 0) (m : Message Op) (rest : List ℕ) → SpellLaws op written sound fits → IsSoundMessage sound m → MessageFits fits m → message_at op (message_written written m ++ rest) ≡ Ok (m, rest)
message_again op written sound fits (messages.GetOperationsRequest m) rest laws s f = message_is op _ ∙ within_again messages.GetOperationsRequest operations_request_at m (operations_request_written m) rest (operations_request_laws.again m s f)
message_again op written sound fits (messages.GetOperationsResponse m) rest laws s f = message_is op _ ∙ within_again messages.GetOperationsResponse (operations_response_at op) m (operations_response_written written m) rest (λ more. operations_response_again op written sound fits m more laws s f)
message_again op written sound fits (messages.GetSyncTargetRequest m) rest laws s f = message_is op _ ∙ within_again messages.GetSyncTargetRequest sync_target_request_at m (sync_target_request_written m) rest (sync_target_request_laws.again m s f)
message_again op written sound fits (messages.GetSyncTargetResponse m) rest laws s f = message_is op _ ∙ within_again messages.GetSyncTargetResponse sync_target_response_at m (sync_target_response_written m) rest (sync_target_response_laws.again m s f)
message_again op written sound fits (messages.GetCompactTargetRequest m) rest laws s f = message_is op _ ∙ within_again messages.GetCompactTargetRequest compact_target_request_at m (compact_target_request_written m) rest (compact_target_request_laws.again m s f)
message_again op written sound fits (messages.GetCompactTargetResponse m) rest laws s f = message_is op _ ∙ within_again messages.GetCompactTargetResponse compact_target_response_at m (compact_target_response_written m) rest (compact_target_response_laws.again m s f)
message_again op written sound fits (messages.GetCompactStateRequest m) rest laws s f = message_is op _ ∙ within_again messages.GetCompactStateRequest compact_state_request_at m (compact_state_request_written m) rest (compact_state_request_laws.again m s f)
message_again op written sound fits (messages.GetCompactStateResponse m) rest laws s f = message_is op _ ∙ within_again messages.GetCompactStateResponse (compact_state_response_at op) m (compact_state_response_written written m) rest (let l = compact_state_response_laws op written sound fits laws in l.again m s f)
message_again op written sound fits (messages.Error m) rest laws s f = message_is op _ ∙ within_again messages.Error error_response_at m (error_response_written m) rest (error_response_laws.again m s f)

pub message_laws : {Op : Type 0} (op : List ℕ → Parsed Op) (written : Op → List ℕ) (sound fits : Op → Type 0) → SpellLaws op written sound fits → SpellLaws (message_at op) (message_written written) (IsSoundMessage sound) (MessageFits fits)
message_laws op written sound fits laws = record {
  again = λ m s f rest. message_again op written sound fits m rest laws s f;
  local = same_local (message_at op) _ (message_is op) (then_local byte_at (tagged op) byte_local (tagged_local op written sound fits laws));
}
