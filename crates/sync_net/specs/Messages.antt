-- The nine messages as bytes.
use Rattle.std.specs.Prelude.{ℕ, ◌<◌, ◌≤◌, ◌^◌, List, [], ◌∷◌, ◌++◌, length, All, Ok, Err, ◌==◌, if◌then◌else◌}
use Rattle.std.specs.Int.{w64, to_be_bytes}
use Rattle.std.specs.Str.{IsUtf8}
use Rattle.ledger_codec.specs.declared.fault.CodecError.TheVariants as faults
use Rattle.ledger_codec.specs.Parsing.{Parsed, ◌>>=◌}
use Rattle.ledger_codec.specs.Numbers.{byte_at, number_at, varint}
use Rattle.ledger_codec.specs.Sequences.{list_at, text_at, list_written, string_written, ListFits}
use Rattle.ledger_merkle.specs.Spellings.{location_at, proof_at, proof_written, IsSoundLocation, IsSoundProof}
use Rattle.ledger_log.specs.Spellings.{target_at, target_written, IsSoundTarget, compact_target_at, compact_target_written, IsSoundCompactTarget, compact_state_at, compact_state_written, IsSoundCompactState, CompactStateFits}
use Rattle.sync_net.specs.declared.request.GetOperationsRequest.{GetOperationsRequest}
use Rattle.sync_net.specs.declared.request.GetSyncTargetRequest.{GetSyncTargetRequest}
use Rattle.sync_net.specs.declared.request.GetCompactTargetRequest.{GetCompactTargetRequest}
use Rattle.sync_net.specs.declared.request.GetCompactStateRequest.{GetCompactStateRequest}
use Rattle.sync_net.specs.declared.response.GetOperationsResponse.{GetOperationsResponse}
use Rattle.sync_net.specs.declared.response.GetSyncTargetResponse.{GetSyncTargetResponse}
use Rattle.sync_net.specs.declared.response.GetCompactTargetResponse.{GetCompactTargetResponse}
use Rattle.sync_net.specs.declared.response.GetCompactStateResponse.{GetCompactStateResponse}
use Rattle.sync_net.specs.declared.response.ErrorResponse.{ErrorResponse}
use Rattle.sync_net.specs.declared.message.Message.{Message}
use Rattle.sync_net.specs.declared.message.Message.TheVariants as messages
use Rattle.sync_net.specs.Fields.{flag_at, flag_written, non_zero_at, code_at, code_number, pinned_at, pinned_written, AreSoundPinned, PinnedFit}

-- ---- what is read

-- a request for operations
unfoldable pub operations_request_at : List ℕ → Parsed GetOperationsRequest
operations_request_at bytes =
    number_at bytes >>= λ request_id rest.
    location_at rest >>= λ op_count rest.
    location_at rest >>= λ start_loc rest.
    non_zero_at rest >>= λ max_ops rest.
    flag_at rest >>= λ pinned rest.
    Ok (record { request_id = request_id; op_count = op_count; start_loc = start_loc; max_ops = max_ops; include_pinned_nodes = pinned }, rest)

-- operations with their proof
unfoldable pub operations_response_at : {Op : Type 0} → (List ℕ → Parsed Op) → List ℕ → Parsed (GetOperationsResponse Op)
operations_response_at op bytes =
    number_at bytes >>= λ request_id rest.
    proof_at rest >>= λ proof rest.
    list_at 10000 op rest >>= λ operations rest.
    pinned_at rest >>= λ pinned_nodes rest.
    Ok (record { request_id = request_id; proof = proof; operations = operations; pinned_nodes = pinned_nodes }, rest)

-- a request for the target
abbrev pub sync_target_request_at : List ℕ → Parsed GetSyncTargetRequest
sync_target_request_at bytes = number_at bytes >>= λ request_id rest. Ok (record { request_id = request_id }, rest)

-- a target
unfoldable pub sync_target_response_at : List ℕ → Parsed GetSyncTargetResponse
sync_target_response_at bytes = number_at bytes >>= λ request_id rest. target_at rest >>= λ target rest. Ok (record { request_id = request_id; target = target }, rest)

-- a request for the compact target
abbrev pub compact_target_request_at : List ℕ → Parsed GetCompactTargetRequest
compact_target_request_at bytes = number_at bytes >>= λ request_id rest. Ok (record { request_id = request_id }, rest)

-- a compact target
unfoldable pub compact_target_response_at : List ℕ → Parsed GetCompactTargetResponse
compact_target_response_at bytes = number_at bytes >>= λ request_id rest. compact_target_at rest >>= λ target rest. Ok (record { request_id = request_id; target = target }, rest)

-- a request for the state of a compact target
unfoldable pub compact_state_request_at : List ℕ → Parsed GetCompactStateRequest
compact_state_request_at bytes = number_at bytes >>= λ request_id rest. compact_target_at rest >>= λ target rest. Ok (record { request_id = request_id; target = target }, rest)

-- a compact state
unfoldable pub compact_state_response_at : {Op : Type 0} → (List ℕ → Parsed Op) → List ℕ → Parsed (GetCompactStateResponse Op)
compact_state_response_at op bytes = number_at bytes >>= λ request_id rest. compact_state_at op rest >>= λ state rest. Ok (record { request_id = request_id; state = state }, rest)

-- a refusal
unfoldable pub error_response_at : List ℕ → Parsed ErrorResponse
error_response_at bytes =
    number_at bytes >>= λ request_id rest.
    code_at rest >>= λ error_code rest.
    text_at 10485760 rest >>= λ message rest.
    Ok (record { request_id = request_id; error_code = error_code; message = message }, rest)

-- a reading of a message's fields as the message
abbrev pub within : {Op M : Type 0} → (M → Message Op) → (List ℕ → Parsed M) → List ℕ → Parsed (Message Op)
within message fields bytes = fields bytes >>= λ value rest. Ok (message value, rest)

-- the fields of the message of a tag
abbrev pub tagged : {Op : Type 0} → (List ℕ → Parsed Op) → ℕ → List ℕ → Parsed (Message Op)
tagged op tag rest =
    if tag == 0 then within messages.GetOperationsRequest operations_request_at rest else (
    if tag == 1 then within messages.GetOperationsResponse (operations_response_at op) rest else (
    if tag == 2 then within messages.GetSyncTargetRequest sync_target_request_at rest else (
    if tag == 3 then within messages.GetSyncTargetResponse sync_target_response_at rest else (
    if tag == 4 then within messages.GetCompactTargetRequest compact_target_request_at rest else (
    if tag == 5 then within messages.GetCompactTargetResponse compact_target_response_at rest else (
    if tag == 6 then within messages.GetCompactStateRequest compact_state_request_at rest else (
    if tag == 7 then within messages.GetCompactStateResponse (compact_state_response_at op) rest else (
    if tag == 8 then within messages.Error error_response_at rest else Err (faults.InvalidEnum tag)))))))))

-- a tag and the fields of its message
unfoldable pub message_at : {Op : Type 0} → (List ℕ → Parsed Op) → List ℕ → Parsed (Message Op)
message_at op bytes = byte_at bytes >>= tagged op

-- ---- what is written

-- eight bytes of a number
abbrev pub number_written : ℕ → List ℕ
number_written n = to_be_bytes w64 n

-- a request for operations
abbrev pub operations_request_written : GetOperationsRequest → List ℕ
operations_request_written m = (((number_written m.request_id ++ varint m.op_count) ++ varint m.start_loc) ++ number_written m.max_ops.value) ++ flag_written m.include_pinned_nodes

-- operations with their proof
abbrev pub operations_response_written : {Op : Type 0} → (Op → List ℕ) → GetOperationsResponse Op → List ℕ
operations_response_written op m = ((number_written m.request_id ++ proof_written m.proof) ++ list_written op m.operations) ++ pinned_written m.pinned_nodes

-- a request for the target
abbrev pub sync_target_request_written : GetSyncTargetRequest → List ℕ
sync_target_request_written m = number_written m.request_id

-- a target
abbrev pub sync_target_response_written : GetSyncTargetResponse → List ℕ
sync_target_response_written m = number_written m.request_id ++ target_written m.target

-- a request for the compact target
abbrev pub compact_target_request_written : GetCompactTargetRequest → List ℕ
compact_target_request_written m = number_written m.request_id

-- a compact target
abbrev pub compact_target_response_written : GetCompactTargetResponse → List ℕ
compact_target_response_written m = number_written m.request_id ++ compact_target_written m.target

-- a request for the state of a compact target
abbrev pub compact_state_request_written : GetCompactStateRequest → List ℕ
compact_state_request_written m = number_written m.request_id ++ compact_target_written m.target

-- a compact state
abbrev pub compact_state_response_written : {Op : Type 0} → (Op → List ℕ) → GetCompactStateResponse Op → List ℕ
compact_state_response_written op m = number_written m.request_id ++ compact_state_written op m.state

-- a refusal
abbrev pub error_response_written : ErrorResponse → List ℕ
error_response_written m = (number_written m.request_id ++ code_number m.error_code ∷ []) ++ string_written m.message

-- a tag and the fields of its message
abbrev pub message_written : {Op : Type 0} → (Op → List ℕ) → Message Op → List ℕ
message_written op (messages.GetOperationsRequest m) = 0 ∷ operations_request_written m
message_written op (messages.GetOperationsResponse m) = 1 ∷ operations_response_written op m
message_written op (messages.GetSyncTargetRequest m) = 2 ∷ sync_target_request_written m
message_written op (messages.GetSyncTargetResponse m) = 3 ∷ sync_target_response_written m
message_written op (messages.GetCompactTargetRequest m) = 4 ∷ compact_target_request_written m
message_written op (messages.GetCompactTargetResponse m) = 5 ∷ compact_target_response_written m
message_written op (messages.GetCompactStateRequest m) = 6 ∷ compact_state_request_written m
message_written op (messages.GetCompactStateResponse m) = 7 ∷ compact_state_response_written op m
message_written op (messages.Error m) = 8 ∷ error_response_written m

-- ---- what every message is, and which are within their limits

-- a number of 64 bits
abbrev pub IsNumber : ℕ → Type 0
IsNumber n = n < 2 ^ 64

-- what every request for operations is
pub record IsSoundOperationsRequest (m : GetOperationsRequest) : Type 0 where
  pub request_id : IsNumber m.request_id
  pub op_count : IsSoundLocation m.op_count
  pub start_loc : IsSoundLocation m.start_loc
  pub max_ops : IsNumber m.max_ops.value

-- what every answer with operations is
pub record IsSoundOperationsResponse {Op : Type 0} (sound : Op → Type 0) (m : GetOperationsResponse Op) : Type 0 where
  pub request_id : IsNumber m.request_id
  pub proof : IsSoundProof m.proof
  pub operations : All sound m.operations
  pub pinned_nodes : AreSoundPinned m.pinned_nodes

-- an answer whose lists are within their limits
pub record OperationsResponseFits {Op : Type 0} (fits : Op → Type 0) (m : GetOperationsResponse Op) : Type 0 where
  pub proof : length m.proof.digests ≤ 10000
  pub operations : ListFits 10000 fits m.operations
  pub pinned_nodes : PinnedFit m.pinned_nodes

-- what every answer with a target is
abbrev pub IsSoundSyncTargetResponse : GetSyncTargetResponse → Type 0
IsSoundSyncTargetResponse m = IsNumber m.request_id × IsSoundTarget m.target

-- what every answer with a compact target is
abbrev pub IsSoundCompactTargetResponse : GetCompactTargetResponse → Type 0
IsSoundCompactTargetResponse m = IsNumber m.request_id × IsSoundCompactTarget m.target

-- what every request for a compact state is
abbrev pub IsSoundCompactStateRequest : GetCompactStateRequest → Type 0
IsSoundCompactStateRequest m = IsNumber m.request_id × IsSoundCompactTarget m.target

-- what every answer with a compact state is
abbrev pub IsSoundCompactStateResponse : {Op : Type 0} → (Op → Type 0) → GetCompactStateResponse Op → Type 0
IsSoundCompactStateResponse sound m = IsNumber m.request_id × IsSoundCompactState sound m.state

-- what every refusal is
abbrev pub IsSoundErrorResponse : ErrorResponse → Type 0
IsSoundErrorResponse m = IsNumber m.request_id × IsUtf8 m.message

-- what every message is
abbrev pub IsSoundMessage : {Op : Type 0} → (Op → Type 0) → Message Op → Type 0
IsSoundMessage sound (messages.GetOperationsRequest m) = IsSoundOperationsRequest m
IsSoundMessage sound (messages.GetOperationsResponse m) = IsSoundOperationsResponse sound m
IsSoundMessage sound (messages.GetSyncTargetRequest m) = IsNumber m.request_id
IsSoundMessage sound (messages.GetSyncTargetResponse m) = IsSoundSyncTargetResponse m
IsSoundMessage sound (messages.GetCompactTargetRequest m) = IsNumber m.request_id
IsSoundMessage sound (messages.GetCompactTargetResponse m) = IsSoundCompactTargetResponse m
IsSoundMessage sound (messages.GetCompactStateRequest m) = IsSoundCompactStateRequest m
IsSoundMessage sound (messages.GetCompactStateResponse m) = IsSoundCompactStateResponse sound m
IsSoundMessage sound (messages.Error m) = IsSoundErrorResponse m

-- a message whose lists and texts are within their limits
abbrev pub MessageFits : {Op : Type 0} → (Op → Type 0) → Message Op → Type 0
MessageFits fits (messages.GetOperationsRequest m) = Unit {0}
MessageFits fits (messages.GetOperationsResponse m) = OperationsResponseFits fits m
MessageFits fits (messages.GetSyncTargetRequest m) = Unit {0}
MessageFits fits (messages.GetSyncTargetResponse m) = Unit {0}
MessageFits fits (messages.GetCompactTargetRequest m) = Unit {0}
MessageFits fits (messages.GetCompactTargetResponse m) = Unit {0}
MessageFits fits (messages.GetCompactStateRequest m) = Unit {0}
MessageFits fits (messages.GetCompactStateResponse m) = CompactStateFits fits m.state
MessageFits fits (messages.Error m) = length m.message ≤ 10485760
