-- Asks, their requests and their answers.
use Rattle.std.specs.Prelude.{◌≡◌, ℕ, Bool, true, false, List, Option, Some, None, Result, Ok, Err, length, ◌==◌, if◌then◌else◌, position, remove, slice_get, option_and_then}
use Rattle.sync_net.specs.declared.ask.Ask.{Ask}
use Rattle.sync_net.specs.declared.ask.Ask.TheVariants as asks
use Rattle.sync_net.specs.declared.ask.Pending.{Pending}
use Rattle.sync_net.specs.declared.ask.Answer.{Answer}
use Rattle.sync_net.specs.declared.ask.Answer.TheVariants as answers
use Rattle.sync_net.specs.declared.message.Message.{Message}
use Rattle.sync_net.specs.declared.message.Message.TheVariants as messages
use Rattle.sync_net.specs.declared.fault.MachineFault.{MachineFault}
use Rattle.sync_net.specs.declared.fault.MachineFault.TheVariants as faults
use Rattle.sync_net.specs.declared.response.ErrorResponse.{ErrorResponse}
use Rattle.sync_net.specs.Numbered.{number_of}

-- the request that asks this under a number
abbrev pub request_of : {Op : Type 0} → ℕ → Ask → Message Op
request_of number (asks.Operations op_count start_loc max_ops pinned) = messages.GetOperationsRequest (record { request_id = number; op_count = op_count; start_loc = start_loc; max_ops = max_ops; include_pinned_nodes = pinned })
request_of number asks.SyncTarget = messages.GetSyncTargetRequest (record { request_id = number })
request_of number asks.CompactTarget = messages.GetCompactTargetRequest (record { request_id = number })
request_of number (asks.CompactState target) = messages.GetCompactStateRequest (record { request_id = number; target = target })

-- what every ask is
abbrev pub IsSoundAsk : Ask → Type 0
IsSoundAsk (asks.Operations op_count start_loc max_ops pinned) = Unit {0}
IsSoundAsk asks.SyncTarget = Unit {0}
IsSoundAsk asks.CompactTarget = Unit {0}
IsSoundAsk (asks.CompactState target) = length target.root ≡ 32

-- the first pending ask of this number
abbrev pub pending_in : ℕ → List Pending → Option Pending
pending_in number ps = option_and_then (λ i. slice_get ps i) (position (λ p. p.number == number) ps)

-- without the one at this place
abbrev pub without_at : Option ℕ → List Pending → List Pending
without_at None ps = ps
without_at (Some i) ps = remove ps i

-- without the first of this number
abbrev pub without : ℕ → List Pending → List Pending
without number ps = without_at (position (λ p. p.number == number) ps) ps

-- operations are asked for
abbrev pub is_operations : Ask → Bool
is_operations (asks.Operations op_count start_loc max_ops pinned) = true
is_operations asks.SyncTarget = false
is_operations asks.CompactTarget = false
is_operations (asks.CompactState target) = false

-- the target is asked for
abbrev pub is_sync_target : Ask → Bool
is_sync_target (asks.Operations op_count start_loc max_ops pinned) = false
is_sync_target asks.SyncTarget = true
is_sync_target asks.CompactTarget = false
is_sync_target (asks.CompactState target) = false

-- the compact target is asked for
abbrev pub is_compact_target : Ask → Bool
is_compact_target (asks.Operations op_count start_loc max_ops pinned) = false
is_compact_target asks.SyncTarget = false
is_compact_target asks.CompactTarget = true
is_compact_target (asks.CompactState target) = false

-- a compact state is asked for
abbrev pub is_compact_state : Ask → Bool
is_compact_state (asks.Operations op_count start_loc max_ops pinned) = false
is_compact_state asks.SyncTarget = false
is_compact_state asks.CompactTarget = false
is_compact_state (asks.CompactState target) = true

-- the message is of the response kind of the ask
abbrev pub is_response_to : {Op : Type 0} → Ask → Message Op → Bool
is_response_to ask (messages.GetOperationsRequest m) = false
is_response_to ask (messages.GetOperationsResponse m) = is_operations ask
is_response_to ask (messages.GetSyncTargetRequest m) = false
is_response_to ask (messages.GetSyncTargetResponse m) = is_sync_target ask
is_response_to ask (messages.GetCompactTargetRequest m) = false
is_response_to ask (messages.GetCompactTargetResponse m) = is_compact_target ask
is_response_to ask (messages.GetCompactStateRequest m) = false
is_response_to ask (messages.GetCompactStateResponse m) = is_compact_state ask
is_response_to ask (messages.Error m) = false

-- the server's refusal, where the message is one
abbrev pub refusal_in : {Op : Type 0} → Message Op → Option ErrorResponse
refusal_in (messages.GetOperationsRequest m) = None
refusal_in (messages.GetOperationsResponse m) = None
refusal_in (messages.GetSyncTargetRequest m) = None
refusal_in (messages.GetSyncTargetResponse m) = None
refusal_in (messages.GetCompactTargetRequest m) = None
refusal_in (messages.GetCompactTargetResponse m) = None
refusal_in (messages.GetCompactStateRequest m) = None
refusal_in (messages.GetCompactStateResponse m) = None
refusal_in (messages.Error m) = Some m

-- why a message is no reply: the server's refusal, or another kind
abbrev pub fault_in : ℕ → Option ErrorResponse → MachineFault
fault_in number (Some refusal) = faults.Server refusal.error_code refusal.message
fault_in number None = faults.UnexpectedResponse number

-- a message of the ask's response kind is a reply
abbrev pub replied_to : {Op : Type 0} → ℕ → Ask → Message Op → Result (Answer Op) MachineFault
replied_to number ask m = if is_response_to ask m then Ok (answers.Reply number ask m) else Err (fault_in number (refusal_in m))

-- the answer that a message is to the pending ask of its number, a stray where there is none
abbrev pub answer_to : {Op : Type 0} → Message Op → Option Pending → Result (Answer Op) MachineFault
answer_to m (Some p) = replied_to (number_of m) p.ask m
answer_to m None = Ok (answers.Stray (number_of m))

-- the asks that are pending after a message was answered: a reply takes the first of its number
abbrev pub pending_after : {Op : Type 0} → Message Op → Answer Op → List Pending → List Pending
pending_after m (answers.Reply number ask message) pending = without (number_of m) pending
pending_after m (answers.Stray number) pending = pending
