-- The numbers of messages.
use Rattle.std.specs.Prelude.{ℕ}
use Rattle.sync_net.specs.declared.message.Message.{Message}
use Rattle.sync_net.specs.declared.message.Message.TheVariants as messages

-- the number of the request that is made or answered
abbrev pub number_of : {Op : Type 0} → Message Op → ℕ
number_of (messages.GetOperationsRequest m) = m.request_id
number_of (messages.GetOperationsResponse m) = m.request_id
number_of (messages.GetSyncTargetRequest m) = m.request_id
number_of (messages.GetSyncTargetResponse m) = m.request_id
number_of (messages.GetCompactTargetRequest m) = m.request_id
number_of (messages.GetCompactTargetResponse m) = m.request_id
number_of (messages.GetCompactStateRequest m) = m.request_id
number_of (messages.GetCompactStateResponse m) = m.request_id
number_of (messages.Error m) = m.request_id
