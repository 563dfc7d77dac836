-- What a server of compact logs answers to a message, as a function of what is kept of its log.
use Rattle.std.specs.Prelude.{ℕ, Bool, ◌&&◌, if◌then◌else◌, nat_eq, List, Option, Some, None, codes}
use Rattle.std.specs.Str.{bytes_eq}
use Rattle.ledger_log.specs.declared.target.CompactTarget.{CompactTarget}
use Rattle.ledger_compact.specs.View.{CompactView, compact_root, target_of, state_of}
use Rattle.sync_net.specs.declared.code.ErrorCode.TheVariants as codes_of
use Rattle.sync_net.specs.declared.message.Message.{Message}
use Rattle.sync_net.specs.declared.message.Message.TheVariants as messages
use Rattle.sync_net.specs.Core.{Refusal, refuse, unexpected, not_held}

-- no log has this size
abbrev pub no_size : Refusal
no_size = record { code = codes_of.InvalidRequest; text = codes "invalid request: leaf_count is 0" }

-- the target isn't the log's
abbrev pub stale : Refusal
stale = record { code = codes_of.StaleTarget; text = codes "stale compact target: target is no longer current" }

module _ {Op : Type 0} where
  -- the reply to a request for the target; of every log something is kept
  abbrev pub target_reply : (List ℕ → List ℕ) → Option (CompactView Op) → ℕ → Message Op
  target_reply hash (Some log) number = messages.GetCompactTargetResponse (record { request_id = number; target = target_of hash log })
  target_reply hash None number = refuse number not_held

  -- the target is the log's
  abbrev pub is_current : (List ℕ → List ℕ) → CompactView Op → CompactTarget → Bool
  is_current hash log target = bytes_eq target.root (compact_root hash log) && nat_eq target.leaf_count log.size

  -- the state, where the target is the log's
  abbrev pub state_if : (List ℕ → List ℕ) → Option (CompactView Op) → ℕ → CompactTarget → Message Op
  state_if hash (Some log) number target = if is_current hash log target then messages.GetCompactStateResponse (record { request_id = number; state = state_of log }) else refuse number stale
  state_if hash None number target = refuse number not_held

  -- the reply to a request for the state of a target
  abbrev pub state_reply : (List ℕ → List ℕ) → Option (CompactView Op) → ℕ → CompactTarget → Message Op
  state_reply hash kept number target = if nat_eq target.leaf_count 0 then refuse number no_size else state_if hash kept number target

  -- the reply of a server that serves compact targets and states, over what is kept of its log
  abbrev pub compact_core : (List ℕ → List ℕ) → Option (CompactView Op) → Message Op → Message Op
  compact_core hash kept (messages.GetOperationsRequest m) = refuse m.request_id unexpected
  compact_core hash kept (messages.GetOperationsResponse m) = refuse m.request_id unexpected
  compact_core hash kept (messages.GetSyncTargetRequest m) = refuse m.request_id unexpected
  compact_core hash kept (messages.GetSyncTargetResponse m) = refuse m.request_id unexpected
  compact_core hash kept (messages.GetCompactTargetRequest m) = target_reply hash kept m.request_id
  compact_core hash kept (messages.GetCompactTargetResponse m) = refuse m.request_id unexpected
  compact_core hash kept (messages.GetCompactStateRequest m) = state_reply hash kept m.request_id m.target
  compact_core hash kept (messages.GetCompactStateResponse m) = refuse m.request_id unexpected
  compact_core hash kept (messages.Error m) = refuse m.request_id unexpected
