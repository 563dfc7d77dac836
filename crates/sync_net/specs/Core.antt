-- The reply core: what a server answers to a message, as a function of its log.
use Rattle.std.specs.Prelude.{◌≡◌, ℕ, ◌-◌, ◌++◌, min, Bool, true, false, ◌||◌, nat_lt, nat_le, List, [], map, Option, Some, None, Result, Ok, Err, refl, codes, option_map, if◌then◌else◌}
use Rattle.std.specs.Fmt.{decimal}
use Rattle.std.proofs.lemmas.Bool.{ltb-true}
use Rattle.sha2.specs.Sha256.{sha256}
use Rattle.ledger_codec.specs.declared.fault.CodecError.{CodecError}
use Rattle.ledger_codec.specs.declared.fault.CodecError.TheVariants as faults
use Rattle.ledger_codec.specs.Parsing.{Parsed}
use Rattle.ledger_codec.specs.Sequences.{all_of, string_written}
use Rattle.ledger_codec.specs.Frames.{Front, Whole, Short, Bad, front}
use Rattle.ledger_merkle.specs.Levels.{proof_digests}
use Rattle.ledger_log.specs.View.{LogView, log_size, log_root, log_list, log_range, log_peaks_at, log_floor}
use Rattle.sync_net.specs.declared.ask.Ask.{Ask}
use Rattle.sync_net.specs.declared.ask.Ask.TheVariants as asks
use Rattle.sync_net.specs.declared.code.ErrorCode.{ErrorCode}
use Rattle.sync_net.specs.declared.code.ErrorCode.TheVariants as codes_of
use Rattle.sync_net.specs.declared.message.Message.{Message}
use Rattle.sync_net.specs.declared.message.Message.TheVariants as messages
use Rattle.sync_net.specs.Numbered.{number_of}
use Rattle.sync_net.specs.Asks.{request_of}
use Rattle.sync_net.specs.Messages.{message_at, message_written}

-- ---- refusals

-- a code and a text
pub record Refusal : Type 0 where
  pub code : ErrorCode
  pub text : List ℕ

-- the range is empty whatever the log
abbrev pub empty_range : ℕ → ℕ → Refusal
empty_range start count = record { code = codes_of.InvalidRequest; text = codes "invalid request: start_loc >= size (" ++ decimal start ++ codes ") >= (" ++ decimal count ++ codes ")" }

-- the range begins behind the log
abbrev pub beyond_log : ℕ → ℕ → Refusal
beyond_log start size = record { code = codes_of.InvalidRequest; text = codes "invalid request: start_loc (" ++ decimal start ++ codes ") >= database size (" ++ decimal size ++ codes ")" }

-- the log doesn't hold the range
abbrev pub not_held : Refusal
not_held = record { code = codes_of.DatabaseError; text = codes "database operation failed" }

-- the message isn't served
abbrev pub unexpected : Refusal
unexpected = record { code = codes_of.InvalidRequest; text = codes "unexpected message type" }

-- why a log with this front and this size doesn't serve operations from `start` on in the tree of the first `count`
abbrev pub range_refused : ℕ → ℕ → ℕ → ℕ → Option Refusal
range_refused front size count start =
    if nat_le count start then Some (empty_range start count) else
    (if nat_le size start then Some (beyond_log start size) else
    (if nat_lt size count || nat_lt start front then Some not_held else None))

-- how many operations an answer holds
abbrev pub served_count : ℕ → ℕ → ℕ → ℕ → ℕ
served_count size count start max_ops = min max_ops (min (size - start) (min 100 (count - start)))

-- ---- replies

-- the peaks before the first operation, where they were asked for
abbrev pub pinned_for : Bool → List (List ℕ) → Option (List (List ℕ))
pinned_for true peaks = Some peaks
pinned_for false peaks = None

module _ {Op : Type 0} where
  -- the refusal of the request of this number
  abbrev pub refuse : ℕ → Refusal → Message Op
  refuse number refusal = messages.Error (record { request_id = number; error_code = refusal.code; message = refusal.text })

  -- so many operations from `start` on, with their proof in the tree of the first `count`
  abbrev pub operations_answer : (List ℕ → List ℕ) → (Op → List ℕ) → LogView Op → ℕ → ℕ → ℕ → ℕ → Bool → Message Op
  operations_answer hash spelling log number count start served pinned =
      messages.GetOperationsResponse (record {
        request_id = number;
        proof = record { leaves = count; inactive_peaks = 0; digests = proof_digests hash (log_list hash spelling log) count start served };
        operations = log_range log start served;
        pinned_nodes = pinned_for pinned (log_peaks_at hash spelling log start);
      })

  -- the refusal where there is one, else the operations
  abbrev pub operations_or : Option Refusal → ℕ → Message Op → Message Op
  operations_or (Some refusal) number answer = refuse number refusal
  operations_or None number answer = answer

  -- the reply to a request for operations
  abbrev pub operations_reply : (List ℕ → List ℕ) → (Op → List ℕ) → LogView Op → ℕ → ℕ → ℕ → ℕ → Bool → Message Op
  operations_reply hash spelling log number count start max_ops pinned =
      operations_or (range_refused log.front (log_size log) count start) number
      (operations_answer hash spelling log number count start (served_count (log_size log) count start max_ops) pinned)

  -- the target, where its range isn't empty, as that of a log never is
  abbrev pub target_answer : (ordered : Bool) → ℕ → List ℕ → (start end : ℕ) → nat_lt start end ≡ ordered → Message Op
  target_answer true number root start end less = messages.GetSyncTargetResponse (record { request_id = number; target = record { root = root; start = start; end = end; ordered = ltb-true start end less } })
  target_answer false number root start end less = refuse number not_held

  -- the reply to a request for the target: the root, the floor and the size
  abbrev pub target_reply : (List ℕ → List ℕ) → (Op → List ℕ) → ℕ → LogView Op → ℕ → Message Op
  target_reply hash spelling floor log number = target_answer (nat_lt floor (log_size log)) number (log_root hash spelling log) floor (log_size log) refl

  -- The reply of a server that serves operations and targets. It depends on the log alone.
  abbrev pub core : (List ℕ → List ℕ) → (Op → List ℕ) → ℕ → LogView Op → Message Op → Message Op
  core hash spelling floor log (messages.GetOperationsRequest m) = operations_reply hash spelling log m.request_id m.op_count m.start_loc m.max_ops.value m.include_pinned_nodes
  core hash spelling floor log (messages.GetOperationsResponse m) = refuse m.request_id unexpected
  core hash spelling floor log (messages.GetSyncTargetRequest m) = target_reply hash spelling floor log m.request_id
  core hash spelling floor log (messages.GetSyncTargetResponse m) = refuse m.request_id unexpected
  core hash spelling floor log (messages.GetCompactTargetRequest m) = refuse m.request_id unexpected
  core hash spelling floor log (messages.GetCompactTargetResponse m) = refuse m.request_id unexpected
  core hash spelling floor log (messages.GetCompactStateRequest m) = refuse m.request_id unexpected
  core hash spelling floor log (messages.GetCompactStateResponse m) = refuse m.request_id unexpected
  core hash spelling floor log (messages.Error m) = refuse m.request_id unexpected

-- ---- over plain data

-- a log of any family: its first place, the peaks there and the spellings of its operations from there on; and its floor
pub record LogData : Type 0 where
  pub log : LogView (List ℕ)
  pub floor : ℕ

-- the data of a log
abbrev pub data_of : {Op : Type 0} → (Op → List ℕ) → (Op → Option ℕ) → LogView Op → LogData
data_of spelling floor_of log = record { log = record { front = log.front; pinned = log.pinned; ops = map spelling log.ops }; floor = log_floor floor_of log }

-- a number, and what is asked under it
pub record Request : Type 0 where
  pub number : ℕ
  pub ask : Ask

-- the request that a message is
abbrev pub request_in : {Op : Type 0} → Message Op → Option Request
request_in (messages.GetOperationsRequest m) = Some (record { number = m.request_id; ask = asks.Operations m.op_count m.start_loc m.max_ops m.include_pinned_nodes })
request_in (messages.GetOperationsResponse m) = None
request_in (messages.GetSyncTargetRequest m) = Some (record { number = m.request_id; ask = asks.SyncTarget })
request_in (messages.GetSyncTargetResponse m) = None
request_in (messages.GetCompactTargetRequest m) = Some (record { number = m.request_id; ask = asks.CompactTarget })
request_in (messages.GetCompactTargetResponse m) = None
request_in (messages.GetCompactStateRequest m) = Some (record { number = m.request_id; ask = asks.CompactState m.target })
request_in (messages.GetCompactStateResponse m) = None
request_in (messages.Error m) = None

-- the request that was read
abbrev pub request_read : {Op : Type 0} → Result (Message Op) CodecError → Option Request
request_read (Ok m) = request_in m
request_read (Err e) = None

-- no operation: no request holds one
abbrev pub nothing_at : List ℕ → Parsed (List ℕ)
nothing_at bytes = Err faults.Invalid

-- the request of a frame that is all there is
abbrev pub request_framed : Front → Option Request
request_framed (Whole body []) = request_read (all_of (message_at nothing_at) body)
request_framed other = None

-- the request that bytes spell as one frame, None of other bytes
abbrev pub asked : List ℕ → Option Request
asked bytes = request_framed (front 10485760 bytes)

-- the frame of the reply to a request
abbrev pub reply_frame : LogData → Request → List ℕ
reply_frame held request = string_written (message_written (λ op. op) (core sha256 (λ op. op) held.floor held.log (request_of request.number request.ask)))

-- the framed reply to a framed request, None to other bytes
abbrev pub reply_to : LogData → List ℕ → Option (List ℕ)
reply_to held bytes = option_map (reply_frame held) (asked bytes)
