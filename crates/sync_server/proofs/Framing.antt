-- The framed reply to a framed request.
use Rattle.std.proofs.Common.{◌≡◌, ℕ, ◌+◌, ◌/◌, ◌%◌, ◌<◌, Bool, true, false, cond, nat_lt, length-append, List, [], ◌∷◌, length, Option, Some, None, Ok, refl, sym, ap, subst, ◌∙◌, arith}
use Rattle.std.specs.Prelude.{is_some, option_and_then, option_map, IfSome}
use Rattle.sha2.specs.Sha256.{sha256}
use Rattle.ledger_codec.specs.declared.fault.CodecError.{CodecError}
use Rattle.ledger_codec.specs.declared.fault.CodecError.TheVariants as faults
use Rattle.ledger_codec.specs.Parsing.{Parsed, Fails}
use Rattle.ledger_codec.specs.Sequences.{all_of, string_written}
use Rattle.ledger_codec.specs.Numbers.{varint, varint_within}
use Rattle.ledger_codec.specs.Frames.{Front, Whole, front}
use Rattle.ledger_log.specs.View.{LogView, log_floor}
use Rattle.sync_net.specs.declared.message.Message.{Message}
use Rattle.sync_net.specs.declared.message.Message.TheVariants as messages
use Rattle.sync_net.specs.declared.ask.Ask.{Ask}
use Rattle.sync_net.specs.declared.ask.Ask.TheVariants as asks
use Rattle.sync_net.specs.Asks.{request_of}
use Rattle.sync_net.specs.Messages.{message_at, message_written, MessageFits}
use Rattle.sync_net.specs.Core.{core, data_of, request_in, request_read, request_framed, nothing_at, asked, reply_frame, reply_to, Request}
use Rattle.sync_net.proofs.PlainData.{reply_same}
use Rattle.sync_net.proofs.Requests.{request_same}

-- ---- what was sent

-- a frame behind which something stands spells no request
pub more_is_none : (found : Front) (body rest : List ℕ) → found ≡ Whole body rest → 0 < length rest → request_framed found ≡ None
more_is_none found body [] e h = absurd (omega arith)
more_is_none found body (r ∷ rest) e h = ap request_framed e

-- a frame that is all there is spells the request of its body
pub body_is : (bytes body : List ℕ) → front 10485760 bytes ≡ Whole body [] → asked bytes ≡ request_read (all_of (message_at nothing_at) body)
body_is bytes body e = ap request_framed e

-- the message that a body spells
pub read_is : {Op : Type 0} (op : List ℕ → Parsed Op) (body : List ℕ) (m : Message Op) → all_of (message_at op) body ≡ Ok m → request_read (all_of (message_at nothing_at) body) ≡ request_in m
read_is op body m e = request_same nothing_at op body ∙ ap request_read e

-- a body that spells no message
pub unread_is : {Op : Type 0} (op : List ℕ → Parsed Op) (body : List ℕ) (fault : CodecError) → Fails fault (all_of (message_at op) body) → (fault ≡ faults.OutOfMemory → ⊥) → request_read (all_of (message_at nothing_at) body) ≡ None
unread_is op body faults.OutOfMemory f n = absurd (n refl)
unread_is op body faults.EndOfBuffer f n = request_same nothing_at op body ∙ ap request_read f
unread_is op body faults.InvalidVarint f n = request_same nothing_at op body ∙ ap request_read f
unread_is op body (faults.InvalidLength found limit) f n = request_same nothing_at op body ∙ ap request_read f
unread_is op body (faults.InvalidEnum tag) f n = request_same nothing_at op body ∙ ap request_read f
unread_is op body faults.Invalid f n = request_same nothing_at op body ∙ ap request_read f
unread_is op body (faults.ExtraData rest) f n = request_same nothing_at op body ∙ ap request_read f

-- no request
pub no_request : {Op : Type 0} (m : Message Op) → is_some (request_in m) ≡ false → request_in m ≡ None
no_request (messages.GetOperationsRequest m) e = absurd cc
no_request (messages.GetOperationsResponse m) e = refl
no_request (messages.GetSyncTargetRequest m) e = absurd cc
no_request (messages.GetSyncTargetResponse m) e = refl
no_request (messages.GetCompactTargetRequest m) e = absurd cc
no_request (messages.GetCompactTargetResponse m) e = refl
no_request (messages.GetCompactStateRequest m) e = absurd cc
no_request (messages.GetCompactStateResponse m) e = refl
no_request (messages.Error m) e = refl

-- ---- what is answered

-- operations that are spelled alike are sent alike
written_same : {Op : Type 0} (f g : Op → List ℕ) → ((op : Op) → f op ≡ g op) → (m : Message Op) → message_written f m ≡ message_written g m
written_same {Op} f g e m = ap (λ (h : Op → List ℕ). message_written h m) (λ i. λ op. e op i)

-- the frame of a reply over the log is that over its data
framed_ask : {Op : Type 0} (written spelling : Op → List ℕ) (floor_of : Op → Option ℕ) (log : LogView Op) (number : ℕ) (ask : Ask) → ((op : Op) → written op ≡ spelling op)
    → Some (string_written (message_written written (core sha256 spelling (log_floor floor_of log) log (request_of number ask)))) ≡ Some (reply_frame (data_of spelling floor_of log) (record { number = number; ask = ask }))
framed_ask written spelling floor_of log number ask same =
    ap (λ (b : List ℕ). Some (string_written b)) (written_same written spelling same (core sha256 spelling (log_floor floor_of log) log (request_of number ask)) ∙ sym (reply_same sha256 spelling (log_floor floor_of log) log number ask))

-- the reply to a request, framed over the log's data
pub framed_is : {Op : Type 0} (written spelling : Op → List ℕ) (floor_of : Op → Option ℕ) (log : LogView Op) (m : Message Op) → ((op : Op) → written op ≡ spelling op) → is_some (request_in m) ≡ true
    → Some (string_written (message_written written (core sha256 spelling (log_floor floor_of log) log m))) ≡ option_map (reply_frame (data_of spelling floor_of log)) (request_in m)
framed_is written spelling floor_of log (messages.GetOperationsRequest m) same e = framed_ask written spelling floor_of log m.request_id (asks.Operations m.op_count m.start_loc m.max_ops m.include_pinned_nodes) same
framed_is written spelling floor_of log (messages.GetOperationsResponse m) same e = absurd cc
framed_is written spelling floor_of log (messages.GetSyncTargetRequest m) same e = framed_ask written spelling floor_of log m.request_id asks.SyncTarget same
framed_is written spelling floor_of log (messages.GetSyncTargetResponse m) same e = absurd cc
framed_is written spelling floor_of log (messages.GetCompactTargetRequest m) same e = framed_ask written spelling floor_of log m.request_id asks.CompactTarget same
framed_is written spelling floor_of log (messages.GetCompactTargetResponse m) same e = absurd cc
framed_is written spelling floor_of log (messages.GetCompactStateRequest m) same e = framed_ask written spelling floor_of log m.request_id (asks.CompactState m.target) same
framed_is written spelling floor_of log (messages.GetCompactStateResponse m) same e = absurd cc
framed_is written spelling floor_of log (messages.Error m) same e = absurd cc

-- the frame that is sent for a request
pub framed_reply_is : {Op : Type 0} (written spelling : Op → List ℕ) (floor_of : Op → Option ℕ) (log : LogView Op) (found : Option (Message Op)) (m reply : Message Op) (bytes body frame : List ℕ) → ((op : Op) → written op ≡ spelling op)
    → asked bytes ≡ option_and_then request_in found → IfSome found (λ x. is_some (request_in x) ≡ true) → found ≡ Some m
    → reply ≡ core sha256 spelling (log_floor floor_of log) log m → body ≡ message_written written reply → frame ≡ string_written body → Some frame ≡ reply_to (data_of spelling floor_of log) bytes
framed_reply_is {Op} written spelling floor_of log found m reply bytes body frame same e_asked e_some e_found e_reply e_body e_frame =
    let some : is_some (request_in m) ≡ true = subst (λ (f : Option (Message Op)). IfSome f (λ x. is_some (request_in x) ≡ true)) e_found e_some in
    let of : asked bytes ≡ request_in m = e_asked ∙ ap (λ (f : Option (Message Op)). option_and_then request_in f) e_found in
    ap (λ (b : List ℕ). Some b) (e_frame ∙ ap string_written (e_body ∙ ap (λ (r : Message Op). message_written written r) e_reply))
    ∙ (framed_is written spelling floor_of log m same some ∙ sym (ap (λ (r : Option Request). option_map (reply_frame (data_of spelling floor_of log)) r) of))

-- a message within its limits, of operations within theirs
pub fits_all : {Op : Type 0} (fits : Op → Type 0) → ((op : Op) → fits op) → (m : Message Op) → MessageFits (λ op. Unit {0}) m → MessageFits fits m
fits_all fits h (messages.GetOperationsRequest m) f = tt
fits_all fits h (messages.GetOperationsResponse m) f = record { proof = f.proof; operations = (f.operations.0, λ d k lt. h _); pinned_nodes = f.pinned_nodes }
fits_all fits h (messages.GetSyncTargetRequest m) f = tt
fits_all fits h (messages.GetSyncTargetResponse m) f = tt
fits_all fits h (messages.GetCompactTargetRequest m) f = tt
fits_all fits h (messages.GetCompactTargetResponse m) f = tt
fits_all fits h (messages.GetCompactStateRequest m) f = tt
fits_all fits h (messages.GetCompactStateResponse m) f = record { pinned_nodes = f.pinned_nodes; last_commit_op = h m.state.last_commit_op; last_commit_proof = f.last_commit_proof }
fits_all fits h (messages.Error m) f = f

-- a frame has bytes
some_varint : (n : ℕ) → 0 < length (varint n)
unfolding varint
some_varint n = pick (nat_lt n 128)
  where
    pick : (low : Bool) → 0 < length (cond low (n ∷ []) ((n % 128 + 128) ∷ varint_within 9 (n / 128)))
    pick true = omega arith
    pick false = omega arith

pub some_frame : (frame body : List ℕ) → frame ≡ string_written body → 0 < length frame
some_frame frame body e = omega (arith, ap length e, length-append (varint (length body)) body, some_varint (length body))
