-- The session: which asks are sent, and what each frame does.
use Rattle.std.specs.Prelude.{ℕ, zero, suc, ◌+◌, ◌-◌, Bool, List, [], ◌∷◌, ◌++◌, length, Option, Some, None, Result, Ok, Err, nat_lt, ◌==◌, if◌then◌else◌, position, slice_get, option_and_then, sum_by, flat_map, map}
use Rattle.std.specs.declared.ops.Range.{Range}
use Rattle.std.specs.declared.num.NonZeroU64.{NonZeroU64}
use Rattle.ledger_codec.specs.declared.fault.CodecError.{CodecError}
use Rattle.ledger_codec.specs.Parsing.{Parsed}
use Rattle.ledger_codec.specs.Sequences.{all_of}
use Rattle.sha2.specs.Sha256.{sha256}
use Rattle.ledger_merkle.specs.Tree.{part_root}
use Rattle.ledger_log.specs.declared.target.Target.{Target}
use Rattle.sync_net.specs.declared.ask.Ask.{Ask as Request}
use Rattle.sync_net.specs.declared.ask.Ask.TheVariants as requests
use Rattle.sync_net.specs.declared.code.ErrorCode.{ErrorCode}
use Rattle.sync_net.specs.declared.message.Message.{Message}
use Rattle.sync_net.specs.declared.message.Message.TheVariants as messages
use Rattle.sync_net.specs.declared.response.ErrorResponse.{ErrorResponse}
use Rattle.sync_net.specs.declared.response.GetOperationsResponse.{GetOperationsResponse}
use Rattle.sync_net.specs.Fields.{above_zero}
use Rattle.sync_net.specs.Numbered.{number_of}
use Rattle.sync_net.specs.Messages.{message_at}
use Rattle.sync_net.specs.Asks.{refusal_in}
use Rattle.sync_net.specs.Asking.{number_after, ask_frame}
use Rattle.sync_client.specs.declared.collector.Piece.{Piece}
use Rattle.sync_client.specs.Asking.{Plan, Judge, range_next, without_at, rest_of, nodes_of, good, judged_by}
use Rattle.sync_client.specs.Updates.{heeded}

-- how operations are read and written, how a proof of them is judged in a target's tree, and the root of operations from a place on behind pinned nodes
pub record Rules (Op : Type 0) : Type 0 where
  pub read : List ℕ → Parsed Op
  pub written : Op → List ℕ
  pub proved : Target → Judge Op
  pub root : List (List ℕ) → ℕ → List Op → List ℕ

-- the rules for operations that are read, written and hashed so
abbrev pub rules_for : {Op : Type 0} → (List ℕ → Parsed Op) → (Op → List ℕ) → (Op → List ℕ) → Rules Op
rules_for read written spelling = record {
  read = read;
  written = written;
  proved = judged_by sha256 spelling;
  root = λ pinned start ops. part_root sha256 pinned start (map spelling ops);
}

-- an ask: its number, its range, and the target that was current when it was sent
pub record Ask : Type 0 where
  pub number : ℕ
  pub range : Range ℕ
  pub target : Target

-- what is fetched, the next number where there is one, the pending asks, the next new location, what is still to be asked of short answers, the strays, what is kept, and the answers on later targets that are still to come
pub record State (Op : Type 0) : Type 0 where
  pub plan : Plan
  pub next : Option ℕ
  pub pending : List Ask
  pub fresh : ℕ
  pub rests : List (Range ℕ)
  pub strays : ℕ
  pub pinned : List (List ℕ)
  pub kept : List (Piece Op)
  pub updates : List (Option Target)

-- what a frame may do wrong, or the target that is named after it
pub data Offence : Type 0 where
  InvalidResponse : Offence
  UnexpectedResponse : (number : ℕ) → Offence
  Server : (code : ErrorCode) (text : List ℕ) → Offence
  InvalidProof : (number : ℕ) → Offence
  TooManyStrays : Offence
  StaleUpdate : (target : Target) → Offence

-- the answers that were taken off with an offence: the stale target
abbrev pub refused_in : Offence → List (Option Target)
refused_in InvalidResponse = []
refused_in (UnexpectedResponse number) = []
refused_in (Server code text) = []
refused_in (InvalidProof number) = []
refused_in TooManyStrays = []
refused_in (StaleUpdate target) = Some target ∷ []

-- nothing is asked, this is the next number, and these answers are to come
abbrev pub started : {Op : Type 0} → Plan → Option ℕ → List (Option Target) → State Op
started plan first updates = record { plan = plan; next = first; pending = []; fresh = plan.target.start; rests = []; strays = 0; pinned = []; kept = []; updates = updates }

-- ---- asks

-- what may be sent: nothing, an ask, or an ask for which there is no number
pub data Next (Op : Type 0) : Type 0 where
  Nothing : Next Op
  Send : (ask : Ask) (after : State Op) → Next Op
  Exhausted : Next Op

-- an ask of this range under the next number, for the current target
abbrev pub numbered : {Op : Type 0} → State Op → Range ℕ → List (Range ℕ) → ℕ → Option ℕ → Next Op
numbered s r rests fresh None = Exhausted
numbered s r rests fresh (Some n) = Send (record { number = n; range = r; target = s.plan.target }) (record s { next = number_after n; pending = s.pending ++ record { number = n; range = r; target = s.plan.target } ∷ []; rests = rests; fresh = fresh })

-- an ask of the next range, where there is one
abbrev pub sending : {Op : Type 0} → State Op → Option (Range ℕ × List (Range ℕ) × ℕ) → Next Op
sending s None = Nothing
sending s (Some r) = numbered s r.0 r.1 r.2 s.next

-- what may be sent while fewer asks than the limit are pending
unfoldable pub ask_next : {Op : Type 0} → State Op → Next Op
ask_next s = if nat_lt (length s.pending) s.plan.limits.outstanding then sending s (range_next s.plan s.rests s.fresh) else Nothing

-- this number where it is above 0 (no range that is asked is empty)
abbrev pub at_least_one : ℕ → NonZeroU64
at_least_one zero = record { value = suc zero; ok = above_zero zero }
at_least_one (suc n) = record { value = suc n; ok = above_zero n }

-- the request for a range of a target, with the pinned nodes exactly where it begins at the target's start
abbrev pub request_for : Target → Range ℕ → Request
request_for target r = requests.Operations target.end r.start (at_least_one (r.end - r.start)) (r.start == target.start)

-- the bytes that are sent for an ask
abbrev pub frame_of : {Op : Type 0} → (Op → List ℕ) → Ask → List ℕ
frame_of written ask = ask_frame written ask.number (request_for ask.target ask.range)

-- the bytes that are sent for asks, in order
abbrev pub frames_of : {Op : Type 0} → (Op → List ℕ) → List Ask → List ℕ
frames_of written asks = flat_map (frame_of written) asks

-- ---- frames

-- every location of the range is kept
unfoldable pub is_whole : {Op : Type 0} → State Op → Bool
is_whole s = sum_by (λ p. length p.ops) s.kept == s.plan.target.end - s.plan.target.start

-- what is fetched then, or the stale target
abbrev pub heeded_by : {Op : Type 0} → State Op → Result (Plan × List (Option Target)) Target → Result (State Op) Offence
heeded_by s (Ok x) = Ok (record s { plan = x.0; updates = x.1 })
heeded_by s (Err target) = Err (StaleUpdate target)

-- the next answer on a later target is heeded
abbrev pub updated : {Op : Type 0} → State Op → Result (State Op) Offence
updated s = heeded_by s (heeded (is_whole s) s.plan s.updates)

-- the place of a number among asks
abbrev pub place_of : ℕ → List Ask → Option ℕ
place_of number asks = position (λ a. a.number == number) asks

-- the ask of a number
abbrev pub ask_under : ℕ → List Ask → Option Ask
ask_under number asks = option_and_then (λ i. slice_get asks i) (place_of number asks)

-- what is known after a good answer
abbrev pub with_answer : {Op : Type 0} → Ask → GetOperationsResponse Op → State Op → State Op
with_answer a m s = record s {
  pending = without_at (place_of a.number s.pending) s.pending;
  rests = s.rests ++ rest_of a.range (length m.operations);
  pinned = if a.range.start == s.plan.target.start then nodes_of m.pinned_nodes else s.pinned;
  kept = s.kept ++ record { at = a.range.start; ops = m.operations } ∷ [];
}

-- a message under a pending number that isn't the response: the server's refusal, or another kind
abbrev pub offence_of : ℕ → Option ErrorResponse → Offence
offence_of number (Some refusal) = Server refusal.error_code refusal.message
offence_of number None = UnexpectedResponse number

-- a message under a pending number: an answer is judged by its ask's target, and after a good one the next later target is heeded
abbrev pub answered : {Op : Type 0} → Rules Op → State Op → Ask → Message Op → Result (State Op) Offence
answered rules s a (messages.GetOperationsResponse m) = if good (rules.proved a.target) s.plan.target.start a.range m then updated (with_answer a m s) else Err (InvalidProof a.number)
answered rules s a m = Err (offence_of a.number (refusal_in m))

-- a message under a number that is pending, or isn't: a stray
abbrev pub taken_by : {Op : Type 0} → Rules Op → State Op → Message Op → Option Ask → Result (State Op) Offence
taken_by rules s m (Some a) = answered rules s a m
taken_by rules s m None = if nat_lt s.strays 1024 then Ok (record s { strays = s.strays + 1 }) else Err TooManyStrays

-- a frame that was read as a message, or as none
abbrev pub taken : {Op : Type 0} → Rules Op → State Op → Result (Message Op) CodecError → Result (State Op) Offence
taken rules s (Ok m) = taken_by rules s m (ask_under (number_of m) s.pending)
taken rules s (Err e) = Err InvalidResponse

-- what a frame does
unfoldable pub take_frame : {Op : Type 0} → Rules Op → State Op → List ℕ → Result (State Op) Offence
take_frame rules s body = taken rules s (all_of (message_at rules.read) body)
