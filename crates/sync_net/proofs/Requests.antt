-- A request is read alike whatever the operations are, since it holds none.
use Rattle.std.proofs.Common.{◌≡◌, ℕ, Bool, true, false, cond, List, [], ◌∷◌, length, Option, Some, None, Result, Ok, Err, refl, sym, ap, ◌∙◌, eqb}
use Rattle.ledger_codec.specs.declared.fault.CodecError.{CodecError}
use Rattle.ledger_codec.specs.declared.fault.CodecError.TheVariants as faults
use Rattle.ledger_codec.specs.Parsing.{Parsed, ◌>>=◌}
use Rattle.ledger_codec.specs.Numbers.{byte_at}
use Rattle.ledger_codec.specs.Sequences.{all_of}
use Rattle.sync_net.specs.declared.message.Message.{Message}
use Rattle.sync_net.specs.declared.message.Message.TheVariants as messages
use Rattle.sync_net.specs.Messages.{message_at, within, tagged, operations_request_at, operations_response_at, sync_target_request_at, sync_target_response_at, compact_target_request_at, compact_target_response_at, compact_state_request_at, compact_state_response_at, error_response_at}
use Rattle.sync_net.specs.Core.{Request, request_in, request_read, nothing_at}

-- a message where nothing is left
abbrev whole : {Op : Type 0} → Message Op → List ℕ → Result (Message Op) CodecError
whole m rest = cond (eqb (length rest) 0) (Ok m) (Err (faults.ExtraData (length rest)))

-- the request that was read as all there is
abbrev seen : {Op : Type 0} → Parsed (Message Op) → Option Request
seen read = request_read (read >>= whole)

all_is : {Op : Type 0} (op : List ℕ → Parsed Op) (bytes : List ℕ) → all_of (message_at op) bytes ≡ (message_at op bytes >>= whole)
unfolding all_of
all_is op bytes = refl

message_is : {Op : Type 0} (op : List ℕ → Parsed Op) (bytes : List ℕ) → message_at op bytes ≡ (byte_at bytes >>= tagged op)
unfolding message_at
message_is op bytes = refl

if_whole : {A B : Type 0} (all : Bool) (n : ℕ) (a : Message A) (b : Message B) → request_in a ≡ request_in b → request_read (cond all (Ok a) (Err (faults.ExtraData n))) ≡ request_read (cond all (Ok b) (Err (faults.ExtraData n)))
if_whole true n a b e = e
if_whole false n a b e = refl

-- the same fields, as messages that are the same request
fields_same : {A B M : Type 0} (f : M → Message A) (g : M → Message B) (read : Parsed M) → ((m : M) → request_in (f m) ≡ request_in (g m)) → seen (read >>= λ value rest. Ok (f value, rest)) ≡ seen (read >>= λ value rest. Ok (g value, rest))
fields_same f g (Ok x) e = if_whole (eqb (length x.1) 0) (length x.1) (f x.0) (g x.0) (e x.0)
fields_same f g (Err fault) e = refl

if_none : {A : Type 0} (all : Bool) (n : ℕ) (a : Message A) → request_in a ≡ None → request_read (cond all (Ok a) (Err (faults.ExtraData n))) ≡ None
if_none true n a e = e
if_none false n a e = refl

-- fields of a message that is no request
fields_none : {A M : Type 0} (f : M → Message A) (read : Parsed M) → ((m : M) → request_in (f m) ≡ None) → seen (read >>= λ value rest. Ok (f value, rest)) ≡ None
fields_none f (Ok x) e = if_none (eqb (length x.1) 0) (length x.1) (f x.0) (e x.0)
fields_none f (Err fault) e = refl

choice_same : {A B : Type 0} (b : Bool) (x y : Parsed (Message A)) (v w : Parsed (Message B)) → seen x ≡ seen v → seen y ≡ seen w → seen (cond b x y) ≡ seen (cond b v w)
choice_same true x y v w e f = e
choice_same false x y v w e f = f

tagged_same : {A B : Type 0} (op : List ℕ → Parsed A) (other : List ℕ → Parsed B) (tag : ℕ) (rest : List ℕ) → seen (tagged op tag rest) ≡ seen (tagged other tag rest)
tagged_same op other tag rest =
    choice_same (eqb tag 0) _ _ _ _ (fields_same messages.GetOperationsRequest messages.GetOperationsRequest (operations_request_at rest) (λ m. refl)) (
    choice_same (eqb tag 1) _ _ _ _ (fields_none messages.GetOperationsResponse (operations_response_at op rest) (λ m. refl) ∙ sym (fields_none messages.GetOperationsResponse (operations_response_at other rest) (λ m. refl))) (
    choice_same (eqb tag 2) _ _ _ _ (fields_same messages.GetSyncTargetRequest messages.GetSyncTargetRequest (sync_target_request_at rest) (λ m. refl)) (
    choice_same (eqb tag 3) _ _ _ _ (fields_same messages.GetSyncTargetResponse messages.GetSyncTargetResponse (sync_target_response_at rest) (λ m. refl)) (
    choice_same (eqb tag 4) _ _ _ _ (fields_same messages.GetCompactTargetRequest messages.GetCompactTargetRequest (compact_target_request_at rest) (λ m. refl)) (
    choice_same (eqb tag 5) _ _ _ _ (fields_same messages.GetCompactTargetResponse messages.GetCompactTargetResponse (compact_target_response_at rest) (λ m. refl)) (
    choice_same (eqb tag 6) _ _ _ _ (fields_same messages.GetCompactStateRequest messages.GetCompactStateRequest (compact_state_request_at rest) (λ m. refl)) (
    choice_same (eqb tag 7) _ _ _ _ (fields_none messages.GetCompactStateResponse (compact_state_response_at op rest) (λ m. refl) ∙ sym (fields_none messages.GetCompactStateResponse (compact_state_response_at other rest) (λ m. refl))) (
    choice_same (eqb tag 8) _ _ _ _ (fields_same messages.Error messages.Error (error_response_at rest) (λ m. refl)) refl))))))))

bytes_same : {A B : Type 0} (op : List ℕ → Parsed A) (other : List ℕ → Parsed B) (bytes : List ℕ) → seen (byte_at bytes >>= tagged op) ≡ seen (byte_at bytes >>= tagged other)
bytes_same op other [] = refl
bytes_same op other (b ∷ bs) = tagged_same op other b bs

-- the request that bytes spell, read with any operations
pub request_same : {A B : Type 0} (op : List ℕ → Parsed A) (other : List ℕ → Parsed B) (bytes : List ℕ) → request_read (all_of (message_at op) bytes) ≡ request_read (all_of (message_at other) bytes)
request_same op other bytes =
    ap request_read (all_is op bytes ∙ ap (λ r. r >>= whole) (message_is op bytes))
    ∙ (bytes_same op other bytes
    ∙ sym (ap request_read (all_is other bytes ∙ ap (λ r. r >>= whole) (message_is other bytes))))
