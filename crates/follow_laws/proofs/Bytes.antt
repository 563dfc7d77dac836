-- What is read of bytes: values and keys of 32 bytes.
use Rattle.std.proofs.Common.{◌≡◌, ℕ, zero, suc, ◌+◌, ◌-◌, ◌*◌, ◌^◌, ◌<◌, ◌≤◌, Bool, true, false, not, ◌&&◌, cond, List, [], ◌∷◌, ◌++◌, length, take, drop, Option, Some, None, Ok, Err, nat_lt, nat_le, refl, sym, ap, subst, ◌∙◌, arith, lit≤, inl, inr}
use Rattle.std.specs.Prelude.{◌==◌, get_or, ⊤, if◌then◌else◌}
use Rattle.std.specs.List.{AllByRecursion}
use Rattle.std.proofs.lemmas.Bool.{cases_Bool}
use Rattle.std.proofs.lemmas.Bool.Decides.{nat_tests}
use Rattle.std.proofs.lemmas.List.{length-take-le}
use Rattle.ledger_codec.specs.declared.fault.CodecError.{CodecError}
use Rattle.ledger_codec.specs.declared.fault.CodecError.TheVariants as codec
use Rattle.ledger_codec.specs.declared.framing.FrameError.TheVariants as bad
use Rattle.ledger_codec.specs.Frames.{Front, Whole, Short, Bad, front, front_of, sized, Leads}
use Rattle.ledger_codec.specs.Laws.{bind_ok}
use Rattle.ledger_codec.specs.Numbers.{byte_at, bytes_at, number_at, digest_at, varint_from, varint32_at, varint64_at, at_most}
use Rattle.ledger_codec.specs.Parsing.{Parsed, ◌>>=◌}
use Rattle.ledger_codec.specs.Sequences.{items_at, limited, count_at, list_at, all_of}
use Rattle.ledger_log.specs.Spelling.{Is32Bytes}
use Rattle.ledger_log.specs.Spellings.{any_at, any_tagged, pair_at, single_at, commit_at, metadata_at, metadata_if}
use Rattle.ledger_log.specs.declared.any.AnyOp.{AnyOp}
use Rattle.ledger_log.specs.declared.any.AnyOp.TheVariants as any
use Rattle.ledger_merkle.specs.Spellings.{location_at, location_of, proof_at}
use Rattle.follow_laws.specs.Alike.{AreBytes}
use Rattle.sync_net.specs.declared.message.Message.{Message}
use Rattle.sync_net.specs.declared.message.Message.TheVariants as messages
use Rattle.sync_net.specs.declared.response.GetOperationsResponse.{GetOperationsResponse}
use Rattle.sync_net.specs.Fields.{pinned_at}
use Rattle.sync_net.specs.Messages.{message_at, tagged, within, operations_request_at, operations_response_at, sync_target_request_at, sync_target_response_at, compact_target_request_at, compact_target_response_at, compact_state_request_at, compact_state_response_at, error_response_at}

taken_bytes : (n : ℕ) (bytes : List ℕ) → AreBytes bytes → AreBytes (take n bytes)
taken_bytes zero bytes h = tt
taken_bytes (suc n) [] h = tt
taken_bytes (suc n) (b ∷ bytes) h = (h.0, taken_bytes n bytes h.1)

dropped_bytes : (n : ℕ) (bytes : List ℕ) → AreBytes bytes → AreBytes (drop n bytes)
dropped_bytes zero bytes h = h
dropped_bytes (suc n) [] h = tt
dropped_bytes (suc n) (b ∷ bytes) h = dropped_bytes n bytes h.1

byte_in : (bytes : List ℕ) (i : ℕ) → AreBytes bytes → get_or bytes i 0 < 256
byte_in [] i h = lit≤ tt
byte_in (b ∷ bytes) zero h = h.0
byte_in (b ∷ bytes) (suc i) h = byte_in bytes i h.1

-- what is read of bytes is so, and bytes are left
abbrev Reads : {A : Type 0} → (List ℕ → Parsed A) → (A → Type 0) → Type 0
Reads {A} f Q = (bytes : List ℕ) (x : A × List ℕ) → AreBytes bytes → f bytes ≡ Ok x → Q x.0 × AreBytes x.1

reads_then : {A B : Type 0} (f : List ℕ → Parsed A) (g : A → List ℕ → Parsed B) (Q : A → Type 0) (R : B → Type 0) → Reads f Q → ((x : A) → Q x → Reads (g x) R) → Reads (λ bytes. f bytes >>= g) R
reads_then f g Q R h k bytes y all e =
    let x = bind_ok (f bytes) g y e in
    let first = h bytes x.0 all x.1 in
    k x.0.0 first.0 x.0.1 y first.1 x.2

reads_ok : {A : Type 0} (Q : A → Type 0) (x : A) → Q x → Reads (λ bytes. Ok (x, bytes)) Q
reads_ok Q x q bytes y all e = let is : (x, bytes) ≡ y = cc e in subst (λ z. Q z.0 × AreBytes z.1) is (q, all)

reads_err : {A : Type 0} (Q : A → Type 0) (fault : CodecError) → Reads (λ bytes. Err fault) Q
reads_err Q fault bytes y all e = absurd (cc e)

reads_cond : {A : Type 0} (b : Bool) (f g : List ℕ → Parsed A) (Q : A → Type 0) → Reads f Q → Reads g Q → Reads (λ bytes. cond b (f bytes) (g bytes)) Q
reads_cond true f g Q h k = h
reads_cond false f g Q h k = k

reads_same : {A : Type 0} (f g : List ℕ → Parsed A) (Q : A → Type 0) → ((bytes : List ℕ) → f bytes ≡ g bytes) → Reads g Q → Reads f Q
reads_same f g Q same h bytes x all e = h bytes x all (sym (same bytes) ∙ e)

-- ---- numbers and digests

reads_byte : Reads byte_at (λ b. b < 256)
reads_byte [] x all e = absurd (cc e)
reads_byte (b ∷ rest) x all e = let is : (b, rest) ≡ x = cc e in subst (λ (z : ℕ × List ℕ). (z.0 < 256) × AreBytes z.1) is all

reads_number : Reads number_at (λ n. ⊤)
reads_number bytes x all e = elim (cases_Bool (nat_lt (length bytes) 8)) [
  | inl t ↦ let q = rw t at e in absurd (cc q)
  | inr t ↦ let q = rw t at e in let rest : drop 8 bytes ≡ x.1 = cc q in (tt, subst AreBytes rest (dropped_bytes 8 bytes all))
]

reads_digest : Reads digest_at Is32Bytes
reads_digest bytes x all e = elim (cases_Bool (nat_lt (length bytes) 32)) [
  | inl t ↦ let q = rw t at e in absurd (cc q)
  | inr t ↦
      let q = rw t at e in
      let first : take 32 bytes ≡ x.0 = cc q in
      let rest : drop 32 bytes ≡ x.1 = cc q in
      let long : 32 ≤ length bytes = grind (arith, nat_tests) in
      (subst Is32Bytes first (length-take-le 32 bytes long, λ i. byte_in (take 32 bytes) i (taken_bytes 32 bytes all)), subst AreBytes rest (dropped_bytes 32 bytes all))
]

reads_varint : (max left : ℕ) (first : Bool) → Reads (varint_from max left first) (λ n. ⊤)
unfolding varint_from
reads_varint max zero first bytes x all e = absurd (cc e)
reads_varint max (suc left) first [] x all e = absurd (cc e)
reads_varint max (suc left) first (b ∷ rest) x all e =
    reads_cond (nat_lt b 128) (λ after. cond ((b == 0) && not first) (Err codec.InvalidVarint) (Ok (b, after)))
    (λ after. varint_from max left false after >>= λ high more. at_most max (b - 128 + 128 * high) more) (λ n. ⊤)
    (reads_cond ((b == 0) && not first) (λ after. Err codec.InvalidVarint) (λ after. Ok (b, after)) (λ n. ⊤) (reads_err (λ n. ⊤) codec.InvalidVarint) (reads_ok (λ n. ⊤) b tt))
    (reads_then (varint_from max left false) (λ high more. at_most max (b - 128 + 128 * high) more) (λ n. ⊤) (λ n. ⊤) (reads_varint max left false)
    (λ high _. reads_cond (nat_le (b - 128 + 128 * high) max) (λ more. Ok (b - 128 + 128 * high, more)) (λ more. Err codec.InvalidVarint) (λ n. ⊤) (reads_ok (λ n. ⊤) (b - 128 + 128 * high) tt) (reads_err (λ n. ⊤) codec.InvalidVarint)))
    rest x all.1 e

-- ---- lists

reads_items : {T : Type 0} (item : List ℕ → Parsed T) (Q : T → Type 0) → Reads item Q → (n : ℕ) → Reads (items_at item n) (AllByRecursion Q)
unfolding items_at
reads_items item Q h zero = reads_ok (AllByRecursion Q) [] tt
reads_items item Q h (suc n) =
    reads_then item (λ first rest. items_at item n rest >>= λ others after. Ok (first ∷ others, after)) Q (AllByRecursion Q) h
    (λ first q. reads_then (items_at item n) (λ others after. Ok (first ∷ others, after)) (AllByRecursion Q) (AllByRecursion Q) (reads_items item Q h n) (λ others qs. reads_ok (AllByRecursion Q) (first ∷ others) (q, qs)))

reads_count : (limit : ℕ) → Reads (count_at limit) (λ n. ⊤)
reads_count limit =
    reads_then varint32_at (limited limit) (λ n. ⊤) (λ n. ⊤) (reads_varint (2 ^ 32 - 1) 5 true)
    (λ n _. reads_cond (nat_lt limit n) (λ rest. Err (codec.InvalidLength n limit)) (λ rest. Ok (n, rest)) (λ k. ⊤) (reads_err (λ k. ⊤) (codec.InvalidLength n limit)) (reads_ok (λ k. ⊤) n tt))

reads_list : {T : Type 0} (limit : ℕ) (item : List ℕ → Parsed T) (Q : T → Type 0) → Reads item Q → Reads (list_at limit item) (AllByRecursion Q)
unfolding list_at
reads_list limit item Q h = reads_then (count_at limit) (items_at item) (λ n. ⊤) (AllByRecursion Q) (reads_count limit) (λ n _. reads_items item Q h n)

-- ---- operations

-- the value of an Update has 32 bytes
abbrev pub HasValue : AnyOp → Type 0
HasValue (any.Update key value) = Is32Bytes value
HasValue (any.Delete key) = ⊤
HasValue (any.CommitFloor metadata floor) = ⊤

reads_location : Reads location_at (λ n. ⊤)
unfolding location_at
reads_location =
    reads_then varint64_at location_of (λ n. ⊤) (λ n. ⊤) (reads_varint (2 ^ 64 - 1) 10 true)
    (λ n _. reads_cond (nat_le n (2 ^ 62)) (λ rest. Ok (n, rest)) (λ rest. Err codec.Invalid) (λ k. ⊤) (reads_ok (λ k. ⊤) n tt) (reads_err (λ k. ⊤) codec.Invalid))

reads_metadata : Reads metadata_at (λ o. ⊤)
unfolding metadata_at
reads_metadata =
    reads_then byte_at metadata_if (λ b. b < 256) (λ o. ⊤) reads_byte
    (λ flag _. reads_cond (flag == 0) (λ rest. Ok (None, rest)) (λ rest. cond (flag == 1) (digest_at rest >>= λ metadata after. Ok (Some metadata, after)) (Err (codec.InvalidEnum flag))) (λ o. ⊤) (reads_ok (λ o. ⊤) None tt)
    (reads_cond (flag == 1) (λ rest. digest_at rest >>= λ metadata after. Ok (Some metadata, after)) (λ rest. Err (codec.InvalidEnum flag)) (λ o. ⊤)
    (reads_then digest_at (λ metadata after. Ok (Some metadata, after)) Is32Bytes (λ o. ⊤) reads_digest (λ metadata _. reads_ok (λ o. ⊤) (Some metadata) tt)) (reads_err (λ o. ⊤) (codec.InvalidEnum flag))))

reads_any : Reads any_at HasValue
unfolding any_at
reads_any =
    reads_then byte_at any_tagged (λ b. b < 256) HasValue reads_byte
    (λ tag _. reads_cond (tag == 0) (pair_at any.Update) (λ rest. cond (tag == 1) (single_at any.Delete rest) (cond (tag == 2) (commit_at any.CommitFloor rest) (Err (codec.InvalidEnum tag)))) HasValue
    (reads_then digest_at (λ key rest. digest_at rest >>= λ value rest. Ok (any.Update key value, rest)) Is32Bytes HasValue reads_digest
    (λ key _. reads_then digest_at (λ value rest. Ok (any.Update key value, rest)) Is32Bytes HasValue reads_digest (λ value v. reads_ok HasValue (any.Update key value) v)))
    (reads_cond (tag == 1) (single_at any.Delete) (λ rest. cond (tag == 2) (commit_at any.CommitFloor rest) (Err (codec.InvalidEnum tag))) HasValue
    (reads_then digest_at (λ key rest. Ok (any.Delete key, rest)) Is32Bytes HasValue reads_digest (λ key _. reads_ok HasValue (any.Delete key) tt))
    (reads_cond (tag == 2) (commit_at any.CommitFloor) (λ rest. Err (codec.InvalidEnum tag)) HasValue
    (reads_then metadata_at (λ metadata rest. location_at rest >>= λ floor rest. Ok (any.CommitFloor metadata floor, rest)) (λ o. ⊤) HasValue reads_metadata
    (λ metadata _. reads_then location_at (λ floor rest. Ok (any.CommitFloor metadata floor, rest)) (λ n. ⊤) HasValue reads_location (λ floor _. reads_ok HasValue (any.CommitFloor metadata floor) tt)))
    (reads_err HasValue (codec.InvalidEnum tag)))))

-- ---- messages

reads_proof : Reads proof_at (λ p. ⊤)
unfolding proof_at
reads_proof =
    reads_then location_at _ (λ n. ⊤) (λ p. ⊤) reads_location (λ leaves _. reads_then varint64_at _ (λ n. ⊤) (λ p. ⊤) (reads_varint (2 ^ 64 - 1) 10 true)
    (λ inactive _. reads_then (list_at 10000 digest_at) _ (AllByRecursion Is32Bytes) (λ p. ⊤) (reads_list 10000 digest_at Is32Bytes reads_digest)
    (λ digests _. reads_ok (λ p. ⊤) (record { leaves = leaves; inactive_peaks = inactive; digests = digests }) tt)))

-- the operations of a response are so
abbrev pub Hold : {Op : Type 0} → (Op → Type 0) → Message Op → Type 0
Hold P (messages.GetOperationsResponse m) = AllByRecursion P m.operations
Hold P m = ⊤

-- what is read is so; nothing of what is left
abbrev Finds : {A : Type 0} → (List ℕ → Parsed A) → (A → Type 0) → Type 0
Finds {A} f Q = (bytes : List ℕ) (x : A × List ℕ) → AreBytes bytes → f bytes ≡ Ok x → Q x.0

abbrev operations_in : Parsed (GetOperationsResponse AnyOp) → List AnyOp
operations_in (Ok y) = y.0.operations
operations_in (Err fault) = []

finds_operations : Finds (operations_response_at any_at) (λ m. AllByRecursion HasValue m.operations)
unfolding operations_response_at
finds_operations bytes x all e =
    let number = bind_ok (number_at bytes) _ x e in
    let a = reads_number bytes number.0 all number.1 in
    let proof = bind_ok (proof_at number.0.1) _ x number.2 in
    let b = reads_proof number.0.1 proof.0 a.1 proof.1 in
    let ops = bind_ok (list_at 10000 any_at proof.0.1) _ x proof.2 in
    let c = reads_list 10000 any_at HasValue reads_any proof.0.1 ops.0 b.1 ops.1 in
    let nodes = bind_ok (pinned_at ops.0.1) _ x ops.2 in
    let is : ops.0.0 ≡ x.0.operations = ap operations_in nodes.2 in
    subst (AllByRecursion HasValue) is c.0

finds_within : {M : Type 0} (make : M → Message AnyOp) (fields : List ℕ → Parsed M) (Q : M → Type 0) → ((v : M) → Q v → (Hold HasValue) (make v)) → Finds fields Q → Finds (within make fields) (Hold HasValue)
finds_within make fields Q h k bytes x all e =
    let v = bind_ok (fields bytes) (λ value rest. Ok (make value, rest)) x e in
    let is : make v.0.0 ≡ x.0 = cc v.2 in
    subst (Hold HasValue) is (h v.0.0 (k bytes v.0 all v.1))

finds_cond : {A : Type 0} (b : Bool) (f g : List ℕ → Parsed A) (Q : A → Type 0) → Finds f Q → Finds g Q → Finds (λ bytes. cond b (f bytes) (g bytes)) Q
finds_cond true f g Q h k = h
finds_cond false f g Q h k = k

finds_other : {M : Type 0} (make : M → Message AnyOp) (fields : List ℕ → Parsed M) → ((v : M) → (Hold HasValue) (make v)) → Finds (within make fields) (Hold HasValue)
finds_other make fields h = finds_within make fields (λ v. ⊤) (λ v _. h v) (λ bytes x all e. tt)

finds_tagged : (tag : ℕ) → Finds (tagged any_at tag) (Hold HasValue)
finds_tagged tag =
    finds_cond (tag == 0) (within messages.GetOperationsRequest operations_request_at) (λ rest. cond (tag == 1) (within messages.GetOperationsResponse (operations_response_at any_at) rest) (cond (tag == 2) (within messages.GetSyncTargetRequest sync_target_request_at rest) (cond (tag == 3) (within messages.GetSyncTargetResponse sync_target_response_at rest) (cond (tag == 4) (within messages.GetCompactTargetRequest compact_target_request_at rest) (cond (tag == 5) (within messages.GetCompactTargetResponse compact_target_response_at rest) (cond (tag == 6) (within messages.GetCompactStateRequest compact_state_request_at rest) (cond (tag == 7) (within messages.GetCompactStateResponse (compact_state_response_at any_at) rest) (cond (tag == 8) (within messages.Error error_response_at rest) (Err (codec.InvalidEnum tag)))))))))) (Hold HasValue)
    (finds_other messages.GetOperationsRequest operations_request_at (λ v. tt))
    (finds_cond (tag == 1) (within messages.GetOperationsResponse (operations_response_at any_at)) (λ rest. cond (tag == 2) (within messages.GetSyncTargetRequest sync_target_request_at rest) (cond (tag == 3) (within messages.GetSyncTargetResponse sync_target_response_at rest) (cond (tag == 4) (within messages.GetCompactTargetRequest compact_target_request_at rest) (cond (tag == 5) (within messages.GetCompactTargetResponse compact_target_response_at rest) (cond (tag == 6) (within messages.GetCompactStateRequest compact_state_request_at rest) (cond (tag == 7) (within messages.GetCompactStateResponse (compact_state_response_at any_at) rest) (cond (tag == 8) (within messages.Error error_response_at rest) (Err (codec.InvalidEnum tag))))))))) (Hold HasValue)
    (finds_within messages.GetOperationsResponse (operations_response_at any_at) (λ m. AllByRecursion HasValue m.operations) (λ v q. q) finds_operations)
    (finds_cond (tag == 2) (within messages.GetSyncTargetRequest sync_target_request_at) (λ rest. cond (tag == 3) (within messages.GetSyncTargetResponse sync_target_response_at rest) (cond (tag == 4) (within messages.GetCompactTargetRequest compact_target_request_at rest) (cond (tag == 5) (within messages.GetCompactTargetResponse compact_target_response_at rest) (cond (tag == 6) (within messages.GetCompactStateRequest compact_state_request_at rest) (cond (tag == 7) (within messages.GetCompactStateResponse (compact_state_response_at any_at) rest) (cond (tag == 8) (within messages.Error error_response_at rest) (Err (codec.InvalidEnum tag)))))))) (Hold HasValue)
    (finds_other messages.GetSyncTargetRequest sync_target_request_at (λ v. tt))
    (finds_cond (tag == 3) (within messages.GetSyncTargetResponse sync_target_response_at) (λ rest. cond (tag == 4) (within messages.GetCompactTargetRequest compact_target_request_at rest) (cond (tag == 5) (within messages.GetCompactTargetResponse compact_target_response_at rest) (cond (tag == 6) (within messages.GetCompactStateRequest compact_state_request_at rest) (cond (tag == 7) (within messages.GetCompactStateResponse (compact_state_response_at any_at) rest) (cond (tag == 8) (within messages.Error error_response_at rest) (Err (codec.InvalidEnum tag))))))) (Hold HasValue)
    (finds_other messages.GetSyncTargetResponse sync_target_response_at (λ v. tt))
    (finds_cond (tag == 4) (within messages.GetCompactTargetRequest compact_target_request_at) (λ rest. cond (tag == 5) (within messages.GetCompactTargetResponse compact_target_response_at rest) (cond (tag == 6) (within messages.GetCompactStateRequest compact_state_request_at rest) (cond (tag == 7) (within messages.GetCompactStateResponse (compact_state_response_at any_at) rest) (cond (tag == 8) (within messages.Error error_response_at rest) (Err (codec.InvalidEnum tag)))))) (Hold HasValue)
    (finds_other messages.GetCompactTargetRequest compact_target_request_at (λ v. tt))
    (finds_cond (tag == 5) (within messages.GetCompactTargetResponse compact_target_response_at) (λ rest. cond (tag == 6) (within messages.GetCompactStateRequest compact_state_request_at rest) (cond (tag == 7) (within messages.GetCompactStateResponse (compact_state_response_at any_at) rest) (cond (tag == 8) (within messages.Error error_response_at rest) (Err (codec.InvalidEnum tag))))) (Hold HasValue)
    (finds_other messages.GetCompactTargetResponse compact_target_response_at (λ v. tt))
    (finds_cond (tag == 6) (within messages.GetCompactStateRequest compact_state_request_at) (λ rest. cond (tag == 7) (within messages.GetCompactStateResponse (compact_state_response_at any_at) rest) (cond (tag == 8) (within messages.Error error_response_at rest) (Err (codec.InvalidEnum tag)))) (Hold HasValue)
    (finds_other messages.GetCompactStateRequest compact_state_request_at (λ v. tt))
    (finds_cond (tag == 7) (within messages.GetCompactStateResponse (compact_state_response_at any_at)) (λ rest. cond (tag == 8) (within messages.Error error_response_at rest) (Err (codec.InvalidEnum tag))) (Hold HasValue)
    (finds_other messages.GetCompactStateResponse (compact_state_response_at any_at) (λ v. tt))
    (finds_cond (tag == 8) (within messages.Error error_response_at) (λ rest. Err (codec.InvalidEnum tag)) (Hold HasValue)
    (finds_other messages.Error error_response_at (λ v. tt))
    (λ bytes x all e. absurd (cc e))))))))))

-- a message that is read of bytes has operations with such values
pub message_values : (body : List ℕ) (m : Message AnyOp) → AreBytes body → all_of (message_at any_at) body ≡ Ok m → Hold HasValue m
unfolding all_of message_at
message_values body m all e =
    let x = bind_ok (byte_at body >>= tagged any_at) _ m e in
    let tag = bind_ok (byte_at body) (tagged any_at) x.0 x.1 in
    let after = reads_byte body tag.0 all tag.1 in
    let found : (Hold HasValue) x.0.0 = finds_tagged tag.0.0 tag.0.1 x.0 after.1 tag.2 in
    elim (cases_Bool (length x.0.1 == 0)) [
      | inl t ↦ let q = rw t at x.2 in let is : x.0.0 ≡ m = cc q in subst (Hold HasValue) is found
      | inr t ↦ let q = rw t at x.2 in absurd (cc q)
    ]

-- ---- frames

sized_bytes : (limit n : ℕ) (bytes body after : List ℕ) → AreBytes bytes → sized limit n bytes ≡ Whole body after → AreBytes body × AreBytes after
sized_bytes limit n bytes body after all e = elim (cases_Bool (nat_lt limit n)) [
  | inl t ↦ let q = rw t at e in absurd (cc q)
  | inr t ↦
      let q = rw t at e in
      elim (cases_Bool (nat_lt (length bytes) n)) [
        | inl u ↦ let r = rw u at q in absurd (cc r)
        | inr u ↦
            let r = rw u at q in
            let one : take n bytes ≡ body = cc r in
            let other : drop n bytes ≡ after = cc r in
            (subst AreBytes one (taken_bytes n bytes all), subst AreBytes other (dropped_bytes n bytes all))
      ]
]

front_from : (limit : ℕ) (bytes body after : List ℕ) (read : Parsed ℕ) → varint32_at bytes ≡ read → AreBytes bytes → front_of limit read ≡ Whole body after → AreBytes body × AreBytes after
front_from limit bytes body after (Ok n) f all e = sized_bytes limit n.0 n.1 body after (reads_varint (2 ^ 32 - 1) 5 true bytes n all f).1 e
front_from limit bytes body after (Err codec.EndOfBuffer) f all e = absurd (cc e)
front_from limit bytes body after (Err codec.InvalidVarint) f all e = absurd (cc e)
front_from limit bytes body after (Err (codec.InvalidLength found most)) f all e = absurd (cc e)
front_from limit bytes body after (Err (codec.InvalidEnum tag)) f all e = absurd (cc e)
front_from limit bytes body after (Err codec.Invalid) f all e = absurd (cc e)
front_from limit bytes body after (Err (codec.ExtraData rest)) f all e = absurd (cc e)
front_from limit bytes body after (Err codec.OutOfMemory) f all e = absurd (cc e)

-- the bodies of a stream's frames are bytes
pub bodies_bytes : (limit : ℕ) (bytes : List ℕ) (bodies : List (List ℕ)) (rest : List ℕ) → AreBytes bytes → Leads limit bytes bodies rest → AllByRecursion AreBytes bodies
bodies_bytes limit bytes [] rest all h = tt
bodies_bytes limit bytes (body ∷ bodies) rest all h =
    let two = front_from limit bytes body h.0 (varint32_at bytes) refl all h.1 in
    (two.0, bodies_bytes limit h.0 bodies rest two.1 h.2)

-- the front of bytes is bytes
pub front_bytes : (given more : List ℕ) → AreBytes (given ++ more) → AreBytes given
front_bytes [] more h = tt
front_bytes (b ∷ given) more h = (h.0, front_bytes given more h.1)
