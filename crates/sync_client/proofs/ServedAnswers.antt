-- What a link that serves a log owes to an ask is a good answer to it.
use Rattle.std.proofs.Common.{◌≡◌, ℕ, zero, suc, ◌+◌, ◌-◌, ◌*◌, ◌/◌, ◌%◌, ◌^◌, ◌<◌, ◌≤◌, Bool, true, false, ◌==◌, nat_lt, nat_le, cond, if◌then◌else◌, List, [], ◌∷◌, ◌++◌, length, take, drop, reverse, map, All, Some, None, Ok, refl, sym, ap, subst, ◌∙◌, inl, inr, arith, lit≤}
use Rattle.std.specs.Int.RustNames.{count_ones}
use Rattle.std.specs.List.{flat_map}
use Rattle.std.specs.declared.ops.Range.{Range}
use Rattle.std.proofs.lemmas.Bool.{and_from, eq-eqb, cases_Bool, eqb-true}
use Rattle.std.proofs.lemmas.Bool.Decides.{nat_tests}
use Rattle.std.proofs.lemmas.List.{append-nil, length-append, length-take-le, length-drop, length-reverse, reverse-append}
use Rattle.std.proofs.lemmas.List.Elements.{All-append, All-take, All-drop, All-cons, All-nil, All-head, All-tail}
use Rattle.sha2.specs.Sha256.{sha256}
use Rattle.ledger_codec.specs.Frames.{Whole, front}
use Rattle.ledger_codec.specs.Parsing.{Parsed}
use Rattle.ledger_codec.specs.Sequences.{all_of, string_written, list_written}
use Rattle.ledger_codec.specs.Spelling.{SpellLaws}
use Rattle.ledger_codec.proofs.Stable.{framed}
use Rattle.ledger_merkle.specs.Digests.{sha256_length}
use Rattle.ledger_merkle.specs.Tree.{leaf, node, join, push, grow}
use Rattle.ledger_merkle.specs.Range.{RangeOk}
use Rattle.ledger_merkle.specs.Leaves.{ListView, list_size}
use Rattle.ledger_merkle.specs.Levels.{tree, outside_below, proof_digests}
use Rattle.ledger_merkle.proofs.Peaked.{begins_all, proof_holds}
use Rattle.ledger_merkle.proofs.Pruned.{pruned_count}
use Rattle.ledger_log.specs.View.{LogView, log_size, log_list, log_range, log_peaks_at}
use Rattle.ledger_log.specs.declared.target.Target.{Target}
use Rattle.ledger_log.proofs.Logs.{length-log_list, leaves_of_range, root_of_first, peaks_of_log}
use Rattle.sync_net.specs.Asks.{request_of}
use Rattle.sync_net.specs.Core.{LogData, range_refused, served_count, pinned_for, core, request_framed, request_read, nothing_at, asked, reply_frame}
use Rattle.ledger_codec.specs.Numbers.{varint, varint_within}
use Rattle.ledger_merkle.specs.Spellings.{proof_written}
use Rattle.sync_net.specs.Fields.{pinned_written, AreSoundPinned, PinnedFit}
use Rattle.sync_net.specs.Laws.{message_laws}
use Rattle.sync_net.specs.Messages.{message_at, message_written, IsNumber, IsSoundMessage, MessageFits, number_written}
use Rattle.sync_net.specs.declared.message.Message.{Message}
use Rattle.sync_net.specs.declared.message.Message.TheVariants as messages
use Rattle.sync_net.specs.declared.response.GetOperationsResponse.{GetOperationsResponse}
use Rattle.sync_net.proofs.Limits.{needed_few, ones_most}
use Rattle.sync_net.proofs.PlainData.{reply_same}
use Rattle.sync_net.proofs.Requests.{request_same}
use Rattle.sync_net.proofs.Short.{request_short}
use Rattle.sync_client.specs.Asking.{good, range_ok, nodes_good}
use Rattle.sync_client.specs.Serving.{Serves}
use Rattle.sync_client.specs.Session.{at_least_one, request_for}
use Rattle.sync_client.proofs.Proving.{range_ok_yes}
use Rattle.sync_client.proofs.ProofDigests.{IsDigest, leaf_digests, below_digests}

-- ---- small things

no : (a b : ℕ) → b < a → nat_le a b ≡ false
no a b h = grind (arith, nat_tests)

not_below : (a b : ℕ) → b ≤ a → nat_lt a b ≡ false
not_below a b h = grind (arith, nat_tests)

below : (a b : ℕ) → a < b → nat_lt a b ≡ true
below a b h = grind (arith, nat_tests)

up_to : (a b : ℕ) → a ≤ b → nat_le a b ≡ true
up_to a b h = grind (arith, nat_tests)

value_is : (n : ℕ) → 0 < n → (at_least_one n).value ≡ n
value_is zero h = absurd (omega arith)
value_is (suc n) h = refl

either_short : (b : Bool) (n k : ℕ) (more : List ℕ) → length more ≤ k → length (cond b (n ∷ []) ((n % 128 + 128) ∷ more)) ≤ suc k
either_short true n k more h = omega arith
either_short false n k more h = omega arith

within_short : (k n : ℕ) → length (varint_within k n) ≤ k
within_short zero n = omega arith
within_short (suc k) n = either_short (nat_lt n 128) n k (varint_within k (n / 128)) (within_short k (n / 128))

pub varint_short : (n : ℕ) → length (varint n) ≤ 10
unfolding varint
varint_short n = within_short 10 n

all_reverse : {X : Type 0} (P : X → Type 0) (xs : List X) → All P xs → All P (reverse xs)
all_reverse P [] h = h
all_reverse P (x ∷ xs) h = subst (All P) (sym (reverse-append (x ∷ []) xs)) (All-append P (reverse xs) (x ∷ []) (all_reverse P xs (All-tail P x xs h)) (All-cons P x [] (All-head P x xs h) (All-nil P)))

-- ---- peaks have 32 bytes

node_digest : (left right : List ℕ) → IsDigest (node sha256 left right)
unfolding node
node_digest left right = sha256_length (1 ∷ left ++ right)

leaf_digest : (i : ℕ) (bytes : List ℕ) → IsDigest (leaf sha256 i bytes)
unfolding leaf
leaf_digest i bytes = sha256_length _

join_digests : (n : ℕ) (ps : List (List ℕ)) (d : List ℕ) → All IsDigest ps → IsDigest d → All IsDigest (join sha256 n ps d)
join_digests n [] d all one = All-cons IsDigest d [] one all
join_digests n (p ∷ ps) d all one =
    elim (cases_Bool (n % 2 == 1)) [
      | inl odd ↦ subst (λ b. All IsDigest (cond b (join sha256 (n / 2) ps (node sha256 p d)) (d ∷ p ∷ ps))) (sym odd) (join_digests (n / 2) ps (node sha256 p d) (All-tail IsDigest p ps all) (node_digest p d))
      | inr even ↦ subst (λ b. All IsDigest (cond b (join sha256 (n / 2) ps (node sha256 p d)) (d ∷ p ∷ ps))) (sym even) (All-cons IsDigest d (p ∷ ps) one all)
    ]

push_digests : (n : ℕ) (ps : List (List ℕ)) (d : List ℕ) → All IsDigest ps → IsDigest d → All IsDigest (push sha256 n ps d)
unfolding push
push_digests n ps d all one = all_reverse IsDigest _ (join_digests n (reverse ps) d (all_reverse IsDigest ps all) one)

grow_digests : (n : ℕ) (ps xs : List (List ℕ)) → All IsDigest ps → All IsDigest (grow sha256 n ps xs)
grow_digests n ps [] all = all
grow_digests n ps (x ∷ xs) all = grow_digests (n + 1) (push sha256 n ps (leaf sha256 n x)) xs (push_digests n ps (leaf sha256 n x) all (leaf_digest n x))

-- ---- asks are read

module _ {Op : Type 0} (read : List ℕ → Parsed Op) (written : Op → List ℕ) (sound : Op → Type 0) (laws : SpellLaws read written sound (λ _. Unit {0})) where
  -- a message that was written is read as it
  whole_again : (m : Message Op) → IsSoundMessage sound m → MessageFits (λ _. Unit {0}) m → all_of (message_at read) (message_written written m) ≡ Ok m
  unfolding all_of
  whole_again m s f =
      let e = (message_laws read written sound (λ _. Unit {0}) laws).again m s f [] in
      let b : message_at read (message_written written m) ≡ Ok (m, []) = ap (message_at read) (sym (append-nil (message_written written m))) ∙ e in
      rw b refl

  -- the request of a range is read from its frame
  pub ask_is_read : (number : ℕ) (target : Target) (r : Range ℕ) → IsNumber number → target.end ≤ 2 ^ 62 → r.start < r.end → r.end ≤ target.end
      → asked (string_written (message_written written (request_of number (request_for target r)))) ≡ Some (record { number = number; ask = request_for target r })
  ask_is_read number target r small most some within =
      let m : Message Op = request_of number (request_for target r) in
      let body = message_written written m in
      let value : (at_least_one (r.end - r.start)).value ≡ r.end - r.start = value_is (r.end - r.start) (omega arith) in
      let short : length body ≤ 10485760 = request_short written number (request_for target r) tt in
      let one : front 10485760 (string_written body) ≡ Whole body [] = ap (front 10485760) (sym (append-nil (string_written body))) ∙ framed 10485760 body [] short (lit≤ tt) in
      let two : all_of (message_at read) body ≡ Ok m = whole_again m (record { request_id = small; op_count = most; start_loc = omega arith; max_ops = omega arith }) tt in
      ap request_framed one ∙ (request_same nothing_at read body ∙ ap request_read two)

-- ---- answers are good

-- the answer that a log gives to the ask of a range, so many operations long
abbrev pub answer_of : {Op : Type 0} → (Op → List ℕ) → LogView Op → Target → ℕ → Range ℕ → ℕ → GetOperationsResponse Op
answer_of written log target number r served = record {
  request_id = number;
  proof = record { leaves = target.end; inactive_peaks = 0; digests = proof_digests sha256 (log_list sha256 written log) target.end r.start served };
  operations = log_range log r.start served;
  pinned_nodes = pinned_for (r.start == target.start) (log_peaks_at sha256 written log r.start);
}

-- how many operations a log answers to the ask of a range
abbrev pub answer_count : {Op : Type 0} → LogView Op → Target → Range ℕ → ℕ
answer_count log target r = served_count (log_size log) target.end r.start (at_least_one (r.end - r.start)).value

-- nothing stands in the way of an ask of a range that is held
held_range : (front size count start : ℕ) → front ≤ start → start < count → count ≤ size → range_refused front size count start ≡ None
held_range front size count start a b c = rw (no count start b, no size start (omega arith), not_below size count c, not_below start front a) refl

module _ {Op : Type 0} (written : Op → List ℕ) (sound : Op → Type 0) (held : LogData) (target : Target) (number : ℕ) (r : Range ℕ) (h : Serves written sound held target) (least : target.start ≤ r.start) (some : r.start < r.end) (within : r.end ≤ target.end) where
  abbrev served : ℕ
  served = answer_count h.log target r

  abbrev the_answer : GetOperationsResponse Op
  the_answer = answer_of written h.log target number r served

  -- at least one operation, and no more than were asked
  pub served_some : (0 < served) × (served ≤ r.end - r.start) × (served ≤ 100)
  served_some =
      let value = value_is (r.end - r.start) (omega arith) in
      let size = h.size in
      (omega arith, omega arith, omega arith)

  pub served_length : length (log_range h.log r.start served) ≡ served
  served_length =
      let size = h.size in
      let front = h.front in
      let n = served_some.1 in
      let left : length (drop (r.start - h.log.front) h.log.ops) ≡ length h.log.ops - (r.start - h.log.front) = length-drop (r.start - h.log.front) h.log.ops in
      length-take-le served (drop (r.start - h.log.front) h.log.ops) (omega arith)

  -- the reply core's answer over the log
  answers : core sha256 written held.floor h.log (request_of number (request_for target r)) ≡ messages.GetOperationsResponse the_answer
  answers = rw (held_range h.log.front (log_size h.log) target.end r.start (let f = h.front in omega arith) (omega arith) h.size) refl

  -- and its frame
  pub frame_is : reply_frame held (record { number = number; ask = request_for target r }) ≡ string_written (message_written written (messages.GetOperationsResponse the_answer))
  frame_is =
      ap (λ (v : LogView (List ℕ)). string_written (message_written (λ op. op) (core sha256 (λ op. op) held.floor v (request_of number (request_for target r))))) h.is
      ∙ (ap string_written (reply_same sha256 written held.floor h.log number (request_for target r)) ∙ ap (λ (m : Message Op). string_written (message_written written m)) answers)

  proved : RangeOk sha256 target.root target.end 0 the_answer.proof.digests target.end r.start (map written the_answer.operations)
  proved =
      let v : ListView = log_list sha256 written h.log in
      let n = served_some.1 in
      let size : target.end ≤ list_size v = subst (λ k. target.end ≤ k) (sym (length-log_list sha256 written h.log)) h.size in
      let same = leaves_of_range sha256 written h.log r.start served (let f = h.front in omega arith) in
      subst (λ root. RangeOk sha256 root target.end 0 the_answer.proof.digests target.end r.start (map written the_answer.operations))
      (root_of_first sha256 written h.log target.end ∙ h.root)
      (proof_holds sha256 v target.end r.start served the_answer.proof.digests (map written the_answer.operations) h.count (let f = h.front in omega arith) (omega arith) size (let m = h.most in let s = h.size in omega arith) refl same)

  peak_count : length (log_peaks_at sha256 written h.log r.start) ≡ count_ones r.start
  peak_count =
      let v : ListView = log_list sha256 written h.log in
      let size : list_size v ≡ log_size h.log = length-log_list sha256 written h.log in
      ap length (sym (peaks_of_log sha256 written h.log r.start)) ∙ pruned_count sha256 v r.start h.count (let f = h.front in omega arith) (let s = h.size in omega arith)

  pinned_right : (first : Bool) → (r.start == target.start) ≡ first → (if first then nodes_good (count_ones target.start) (pinned_for first (log_peaks_at sha256 written h.log r.start)) else true) ≡ true
  pinned_right true e = eq-eqb _ _ (peak_count ∙ ap count_ones (eqb-true r.start target.start e))
  pinned_right false e = refl

  pub answer_is_good : good (range_ok sha256 written target.root target.end) target.start r the_answer ≡ true
  unfolding good
  answer_is_good =
      let n = served_some in
      let len = served_length in
      and_from _ _ (below 0 (length the_answer.operations) (let a = n.0 in omega arith))
      (and_from _ _ (up_to (length the_answer.operations) (r.end - r.start) (let a = n.1 in omega arith))
      (and_from _ _ (range_ok_yes sha256 written target.root target.end the_answer.proof r.start the_answer.operations proved) (pinned_right (r.start == target.start) refl)))

-- ---- answers are read

flat_most : {X : Type 0} (f : X → List ℕ) (P : X → Type 0) (b : ℕ) → ((x : X) → P x → length (f x) ≤ b) → (xs : List X) → All P xs → length (flat_map f xs) ≤ length xs * b
flat_most f P b h [] all = omega arith
flat_most f P b h (x ∷ xs) all =
    let one = h x (All-head P x xs all) in
    let rest = flat_most f P b h xs (All-tail P x xs all) in
    let sum = length-append (f x) (flat_map f xs) in
    let product : suc (length xs) * b ≡ b + length xs * b = grind arith in
    omega arith

module _ {Op : Type 0} (read : List ℕ → Parsed Op) (written : Op → List ℕ) (sound : Op → Type 0) (laws : SpellLaws read written sound (λ _. Unit {0})) (bounded : (op : Op) → sound op → length (written op) ≤ 96)
    (held : LogData) (target : Target) (number : ℕ) (r : Range ℕ) (h : Serves written sound held target) (least : target.start ≤ r.start) (some : r.start < r.end) (within : r.end ≤ target.end) (small : IsNumber number) where
  abbrev the_answered : GetOperationsResponse Op
  the_answered = answer_of written h.log target number r (answer_count h.log target r)

  proof_digests_sound : All IsDigest the_answered.proof.digests
  proof_digests_sound =
      let v : ListView = log_list sha256 written h.log in
      let size : list_size v ≡ log_size h.log = length-log_list sha256 written h.log in
      let most : target.end ≤ 2 ^ 62 = (let m = h.most in let s = h.size in omega arith) in
      let n = served_some written sound held target number r h least some within in
      subst (λ k. All IsDigest (outside_below (tree sha256 (reverse v.pinned) v.front v.leaves) r.start (r.start + answer_count h.log target r) target.end 63 k)) (begins_all target.end most)
      (below_digests sha256 sha256_length (reverse v.pinned) v.front v.leaves (length-reverse v.pinned ∙ h.count) (all_reverse IsDigest v.pinned h.nodes) (leaf_digests sha256 sha256_length h.log.front (map written h.log.ops))
      r.start (r.start + answer_count h.log target r) (let f = h.front in omega arith) target.end 63 (omega arith) (let s = h.size in omega arith))

  digests_few : length the_answered.proof.digests ≤ 10000
  digests_few = (let e = (proved written sound held target number r h least some within).2 in let f = needed_few target.end r.start (length (map written the_answered.operations)) in omega arith)

  pinned_sound : (first : Bool) → AreSoundPinned (pinned_for first (log_peaks_at sha256 written h.log r.start))
  pinned_sound true = grow_digests h.log.front h.log.pinned (map written (take (r.start - h.log.front) h.log.ops)) h.nodes
  pinned_sound false = tt

  pinned_fit : (first : Bool) → PinnedFit (pinned_for first (log_peaks_at sha256 written h.log r.start))
  pinned_fit true = (let c = peak_count written sound held target number r h least some within in let o = ones_most r.start (let m = h.most in let s = h.size in omega arith) in omega arith)
  pinned_fit false = tt

  operations_sound : All sound the_answered.operations
  operations_sound = All-take sound _ (drop (r.start - h.log.front) h.log.ops) (All-drop sound (r.start - h.log.front) h.log.ops h.ops)

  -- the client reads the answer
  pub answer_is_read : all_of (message_at read) (message_written written (messages.GetOperationsResponse the_answered)) ≡ Ok (messages.GetOperationsResponse the_answered)
  answer_is_read =
      let n = served_some written sound held target number r h least some within in
      let len = served_length written sound held target number r h least some within in
      whole_again read written sound laws (messages.GetOperationsResponse the_answered)
      (record {
        request_id = small;
        proof = record { leaves = (let m = h.most in let s = h.size in omega arith); inactive_peaks = omega arith; digests = proof_digests_sound };
        operations = operations_sound;
        pinned_nodes = pinned_sound (r.start == target.start);
      })
      (record {
        proof = digests_few;
        operations = ((let a = n.2 in omega arith), λ k d lt. tt);
        pinned_nodes = pinned_fit (r.start == target.start);
      })

  pinned_short : (first : Bool) → length (pinned_written (pinned_for first (log_peaks_at sha256 written h.log r.start))) ≤ 2059
  pinned_short true =
      let peaks = log_peaks_at sha256 written h.log r.start in
      let c : length peaks ≤ 64 = pinned_fit true in
      let v = varint_short (length peaks) in
      let d = flat_most (λ (digest : List ℕ). digest) IsDigest 32 (λ x e. omega arith) peaks (pinned_sound true) in
      let a = length-append (varint (length peaks)) (flat_map (λ (digest : List ℕ). digest) peaks) in
      omega arith
  pinned_short false = lit≤ tt

  -- and it is far shorter than a frame may be
  pub answer_is_short : length (message_written written (messages.GetOperationsResponse the_answered)) ≤ 10485760
  answer_is_short =
      let n = served_some written sound held target number r h least some within in
      let len = served_length written sound held target number r h least some within in
      let ops = flat_most written sound 96 bounded the_answered.operations operations_sound in
      let digests = flat_most (λ (digest : List ℕ). digest) IsDigest 32 (λ x e. omega arith) the_answered.proof.digests proof_digests_sound in
      let few = digests_few in
      let nodes = pinned_short (r.start == target.start) in
      let name : length (number_written number) ≡ 8 = refl in
      let a = varint_short target.end in
      let b = varint_short 0 in
      let c = varint_short (length the_answered.proof.digests) in
      let d = varint_short (length the_answered.operations) in
      let one = length-append (varint target.end) (varint 0) in
      let two = length-append (varint (length the_answered.proof.digests)) (flat_map (λ (digest : List ℕ). digest) the_answered.proof.digests) in
      let three = length-append (varint target.end ++ varint 0) (list_written (λ (digest : List ℕ). digest) the_answered.proof.digests) in
      let four = length-append (number_written number) (proof_written the_answered.proof) in
      let five = length-append (varint (length the_answered.operations)) (flat_map written the_answered.operations) in
      let six = length-append (number_written number ++ proof_written the_answered.proof) (list_written written the_answered.operations) in
      let seven = length-append ((number_written number ++ proof_written the_answered.proof) ++ list_written written the_answered.operations) (pinned_written the_answered.pinned_nodes) in
      omega arith
