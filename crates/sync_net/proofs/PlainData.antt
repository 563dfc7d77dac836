-- The reply over a log's data has the bytes of the reply over the log.
use Rattle.std.proofs.Common.{◌≡◌, ℕ, ◌+◌, ◌-◌, Bool, true, false, nat_lt, List, ◌++◌, length, take, drop, Option, Some, None, refl, sym, ap, ◌∙◌}
use Rattle.std.specs.Prelude.{map}
use Rattle.std.specs.List.{flat_map}
use Rattle.std.proofs.lemmas.List.{map-id, length-map, take-map, drop-map}
use Rattle.std.proofs.lemmas.List.Folds.{flat_map-map}
use Rattle.sha2.specs.Sha256.{sha256}
use Rattle.ledger_codec.specs.Numbers.{varint}
use Rattle.ledger_codec.specs.Sequences.{list_written, string_written}
use Rattle.ledger_merkle.specs.Leaves.{leaves_from}
use Rattle.ledger_merkle.specs.Levels.{proof_digests}
use Rattle.ledger_merkle.specs.Tree.{grow, root}
use Rattle.ledger_log.specs.View.{LogView, log_size, log_root, log_list, log_range, log_peaks_at}
use Rattle.sync_net.specs.declared.ask.Ask.{Ask}
use Rattle.sync_net.specs.declared.ask.Ask.TheVariants as asks
use Rattle.sync_net.specs.declared.message.Message.{Message}
use Rattle.sync_net.specs.Asks.{request_of}
use Rattle.sync_net.specs.Messages.{message_written}
use Rattle.sync_net.specs.Core.{Refusal, range_refused, served_count, pinned_for, operations_answer, operations_or, target_answer, core}

-- a log whose operations are given by their bytes
abbrev pub plain : {Op : Type 0} → (Op → List ℕ) → LogView Op → LogView (List ℕ)
plain spelling log = record { front = log.front; pinned = log.pinned; ops = map spelling log.ops }

-- a message of plain operations
abbrev plain_written : Message (List ℕ) → List ℕ
plain_written m = message_written (λ op. op) m

-- so many bytes' worth of operations
list_same : {Op : Type 0} (spelling : Op → List ℕ) (xs : List Op) → list_written (λ op. op) (map spelling xs) ≡ list_written spelling xs
list_same spelling xs = rw (length-map xs spelling, flat_map-map (λ op. op) spelling xs) refl

range_same : {Op : Type 0} (spelling : Op → List ℕ) (xs : List Op) (n k : ℕ) → take n (drop k (map spelling xs)) ≡ map spelling (take n (drop k xs))
range_same spelling xs n k = ap (λ (l : List (List ℕ)). take n l) (drop-map spelling k xs) ∙ take-map spelling n (drop k xs)

peaks_same : {Op : Type 0} (hash : List ℕ → List ℕ) (spelling : Op → List ℕ) (log : LogView Op) (at : ℕ) → log_peaks_at hash (λ op. op) (plain spelling log) at ≡ log_peaks_at hash spelling log at
peaks_same hash spelling log at =
    ap (λ (l : List (List ℕ)). grow hash log.front log.pinned l) (map-id (take (at - log.front) (map spelling log.ops)) ∙ take-map spelling (at - log.front) log.ops)

size_same : {Op : Type 0} (spelling : Op → List ℕ) (log : LogView Op) → log_size (plain spelling log) ≡ log_size log
size_same spelling log = ap (λ (n : ℕ). log.front + n) (length-map log.ops spelling)

root_same : {Op : Type 0} (hash : List ℕ → List ℕ) (spelling : Op → List ℕ) (log : LogView Op) → log_root hash (λ op. op) (plain spelling log) ≡ log_root hash spelling log
root_same hash spelling log =
    ap (λ (n : ℕ). root hash n (grow hash log.front log.pinned (map (λ op. op) (map spelling log.ops)))) (size_same spelling log)
    ∙ ap (λ (l : List (List ℕ)). root hash (log_size log) (grow hash log.front log.pinned l)) (map-id (map spelling log.ops))

-- one refusal has one spelling, whatever the operations
refusal_same : {Op : Type 0} (spelling : Op → List ℕ) (number : ℕ) (refused : Option Refusal) (a : Message (List ℕ)) (b : Message Op) → plain_written a ≡ message_written spelling b
    → plain_written (operations_or refused number a) ≡ message_written spelling (operations_or refused number b)
refusal_same spelling number (Some refusal) a b e = refl
refusal_same spelling number None a b e = e

answer_same : {Op : Type 0} (hash : List ℕ → List ℕ) (spelling : Op → List ℕ) (log : LogView Op) (number count start served : ℕ) (pinned : Bool)
    → plain_written (operations_answer hash (λ op. op) (plain spelling log) number count start served pinned) ≡ message_written spelling (operations_answer hash spelling log number count start served pinned)
answer_same hash spelling log number count start served pinned =
    let digests : proof_digests hash (log_list hash (λ op. op) (plain spelling log)) count start served ≡ proof_digests hash (log_list hash spelling log) count start served =
    ap (λ (l : List (List ℕ)). proof_digests hash (record { front = log.front; pinned = log.pinned; leaves = leaves_from hash log.front l }) count start served) (map-id (map spelling log.ops)) in
    let ops : list_written (λ op. op) (log_range (plain spelling log) start served) ≡ list_written spelling (log_range log start served) =
    ap (λ (l : List (List ℕ)). list_written (λ op. op) l) (range_same spelling log.ops served (start - log.front)) ∙ list_same spelling (log_range log start served) in
    let nodes : pinned_for pinned (log_peaks_at hash (λ op. op) (plain spelling log) start) ≡ pinned_for pinned (log_peaks_at hash spelling log start) = ap (pinned_for pinned) (peaks_same hash spelling log start) in
    rw (digests, ops, nodes) refl

target_same : {Op : Type 0} (spelling : Op → List ℕ) (ordered : Bool) (number : ℕ) (root : List ℕ) (start end : ℕ) (less : nat_lt start end ≡ ordered)
    → plain_written (target_answer ordered number root start end less) ≡ message_written spelling (target_answer ordered number root start end less)
target_same spelling true number root start end less = refl
target_same spelling false number root start end less = refl

-- the target of so many operations with this root
abbrev sized : ℕ → ℕ → List ℕ → ℕ → Message (List ℕ)
sized number floor root size = target_answer (nat_lt floor size) number root floor size refl

-- the reply to a request has the same bytes over the log and over its data
pub reply_same : {Op : Type 0} (hash : List ℕ → List ℕ) (spelling : Op → List ℕ) (floor : ℕ) (log : LogView Op) (number : ℕ) (ask : Ask)
    → message_written (λ op. op) (core hash (λ op. op) floor (plain spelling log) (request_of number ask)) ≡ message_written spelling (core hash spelling floor log (request_of number ask))
reply_same hash spelling floor log number (asks.Operations count start max_ops pinned) =
    ap (λ (n : ℕ). plain_written (operations_or (range_refused log.front n count start) number (operations_answer hash (λ op. op) (plain spelling log) number count start (served_count n count start max_ops.value) pinned))) (size_same spelling log)
    ∙ refusal_same spelling number (range_refused log.front (log_size log) count start) _ _ (answer_same hash spelling log number count start (served_count (log_size log) count start max_ops.value) pinned)
reply_same hash spelling floor log number asks.SyncTarget =
    ap (λ (n : ℕ). plain_written (sized number floor (log_root hash (λ op. op) (plain spelling log)) n)) (size_same spelling log)
    ∙ (ap (λ (r : List ℕ). plain_written (sized number floor r (log_size log))) (root_same hash spelling log)
    ∙ target_same spelling (nat_lt floor (log_size log)) number (log_root hash spelling log) floor (log_size log) refl)
reply_same hash spelling floor log number asks.CompactTarget = refl
reply_same hash spelling floor log number (asks.CompactState target) = refl
