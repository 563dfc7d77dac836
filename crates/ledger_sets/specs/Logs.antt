-- What full and compact logs mean to batches of sets.
use Rattle.std.specs.Prelude.{◌≡◌, ℕ, ◌+◌, List, ◌++◌, length, map, Some, unwrap_or}
use Rattle.std.proofs.Common.{refl, ap, sym, ◌∙◌, arith}
use Rattle.std.proofs.lemmas.List.{length-append, append_assoc, map-append, length-map}
use Rattle.ledger_merkle.specs.Tree.{grow, root}
use Rattle.ledger_merkle.proofs.Growing.{grow-append}
use Rattle.ledger_log.specs.Immutable.{immutable_spelling, immutable_floor}
use Rattle.ledger_log.specs.View.{LogView, log_floor, floor_or_zero, batch_floor}
use Rattle.ledger_log.specs.declared.immutable.ImmutableOp.{ImmutableOp}
use Rattle.ledger_log.proofs.Floors.{last_floor-batch}
use Rattle.ledger_compact.specs.View.{CompactView, last_op, with_ops, with_batch, compact_root}
use Rattle.ledger_compact.proofs.Ends.{batch_ends, batch_last, last_of_push}
use Rattle.ledger_chain.specs.Chain.{state_of}
use Rattle.ledger_chain.specs.declared.state.State.{State}
use Rattle.ledger_sets.specs.Meaning.{Meaning, Laws}

module _ (hash : List ℕ → List ℕ) where
  -- a full log
  abbrev pub log_meaning : Meaning (LogView ImmutableOp)
  log_meaning = record { state = state_of hash immutable_spelling; floor = log_floor immutable_floor; behind = with_ops }

  -- the state of a compact log
  abbrev pub compact_state : CompactView ImmutableOp → State
  compact_state log = record { size = log.size; root = compact_root hash log }

  -- a compact log
  abbrev pub compact_meaning : Meaning (CompactView ImmutableOp)
  compact_meaning = record { state = compact_state; floor = λ log. floor_or_zero (immutable_floor log.last); behind = with_batch hash immutable_spelling }

  abbrev with_list : LogView ImmutableOp → List ImmutableOp → LogView ImmutableOp
  with_list log ops = record { front = log.front; pinned = log.pinned; ops = ops }

  -- a full log keeps the laws
  pub log_laws : Laws log_meaning
  log_laws = record {
    size = λ log ops. omega (arith, length-append log.ops ops);
    floor = λ log ops floor e. ap floor_or_zero (last_floor-batch immutable_floor log.ops ops floor e);
    joined = λ log a b. ap (λ ops. state_of hash immutable_spelling (with_list log ops)) (append_assoc log.ops a b);
  }

  compact_floor : (log : CompactView ImmutableOp) (ops : List ImmutableOp) (floor : ℕ) → batch_floor immutable_floor ops ≡ Some floor → floor_or_zero (immutable_floor (with_batch hash immutable_spelling log ops).last) ≡ floor
  compact_floor log ops floor e =
      let end = batch_ends immutable_floor ops floor e in
      let last : last_op ops ≡ Some end.1 = ap last_op end.2 ∙ last_of_push end.0 end.1 in
      ap (λ o. floor_or_zero (immutable_floor (unwrap_or o log.last))) last ∙ ap floor_or_zero (batch_last immutable_floor ops end.0 end.1 floor end.2 e)

  abbrev state_from : ℕ → List (List ℕ) → State
  state_from size nodes = record { size = size; root = root hash size nodes }

  compact_joined : (log : CompactView ImmutableOp) (a b : List ImmutableOp) →
      compact_state (with_batch hash immutable_spelling (with_batch hash immutable_spelling log a) b) ≡ compact_state (with_batch hash immutable_spelling log (a ++ b))
  compact_joined log a b =
      let s = immutable_spelling in
      let size : log.size + length a + length b ≡ log.size + length (a ++ b) = omega (arith, length-append a b) in
      let nodes : grow hash (log.size + length a) (grow hash log.size log.nodes (map s a)) (map s b) ≡ grow hash log.size log.nodes (map s (a ++ b)) =
      sym (ap (grow hash log.size log.nodes) (map-append s a b)
      ∙ grow-append hash log.size log.nodes (map s a) (map s b)
      ∙ ap (λ k. grow hash (log.size + k) (grow hash log.size log.nodes (map s a)) (map s b)) (length-map a s)) in
      ap (λ k. state_from k (grow hash (log.size + length a) (grow hash log.size log.nodes (map s a)) (map s b))) size ∙ ap (state_from (log.size + length (a ++ b))) nodes

  -- a compact log keeps the laws
  pub compact_laws : Laws compact_meaning
  compact_laws = record { size = λ log ops. refl; floor = compact_floor; joined = compact_joined }
