-- A state that would be taken is within the limits of a message.
use Rattle.std.proofs.Common.{◌≡◌, ℕ, ◌-◌, ◌^◌, ◌≤◌, ◌&&◌, Bool, true, false, if◌then◌else◌, nat_eq, nat_lt, List, length, count_ones, Option, Some, None, option_map, refl, subst, arith}
use Rattle.std.specs.Str.{bytes_eq}
use Rattle.std.proofs.lemmas.Bool.Decides.{nat_tests}
use Rattle.ledger_merkle.specs.Tree.{root}
use Rattle.ledger_merkle.specs.declared.proof.Proof.{Proof}
use Rattle.ledger_log.specs.Spellings.{CompactStateFits}
use Rattle.ledger_log.specs.declared.target.CompactState.{CompactState}
use Rattle.ledger_log.specs.declared.fault.LogFault.{LogFault}
use Rattle.ledger_compact.specs.View.{CompactView, target_of, state_of}
use Rattle.ledger_compact.specs.Refusals.{proves_last, commit_refusal, state_refusal}
use Rattle.ledger_compact.proofs.States.{passed_is_right}
use Rattle.sync_net.proofs.Limits.{needed_few, ones_most}

-- a test before a refusal passed
passed : (b : Bool) (rest : Option LogFault) (fault : LogFault) → (if b then rest else Some fault) ≡ None → (b ≡ true) × (rest ≡ None)
passed true rest fault e = (refl, e)
passed false rest fault e = absurd cc

-- an operation that is no refused commit is proved
proved : (b : Bool) (size : ℕ) (floor : Option ℕ) → commit_refusal b size floor ≡ None → b ≡ true
proved true size floor e = refl
proved false size None e = absurd cc
proved false size (Some floor) e = absurd cc

module _ {Op : Type 0} where
  -- a state that is told of a compact log, and would be taken
  fits_of : (hash : List ℕ → List ℕ) (spelling : Op → List ℕ) (floor_of : Op → Option ℕ) (log : CompactView Op) → log.size ≤ 2 ^ 62 →
      state_refusal hash spelling floor_of (target_of hash log) (state_of log) ≡ None → CompactStateFits (λ op. Unit {0}) (state_of log)
  fits_of hash spelling floor_of log most e =
      let the_root = root hash log.size log.nodes in
      let proof : Proof = record { leaves = log.size; inactive_peaks = 0; digests = log.before } in
      let sized = passed (nat_eq log.size log.size && nat_lt 0 log.size) _ _ e in
      let counted = passed (nat_eq (length log.nodes) (count_ones log.size)) _ _ sized.1 in
      let rooted = passed (bytes_eq the_root the_root) _ _ counted.1 in
      let right = passed_is_right hash the_root log.size (spelling log.last) proof (proved (proves_last hash the_root log.size (spelling log.last) proof) log.size (floor_of log.last) rooted.1) in
      let nodes : length log.nodes ≡ count_ones log.size = grind (arith, nat_tests, counted.0) in
      record {
        pinned_nodes = omega (arith, nodes, ones_most log.size most);
        last_commit_op = tt;
        last_commit_proof = omega (arith, right.2, needed_few log.size (log.size - 1) 1);
      }

  -- the same, where it is the state of what is kept of a log
  pub state_fits : (hash : List ℕ → List ℕ) (spelling : Op → List ℕ) (floor_of : Op → Option ℕ) (kept : Option (CompactView Op)) (state : CompactState Op) → state.leaf_count ≤ 2 ^ 62 →
      option_map state_of kept ≡ Some state → ((log : CompactView Op) → kept ≡ Some log → state_refusal hash spelling floor_of (target_of hash log) (state_of log) ≡ None) → CompactStateFits (λ op. Unit {0}) state
  state_fits hash spelling floor_of None state most e taken = absurd cc
  state_fits hash spelling floor_of (Some log) state most e taken =
      let same : state_of log ≡ state = cc in
      subst (λ (s : CompactState Op). s.leaf_count ≤ 2 ^ 62 → CompactStateFits (λ op. Unit {0}) s) same (λ m. fits_of hash spelling floor_of log m (taken log refl)) most
