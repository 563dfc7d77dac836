-- What a fresh database shows.
use Rattle.std.specs.Prelude.{◌≡◌, ℕ, List, Option, Some, None}
use Rattle.std.proofs.Common.{refl, sym, ap, ◌∙◌}
use Rattle.ledger_log.specs.View.{LogView, log_size, log_root, log_floor, floor_or_zero}
use Rattle.ledger_compact.specs.View.{CompactView, compact_of, kept_of, target_of, fresh_log}
use Rattle.ledger_databases.specs.Targets.{IsTargetOf, initial_target, initial_compact_target}

-- a fresh log has the initial target
pub fresh_log_has_target : {Op : Type 0} (hash : List ℕ → List ℕ) (spelling : Op → List ℕ) (floor_of : Op → Option ℕ) (commit_of : Option (List ℕ) → ℕ → Op) → ((metadata : Option (List ℕ)) (floor : ℕ) → floor_of (commit_of metadata floor) ≡ Some floor) →
    (log : LogView Op) → log ≡ fresh_log commit_of → IsTargetOf hash spelling floor_of log (initial_target hash spelling commit_of)
fresh_log_has_target hash spelling floor_of commit_of has log e = record {
  root = ap (log_root hash spelling) (sym e);
  start = sym (ap (log_floor floor_of) e ∙ ap floor_or_zero (has None 0));
  end = sym (ap log_size e);
}

-- so has a fresh log without its operations
pub fresh_compact_has_target : {Op : Type 0} (hash : List ℕ → List ℕ) (spelling : Op → List ℕ) (commit_of : Option (List ℕ) → ℕ → Op) (log : CompactView Op) →
    compact_of hash spelling (fresh_log commit_of) ≡ Some log → initial_compact_target hash spelling commit_of ≡ target_of hash log
fresh_compact_has_target hash spelling commit_of log e =
    let same : kept_of hash spelling (fresh_log commit_of) (commit_of None 0) ≡ log = cc e in
    ap (target_of hash) same
