use Rattle.std.proofs.Common.{◌≤◌, List, ℕ, arith, length, ap}
use Rattle.ledger_merkle.specs.Range.{RangeOk}
use Rattle.sync_net.proofs.Limits.{needed_few}
use Rattle.sync_server.proofs.operations.answer.Goals as goal

few : (hash : List ℕ → List ℕ) (root : List ℕ) (leaves inactive : ℕ) (digests : List (List ℕ)) (n start : ℕ) (items : List (List ℕ)) → RangeOk hash root leaves inactive digests n start items → length digests ≤ 10000
few hash root leaves inactive digests n start items h = omega (arith, h.2, needed_few n start (length items))

pub returns-in_ok-pinned_nodes-in-Ok-clause-limits : goal.returns-in_ok-pinned_nodes-in-Ok-clause-limits
returns-in_ok-pinned_nodes-in-Ok-clause-limits g c = record {
  proof = few g.H.Hasher.digest _ _ _ _ _ _ _ c.in-Ok.ensures.holds;
  operations = (omega (arith, ap length c.from_vec.ensures, c.in-Ok.ensures.count, c.batch_of-most.ensures), λ d k lt. tt);
  pinned_nodes = c.in_ok-pinned_nodes-in-Ok.ensures.limits;
}
