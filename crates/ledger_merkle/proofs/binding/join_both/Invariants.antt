use Rattle.std.proofs.Common.{◌≡◌, ◌≤◌, length, take, reverse}
use Rattle.ledger_merkle.specs.Tree.{join}
use Rattle.ledger_merkle.proofs.binding.join_both.Given as goal

abbrev pub invariant-loop-kept : goal.invariant-loop-kept
invariant-loop-kept g l = record {
  within : l.kept ≤ length l.lefts;
  left : join g.H.Hasher.digest l.rest (reverse (take l.kept l.lefts)) l.left ≡ join g.H.Hasher.digest l.fn.size (reverse l.lefts) l.fn.one;
  right : join g.H.Hasher.digest l.rest (reverse (take l.kept l.rights)) l.right ≡ join g.H.Hasher.digest l.fn.size (reverse l.rights) l.fn.other;
  same : take l.kept l.lefts ≡ take l.kept l.rights → l.left ≡ l.right → (l.lefts ≡ l.rights) × (l.fn.one ≡ l.fn.other);
  kept : l.lefts ≡ l.rights → l.fn.one ≡ l.fn.other → l.left ≡ l.right;
}

abbrev pub decreases-loop-kept : goal.decreases-loop-kept
decreases-loop-kept g l = l.kept
