use Rattle.std.proofs.Common.{◌≡◌, ◌-◌, ◌≤◌, All, take, length}
use Rattle.follow_laws.proofs.chained.see_digests.Given as goal

abbrev pub invariant-loop-at : goal.invariant-loop-at
invariant-loop-at l = record {
  to : l.at ≤ length l.digests;
  end : l.end ≡ length l.digests;
  seen : All (λ digest. length digest ≡ 32) (take l.at l.digests);
}

abbrev pub decreases-loop-at : goal.decreases-loop-at
decreases-loop-at l = length l.digests - l.at
