use Rattle.std.proofs.Common.{rules, ◌≡◌, ◌+◌, ◌<◌, ◌≤◌, length, arith, refl}
use borrow.Author.Tests.{tests}
use Rattle.follow_laws.proofs.Digests.{seen_more, seen_all}
use Rattle.follow_laws.proofs.chained.see_digests.Goals as goal

pub loop-at-preserved : goal.loop-at-preserved
loop-at-preserved c =
    let lt : c.loop-at.at < length c.args.digests.now = search (rules, tests) in
    record { to = omega arith; end = refl; seen = seen_more c.args.digests.now c.loop-at.at lt c.loop-at.invariant.seen c.see_digest.ensures }

pub returns : goal.returns
returns c =
    let le : length c.args.digests.now ≤ c.loop-at.at = search (rules, tests) in
    seen_all c.args.digests.now c.loop-at.at le c.loop-at.invariant.seen
