use Rattle.sync_server.proofs.Texts.{empty_fits, beyond_fits}
use Rattle.sync_server.proofs.refusals.range_refusal.Goals as goal

pub returns-then-count-start-clause-limits : goal.returns-then-count-start-clause-limits
returns-then-count-start-clause-limits g c = empty_fits _ c.args.number c.args.start c.args.count _ c.refusal.ensures c.in_ok-text.ensures c.ranges.start.fits c.ranges.count.fits

pub returns-then-size-start-clause-limits : goal.returns-then-size-start-clause-limits
returns-then-size-start-clause-limits g c = beyond_fits _ c.args.number c.args.start c.args.size _ c.refusal-then-size-start.ensures c.in_ok-text-2.ensures c.ranges.start.fits c.ranges.size.fits
