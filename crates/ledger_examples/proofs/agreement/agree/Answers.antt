use Rattle.std.proofs.Common.{◌≡◌, Some, ap, sym, ◌∙◌}
use Rattle.ledger_log.specs.View.{log_size, log_floor, floor_or_zero}
use Rattle.ledger_compact.specs.View.{with_batch}
use Rattle.ledger_compact.proofs.Kept.{kept_size, kept_floor}
use Rattle.ledger_examples.specs.Batches.{first_refusal, added_batches, with_batches}
use Rattle.ledger_examples.proofs.Agreeing.{kept_batches}
use Rattle.ledger_examples.proofs.agreement.agree.Goals as goal

pub returns-clause-refusal : goal.returns-clause-refusal
returns-clause-refusal g c ops =
    let hash = g.H.Hasher.digest in
    let spelling = g.F.Op.Leaf.spelling in
    let f = g.F.Family.floor_of in
    let added = g.F.ExampleFamily.added_of in
    let log = c.args.full.now in
    let kept = c.args.compact.now in
    let size : kept.size ≡ log_size log = kept_size hash spelling log kept c.requires in
    let floor : floor_or_zero (f kept.last) ≡ log_floor f log = kept_floor hash spelling log kept c.requires f in
    ap (λ k. first_refusal f k (floor_or_zero (f kept.last)) (added_batches f added (floor_or_zero (f kept.last)) ops)) size
    ∙ ap (λ k. first_refusal f (log_size log) k (added_batches f added k ops)) floor

pub returns-clause-after : goal.returns-clause-after
returns-clause-after g c ops none =
    let hash = g.H.Hasher.digest in
    let spelling = g.F.Op.Leaf.spelling in
    let f = g.F.Family.floor_of in
    let added = g.F.ExampleFamily.added_of in
    let log = c.args.full.now in
    let kept = c.args.compact.now in
    let floor : floor_or_zero (f kept.last) ≡ log_floor f log = kept_floor hash spelling log kept c.requires f in
    kept_batches hash spelling f (added_batches f added (log_floor f log) ops) (log_size log) (log_floor f log) log kept none c.requires
    ∙ ap (λ k. Some (with_batches (with_batch hash spelling) kept (added_batches f added k ops))) (sym floor)

pub returns-clause-size : goal.returns-clause-size
returns-clause-size g c = kept_size g.H.Hasher.digest g.F.Op.Leaf.spelling c.args.full.now c.args.compact.now c.requires

pub returns-clause-floor : goal.returns-clause-floor
returns-clause-floor g c =
    let hash = g.H.Hasher.digest in
    let spelling = g.F.Op.Leaf.spelling in
    let f = g.F.Family.floor_of in
    let log = c.args.full.now in
    let kept = c.args.compact.now in
    ap (λ k. g.F.ExampleFamily.floor_shown k kept.size) (kept_floor hash spelling log kept c.requires f)
    ∙ ap (λ k. g.F.ExampleFamily.floor_shown (log_floor f log) k) (kept_size hash spelling log kept c.requires)
