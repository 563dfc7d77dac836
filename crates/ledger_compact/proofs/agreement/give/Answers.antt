use Rattle.std.proofs.Common.{◌≡◌, ap, sym, ◌∙◌}
use Rattle.ledger_log.specs.Faults.{append_refusal}
use Rattle.ledger_compact.specs.Refusals.{compact_refusal}
use Rattle.ledger_compact.specs.Batches.{after_answer}
use Rattle.ledger_compact.proofs.Kept.{kept_refusal}
use Rattle.ledger_compact.proofs.Batches.{after_told, both_told}
use Rattle.ledger_compact.proofs.agreement.give.Goals as goal

pub returns-clause-full_answer : goal.returns-clause-full_answer
returns-clause-full_answer g c = c.in_ok-from_full.ensures.fault (append_refusal g.F.Family.floor_of c.args.full.now c.args.ops.now) c.append_batch.ensures.refusal

pub returns-clause-compact_answer : goal.returns-clause-compact_answer
returns-clause-compact_answer g c =
    let f = g.F.Family.floor_of in
    c.in_ok-from_compact.ensures.fault (compact_refusal f c.args.compact.now c.args.ops.now) c.append_batch-2.ensures.refusal
    ∙ kept_refusal g.H.Hasher.digest g.F.Op.Leaf.spelling c.args.full.now c.args.compact.now c.requires f c.args.ops.now

pub returns-clause-full : goal.returns-clause-full
returns-clause-full g c =
    let ops = c.args.ops.now in
    let told : c.in_ok-from_full.from_full ≡ append_refusal g.F.Family.floor_of c.args.full.now ops = c.in_ok-from_full.ensures.fault (append_refusal g.F.Family.floor_of c.args.full.now ops) c.append_batch.ensures.refusal in
    after_told ops c.in_ok-from_full.from_full c.append_batch.result c.args.full.now c.append_batch.new.self c.in_ok-from_full.ensures.ok c.append_batch.ensures.ok c.append_batch.ensures.err
    ∙ ap (λ o. after_answer o c.args.full.now ops) told

pub returns-clause-compact : goal.returns-clause-compact
returns-clause-compact g c =
    let hash = g.H.Hasher.digest in
    let spelling = g.F.Op.Leaf.spelling in
    let f = g.F.Family.floor_of in
    let ops = c.args.ops.now in
    let from_full = c.in_ok-from_full.ensures.fault (append_refusal f c.args.full.now ops) c.append_batch.ensures.refusal in
    let from_compact = c.in_ok-from_compact.ensures.fault (compact_refusal f c.args.compact.now ops) c.append_batch-2.ensures.refusal
    ∙ kept_refusal hash spelling c.args.full.now c.args.compact.now c.requires f ops in
    let full = after_told ops c.in_ok-from_full.from_full c.append_batch.result c.args.full.now c.append_batch.new.self c.in_ok-from_full.ensures.ok c.append_batch.ensures.ok c.append_batch.ensures.err in
    both_told ops hash spelling c.in_ok-from_compact.from_compact c.append_batch-2.result c.args.full.now c.append_batch.new.self c.args.compact.now c.append_batch-2.new.self
    (full ∙ ap (λ o. after_answer o c.args.full.now ops) (from_full ∙ sym from_compact))
    c.requires
    c.in_ok-from_compact.ensures.ok
    c.append_batch-2.ensures.stands
    c.append_batch-2.ensures.err
