use Rattle.std.proofs.Common.{◌≡◌, ◌-◌, ◌<◌, ◌≤◌, get_or, sym, ap, subst, ◌∙◌, arith}
use Rattle.ledger_log.specs.View.{value_written}
use Rattle.ledger_log.specs.Index.{end_at}
use Rattle.ledger_log.proofs.Indexing.{found_within, found_value, no_value}
use Rattle.ledger_log.proofs.index.look_up.Goals as goal

pub returns-then-end-front : goal.returns-then-end-front
returns-then-end-front g c =
    let key = c.args.key.now in
    let low : end_at c.args.index.now key ≤ c.args.front = subst (λ n. n ≤ c.args.front) c.end_of-end.ensures c.if-end-front.true in
    sym (no_value g.F.Family.write_of key c.args.index.now c.args.front c.args.ops.now c.requires low)

pub offset_bounds-ops-end : goal.offset_bounds-ops-end
offset_bounds-ops-end g c =
    let key = c.args.key.now in
    let same : c.end_of-end.result ≡ end_at c.args.index.now key = c.end_of-end.ensures in
    let high : c.args.front < end_at c.args.index.now key = omega arith in
    omega (arith, found_within g.F.Family.write_of key c.args.index.now c.args.front c.args.ops.now c.requires high)

pub bounds-ops-end : goal.bounds-ops-end
bounds-ops-end g c =
    let key = c.args.key.now in
    let same : c.end_of-end.result ≡ end_at c.args.index.now key = c.end_of-end.ensures in
    let high : c.args.front < end_at c.args.index.now key = omega arith in
    omega (arith, found_within g.F.Family.write_of key c.args.index.now c.args.front c.args.ops.now c.requires high)

pub returns : goal.returns
returns g c =
    let key = c.args.key.now in
    let w = g.F.Family.write_of in
    let ops = c.args.ops.now in
    let op = c.index-ops-end.result in
    let same : c.end_of-end.result ≡ end_at c.args.index.now key = c.end_of-end.ensures in
    let high : c.args.front < end_at c.args.index.now key = omega arith in
    c.written_value.ensures
    ∙ (ap (λ o. value_written (w o)) c.index-ops-end.is
    ∙ (ap (λ n. value_written (w (get_or ops (n - c.args.front - 1) op))) same ∙ sym (found_value w key c.args.index.now c.args.front ops op c.requires high)))
