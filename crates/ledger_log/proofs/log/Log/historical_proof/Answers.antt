use Rattle.std.proofs.Common.{◌≡◌, ◌-◌, ◌≤◌, take, drop, map, sym, ap, subst, ◌∙◌, arith}
use Rattle.ledger_merkle.specs.Range.{RangeOk}
use Rattle.ledger_merkle.specs.Leaves.{ListView, leaves_from, root_at}
use Rattle.ledger_log.specs.View.{LogView}
use Rattle.ledger_log.proofs.Logs.{leaves_of_range, root_of_first}
use Rattle.ledger_log.proofs.log.Log.historical_proof.Goals as goal

pub returns-clause-holds : goal.returns-clause-holds
returns-clause-holds g c =
    let hash = g.H.Hasher.digest in
    let spelling = g.F.Op.Leaf.spelling in
    let log = c.args.self.now in
    let start = c.args.start_loc in
    let at = c.args.op_count in
    let n = c.min-count.result in
    let ops = c.in_ok-ops.ops.items in
    let proof = c.in_ok-proof.proof in
    let inside : c.as_slice.result.now ≡ log.ops = c.as_slice.ensures ∙ ap (λ (x : LogView g.row.F-Op.Denot). x.ops) c.self.view_is in
    let least : log.front ≤ start = omega arith in
    let place : c.get-8.result - c.get-9.result ≡ start - log.front = omega arith in
    let is : ops ≡ take n (drop (start - log.front) log.ops) =
    c.in_ok-ops.ensures ∙ (ap (λ z. take n (drop z c.as_slice.result.now)) place ∙ ap (λ z. take n (drop (start - log.front) z)) inside) in
    let same : leaves_from hash start (map spelling ops) ≡ take n (drop (start - c.list.result.now.front) c.list.result.now.leaves) =
    ap (λ z. leaves_from hash start (map spelling z)) is
    ∙ (leaves_of_range hash spelling log start n least ∙ ap (λ (v : ListView). take n (drop (start - v.front) v.leaves)) (sym c.list.ensures.list)) in
    subst (λ r. RangeOk hash r proof.leaves proof.inactive_peaks proof.digests at start (map spelling ops))
    (ap (λ (v : ListView). root_at hash v at) c.list.ensures.list ∙ root_of_first hash spelling log at)
    (c.in_ok-proof.ensures.holds (map spelling ops) same)
