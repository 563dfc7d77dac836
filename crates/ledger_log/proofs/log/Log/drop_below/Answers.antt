use Rattle.std.proofs.Common.{◌≡◌, ℕ, ◌-◌, ◌<◌, ◌≤◌, List, length, drop, map, count_ones, sym, ap, subst, ◌∙◌, arith}
use Rattle.std.proofs.lemmas.List.{length-drop}
use Rattle.ledger_merkle.specs.Leaves.{ListView, leaves_from, list_size, peaks_at}
use Rattle.ledger_merkle.proofs.Pruned.{pruned_count}
use Rattle.ledger_log.specs.View.{LogView, KeptAbove, log_list, log_peaks_at, log_floor, last_floor, floor_or_zero}
use Rattle.ledger_log.specs.Index.{IsIndex, end_at, retained}
use Rattle.ledger_log.proofs.Floors.{last_floor-drop}
use Rattle.ledger_log.proofs.Indexing.{index_pruned}
use Rattle.ledger_log.proofs.Logs.{leaves_below, view_below, kept_above}
use Rattle.ledger_log.proofs.log.Log.drop_below.Goals as goal

pub invariant_of-self-2 : goal.invariant_of-self-2
invariant_of-self-2 g c =
    let hash = g.H.Hasher.digest in
    let spelling = g.F.Op.Leaf.spelling in
    let f = g.F.Family.floor_of in
    let w = g.F.Family.write_of in
    let inv = c.self.invariant in
    let v = c.self.inside.list in
    let ops = c.self.inside.ops in
    let loc = c.args.loc in
    let n = loc - v.front in
    let new = c.prune.new.self in
    let left = c.skip.new.self in
    let log : LogView g.row.F-Op.Denot = record { front = v.front; pinned = v.pinned; ops = ops } in
    let least : v.front ≤ loc = subst (λ (x : LogView g.row.F-Op.Denot). x.front ≤ loc) (sym c.self.view_is) c.requires.least in
    let floor : log_floor f log ≡ c.self.inside.floor = ap floor_or_zero inv.4 in
    let most : loc ≤ log_floor f log = subst (λ (x : LogView g.row.F-Op.Denot). loc ≤ log_floor f x) (sym c.self.view_is) c.requires.most in
    let within : n < length ops = omega (arith, inv.6) in
    let size : loc ≤ list_size v = omega (arith, inv.6, inv.2) in
    let count : c.get.result - c.get-front.result ≡ n = omega arith in
    let is = c.in_ok-prune.ensures.ok in
    let front : new.front ≡ loc = ap (λ (x : ListView). x.front) is in
    let pinned : new.pinned ≡ peaks_at hash v loc = ap (λ (x : ListView). x.pinned) is in
    let leaves : new.leaves ≡ drop n v.leaves = ap (λ (x : ListView). x.leaves) is in
    let rest : left ≡ drop n ops = c.skip.ensures ∙ ap (λ z. drop z ops) count in
    let long : length left ≡ length ops - n = ap length rest ∙ length-drop n ops in
    let many : length new.leaves ≡ length v.leaves - n = ap length leaves ∙ length-drop n v.leaves in
    let below : new.leaves ≡ leaves_from hash loc (map spelling (drop n ops)) = leaves ∙ (ap (drop n) inv.3 ∙ leaves_below hash spelling log loc least) in
    let index : IsIndex w c.forget.new.index loc (drop n ops) = index_pruned w c.self.inside.index c.forget.new.index v.front loc n ops inv.7 (omega arith) (omega arith)
    (subst (λ z. (k : List ℕ) → retained z (end_at c.forget.new.index k) ≡ retained z (end_at c.self.inside.index k)) c.get-2.ensures.same c.forget.ensures) in (
      ap length pinned ∙ (pruned_count hash v loc inv.0 least size ∙ ap count_ones (sym front)),
      omega (arith, inv.1),
      omega (arith, inv.2),
      below ∙ (ap (λ z. leaves_from hash z (map spelling (drop n ops))) (sym front) ∙ ap (λ z. leaves_from hash new.front (map spelling z)) (sym rest)),
      ap (last_floor f) rest ∙ (last_floor-drop f n ops within ∙ inv.4),
      omega arith,
      omega (arith, inv.6),
      subst (λ z. IsIndex w c.forget.new.index new.front z) (sym rest) (subst (λ z. IsIndex w c.forget.new.index z (drop n ops)) (sym front) index),
    )

pub returns-clause-ok : goal.returns-clause-ok
returns-clause-ok g c =
    let hash = g.H.Hasher.digest in
    let spelling = g.F.Op.Leaf.spelling in
    let v = c.self.inside.list in
    let ops = c.self.inside.ops in
    let loc = c.args.loc in
    let log : LogView g.row.F-Op.Denot = record { front = v.front; pinned = v.pinned; ops = ops } in
    let least : v.front ≤ loc = subst (λ (x : LogView g.row.F-Op.Denot). x.front ≤ loc) (sym c.self.view_is) c.requires.least in
    let count : c.get.result - c.get-front.result ≡ loc - v.front = omega arith in
    let rest : c.skip.new.self ≡ drop (loc - v.front) ops = c.skip.ensures ∙ ap (λ z. drop z ops) count in
    let same : v ≡ log_list hash spelling log = ap (λ z. record { front = v.front; pinned = v.pinned; leaves = z }) c.self.invariant.3 in
    view_below hash spelling log loc v c.prune.new.self c.skip.new.self same c.in_ok-prune.ensures.ok rest
    ∙ ap (λ (x : LogView g.row.F-Op.Denot). record { front = loc; pinned = log_peaks_at hash spelling x loc; ops = drop (loc - x.front) x.ops }) c.self.view_is

pub returns-clause-kept : goal.returns-clause-kept
returns-clause-kept g c =
    let hash = g.H.Hasher.digest in
    let spelling = g.F.Op.Leaf.spelling in
    let v = c.self.inside.list in
    let ops = c.self.inside.ops in
    let loc = c.args.loc in
    let new = c.prune.new.self in
    let left = c.skip.new.self in
    let log : LogView g.row.F-Op.Denot = record { front = v.front; pinned = v.pinned; ops = ops } in
    let least : v.front ≤ loc = subst (λ (x : LogView g.row.F-Op.Denot). x.front ≤ loc) (sym c.self.view_is) c.requires.least in
    let count : c.get.result - c.get-front.result ≡ loc - v.front = omega arith in
    let rest : left ≡ drop (loc - v.front) ops = c.skip.ensures ∙ ap (λ z. drop z ops) count in
    let same : v ≡ log_list hash spelling log = ap (λ z. record { front = v.front; pinned = v.pinned; leaves = z }) c.self.invariant.3 in
    subst (λ (x : LogView g.row.F-Op.Denot). KeptAbove hash spelling x (record { front = new.front; pinned = new.pinned; ops = left })) c.self.view_is
    (kept_above hash spelling log loc least v new same c.in_ok-prune.ensures.ok left rest c.in_ok-prune.ensures.kept)
