use Rattle.std.proofs.Common.{◌≡◌, ◌+◌, ◌++◌, Some, length, map, count_ones, sym, ap, subst, ◌∙◌, arith}
use Rattle.std.proofs.lemmas.List.{length-append, length-map}
use Rattle.ledger_merkle.specs.Leaves.{ListView, leaves_from, list_size}
use Rattle.ledger_merkle.proofs.Levels.{length-leaves_from}
use Rattle.ledger_log.specs.View.{LogView, log_size, last_floor}
use Rattle.ledger_log.specs.Index.{IsIndex, retained}
use Rattle.ledger_log.proofs.Floors.{last_floor-batches}
use Rattle.ledger_log.proofs.Indexing.{index_more}
use Rattle.ledger_log.proofs.Logs.{leaves_more}
use Rattle.ledger_log.proofs.log.Log.append_batches.Goals as goal

pub invariant_of-self-2 : goal.invariant_of-self-2
invariant_of-self-2 g c =
    let hash = g.H.Hasher.digest in
    let spelling = g.F.Op.Leaf.spelling in
    let f = g.F.Family.floor_of in
    let w = g.F.Family.write_of in
    let inv = c.self.invariant in
    let v = c.self.inside.list in
    let ops = c.self.inside.ops in
    let more = c.args.ops.now in
    let new = c.extend_all.new.list in
    let all = c.extend_all.new.ops in
    let log : LogView g.row.F-Op.Denot = record { front = v.front; pinned = v.pinned; ops = ops } in
    let is = c.in_ok-extend_all.ensures.leaves in
    let whole : all ≡ ops ++ more = c.in_ok-extend_all.ensures.ops in
    let front : new.front ≡ v.front = ap (λ (x : ListView). x.front) is in
    let pinned : new.pinned ≡ v.pinned = ap (λ (x : ListView). x.pinned) is in
    let size : list_size v ≡ log_size log = omega (arith, inv.2) in
    let leaves : new.leaves ≡ leaves_from hash v.front (map spelling (ops ++ more)) =
    ap (λ (x : ListView). x.leaves) is ∙ (ap (λ z. z ++ leaves_from hash (list_size v) (map spelling more)) inv.3 ∙ leaves_more hash spelling log more (list_size v) size) in
    let long : length all ≡ length ops + length more = ap length whole ∙ length-append ops more in
    let many : length new.leaves ≡ length all = ap length leaves ∙ (length-leaves_from hash v.front (map spelling (ops ++ more)) ∙ (length-map (ops ++ more) spelling ∙ ap length (sym whole))) in
    let batch : last_floor f more ≡ Some c.in-Some.floor = sym c.in-Some.ensures.floor in
    let at : c.get-5.result ≡ v.front + length ops = c.get-5.ensures.same ∙ (c.size-old_size.ensures.size ∙ sym (ap log_size c.self.view_is)) in
    let held : IsIndex w c.extend_all.new.index v.front ops = λ k. ap (retained v.front) (c.extend_all.ensures.same k) ∙ inv.7 k in
    let index : IsIndex w c.note.new.index v.front (ops ++ more) = index_more w c.extend_all.new.index c.note.new.index v.front c.get-5.result ops more held at c.note.ensures in (
      ap length pinned ∙ (inv.0 ∙ ap count_ones (sym front)),
      omega (arith, inv.1),
      many,
      leaves ∙ (ap (λ z. leaves_from hash z (map spelling (ops ++ more))) (sym front) ∙ ap (λ z. leaves_from hash new.front (map spelling z)) (sym whole)),
      ap (last_floor f) whole ∙ last_floor-batches f ops more c.in-Some.floor batch,
      omega (arith, inv.5),
      omega arith,
      subst (λ z. IsIndex w c.note.new.index new.front z) (sym whole) (subst (λ z. IsIndex w c.note.new.index z (ops ++ more)) (sym front) index),
    )
