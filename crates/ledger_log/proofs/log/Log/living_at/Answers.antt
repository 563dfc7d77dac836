use Rattle.std.proofs.Common.{◌≡◌, ◌+◌, ◌-◌, ◌<◌, ◌≤◌, ◌++◌, ◌∷◌, List, length, drop, Some, refl, sym, ap, subst, ◌∙◌, arith}
use Rattle.std.proofs.lemmas.List.{length-append}
use Rattle.ledger_log.specs.View.{LogView, log_size}
use Rattle.ledger_log.specs.Index.{end_after, last_write}
use Rattle.ledger_log.proofs.Living.{write_is, counted, uncounted}
use Rattle.ledger_log.proofs.log.Log.living_at.Goals as goal

pub returns-then-end_behind-at : goal.returns-then-end_behind-at
returns-then-end_behind-at g c =
    let w = g.F.Family.write_of in
    let log = c.args.self.now in
    let L = log.ops ++ c.args.more.now in
    let at = c.args.at in
    let x = c.pick-op.result.now in
    let k = c.in_ok-key.key in
    let v = c.in_ok-written_value.field-0 in
    let ops : c.as_slice.result.now ≡ log.ops = c.as_slice.ensures ∙ ap (λ (z : LogView g.row.F-Op.Denot). z.ops) c.self.view_is in
    let front : c.get.result ≡ log.front = c.get.ensures.same ∙ (c.front.ensures.front ∙ ap (λ (z : LogView g.row.F-Op.Denot). z.front) c.self.view_is) in
    let here : drop (at - log.front) L ≡ x ∷ drop (at - log.front + 1) L = subst (λ n. drop (at - n) L ≡ x ∷ drop (at - n + 1) L) front (subst (λ z. drop (at - c.get.result) (z ++ c.args.more.now) ≡ x ∷ drop (at - c.get.result + 1) (z ++ c.args.more.now)) ops c.pick-op.ensures) in
    let write = write_is (w x) k v (sym c.written_key.ensures ∙ c.in_ok-key.was) (sym c.written_value.ensures ∙ c.in_ok-written_value.was) in
    counted w log.front at L x k v c.end_behind.result c.requires.least (omega (arith, length-append log.ops c.args.more.now, c.requires.most, c.requires.least)) here write (c.end_behind.ensures c.args.more.now c.requires.later) c.if-end_behind-at.true

pub returns-else-end_behind-at : goal.returns-else-end_behind-at
returns-else-end_behind-at g c =
    let w = g.F.Family.write_of in
    let log = c.args.self.now in
    let L = log.ops ++ c.args.more.now in
    let at = c.args.at in
    let x = c.pick-op.result.now in
    let k = c.in_ok-key.key in
    let v = c.in_ok-written_value.field-0 in
    let ops : c.as_slice.result.now ≡ log.ops = c.as_slice.ensures ∙ ap (λ (z : LogView g.row.F-Op.Denot). z.ops) c.self.view_is in
    let front : c.get.result ≡ log.front = c.get.ensures.same ∙ (c.front.ensures.front ∙ ap (λ (z : LogView g.row.F-Op.Denot). z.front) c.self.view_is) in
    let here : drop (at - log.front) L ≡ x ∷ drop (at - log.front + 1) L = subst (λ n. drop (at - n) L ≡ x ∷ drop (at - n + 1) L) front (subst (λ z. drop (at - c.get.result) (z ++ c.args.more.now) ≡ x ∷ drop (at - c.get.result + 1) (z ++ c.args.more.now)) ops c.pick-op.ensures) in
    let write = write_is (w x) k v (sym c.written_key.ensures ∙ c.in_ok-key.was) (sym c.written_value.ensures ∙ c.in_ok-written_value.was) in
    uncounted w log.front at L x k v c.end_behind.result c.requires.least (omega (arith, length-append log.ops c.args.more.now, c.requires.most, c.requires.least)) here write (c.end_behind.ensures c.args.more.now c.requires.later) c.if-end_behind-at.false
