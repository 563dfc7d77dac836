use Rattle.std.proofs.Common.{◌≡◌, ◌+◌, ◌∙◌, [], length, sym, ap, subst, arith}
use Rattle.ledger_log.specs.View.{log_size}
use Rattle.ledger_log.specs.Index.{IsIndex}
use Rattle.ledger_log.proofs.Living.{Walked, walk_begins, walk_on}
use Rattle.ledger_log.proofs.log.Log.living_behind.Goals as goal

pub loop-later-init : goal.loop-later-init
loop-later-init g c =
    let w = g.F.Family.write_of in
    let log = c.args.self.now in
    let more = c.args.more.now in
    let one : c.get.result ≡ log_size log = c.get.ensures.same ∙ c.size.ensures.size in
    let two : c.get-2.result ≡ log_size log = c.get-2.ensures.same ∙ c.size-2.ensures.size in
    let index : IsIndex w c.in_ok-later.later (log_size log) more = subst (λ n. IsIndex w c.in_ok-later.later n more) one c.in_ok-later.ensures in
    let lemma : Walked w log more c.args.loc c.args.limit (c.get-2.result + length more) c.in_ok-later.later c.max-at.result [] =
    walk_begins w log more c.args.loc c.args.limit (c.get-2.result + length more) c.in_ok-later.later c.max-at.result (rw (← c.get-3.ensures.same, ← c.front.ensures.front, ← c.get-4.ensures.same) c.max-at.ensures) (ap (λ n. n + length more) two) index in
    subst (λ l. Walked w log more c.args.loc c.args.limit (c.get-2.result + length more) c.in_ok-later.later c.max-at.result l) (sym c.new-found.ensures.items) lemma

pub loop-later-preserved : goal.loop-later-preserved
loop-later-preserved g c =
    walk_on g.F.Family.write_of c.args.self.now c.args.more.now c.args.loc c.args.limit (c.get-2.result + length c.args.more.now) c.in_ok-later.later c.loop-later.at c.loop-later.found.items c.find_at.new.found.items
    c.loop-later.invariant (omega arith) c.in_ok-find_at.ensures.few c.in_ok-find_at.ensures.all
