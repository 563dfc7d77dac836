use Rattle.std.proofs.Common.{◌≡◌, ◌+◌, ◌<◌, ◌≤◌, ◌++◌, List, length, None, refl, sym, ap, subst, ◌∙◌, arith}
use Rattle.ledger_log.specs.View.{LogView, log_size}
use Rattle.ledger_log.specs.Index.{IsIndex, end_at, retained, end_after, last_write}
use Rattle.ledger_log.proofs.Indexing.{retained_zero, retained_same}
use Rattle.ledger_log.proofs.Living.{end_later, end_earlier, none_later}
use Rattle.ledger_log.proofs.log.Log.end_behind.Goals as goal

pub returns-then-get-end : goal.returns-then-get-end
returns-then-get-end g c more i =
    let w = g.F.Family.write_of in
    let log = c.args.self.now in
    let key = c.args.key.now in
    let end = c.end_of-end.result in
    let long : c.self.inside.list.front + length c.self.inside.ops ≡ log_size log = ap log_size c.self.view_is in
    let size : c.get.result ≡ log_size log = omega (arith, c.get.ensures.same, c.size.ensures.size, c.self.invariant.2, long) in
    let is : end ≡ end_at c.args.later.now key = c.end_of-end.ensures in
    let high : log_size log < end_at c.args.later.now key = omega (arith, c.if-get-end.true) in
    let there : end ≡ end_after (log_size log) 0 (last_write w key more) = is ∙ (sym (retained_same (log_size log) (end_at c.args.later.now key) high) ∙ i key) in
    end_later w log.front (log_size log) end 0 key log.ops more refl (omega arith) there

pub returns-then-end-get : goal.returns-then-end-get
returns-then-end-get g c more i =
    let w = g.F.Family.write_of in
    let log = c.args.self.now in
    let key = c.args.key.now in
    let long : c.self.inside.list.front + length c.self.inside.ops ≡ log_size log = ap log_size c.self.view_is in
    let size : c.get.result ≡ log_size log = omega (arith, c.get.ensures.same, c.size.ensures.size, c.self.invariant.2, long) in
    let is : c.end_of-end.result ≡ end_at c.args.later.now key = c.end_of-end.ensures in
    let low : end_at c.args.later.now key ≤ log_size log = omega (arith, c.if-get-end.false) in
    let none : last_write w key more ≡ None = none_later (log_size log) 0 (last_write w key more) (omega arith) (sym (retained_zero (log_size log) (end_at c.args.later.now key) low) ∙ i key) in
    let own : IsIndex w c.self.inside.index log.front log.ops = subst (λ (x : LogView g.row.F-Op.Denot). IsIndex w c.self.inside.index x.front x.ops) c.self.view_is c.self.invariant.7 in
    let at : c.end_of-end-2.result ≡ end_at c.self.inside.index key = c.end_of-end-2.ensures in
    let front : c.get-2.result ≡ log.front = c.get-2.ensures.same ∙ (c.front.ensures.front ∙ ap (λ (x : LogView g.row.F-Op.Denot). x.front) c.self.view_is) in
    let stale : end_at c.self.inside.index key ≤ log.front = omega (arith, c.if-end-get.true) in
    let zero : 0 ≡ end_after log.front 0 (last_write w key log.ops) = sym (retained_zero log.front (end_at c.self.inside.index key) stale) ∙ own key in
    end_earlier w log.front (log_size log) 0 0 key log.ops more refl zero none

pub returns-else-end-get : goal.returns-else-end-get
returns-else-end-get g c more i =
    let w = g.F.Family.write_of in
    let log = c.args.self.now in
    let key = c.args.key.now in
    let long : c.self.inside.list.front + length c.self.inside.ops ≡ log_size log = ap log_size c.self.view_is in
    let size : c.get.result ≡ log_size log = omega (arith, c.get.ensures.same, c.size.ensures.size, c.self.invariant.2, long) in
    let is : c.end_of-end.result ≡ end_at c.args.later.now key = c.end_of-end.ensures in
    let low : end_at c.args.later.now key ≤ log_size log = omega (arith, c.if-get-end.false) in
    let none : last_write w key more ≡ None = none_later (log_size log) 0 (last_write w key more) (omega arith) (sym (retained_zero (log_size log) (end_at c.args.later.now key) low) ∙ i key) in
    let own : IsIndex w c.self.inside.index log.front log.ops = subst (λ (x : LogView g.row.F-Op.Denot). IsIndex w c.self.inside.index x.front x.ops) c.self.view_is c.self.invariant.7 in
    let at : c.end_of-end-2.result ≡ end_at c.self.inside.index key = c.end_of-end-2.ensures in
    let front : c.get-2.result ≡ log.front = c.get-2.ensures.same ∙ (c.front.ensures.front ∙ ap (λ (x : LogView g.row.F-Op.Denot). x.front) c.self.view_is) in
    let held : log.front < end_at c.self.inside.index key = omega (arith, c.if-end-get.false) in
    let found : c.end_of-end-2.result ≡ end_after log.front 0 (last_write w key log.ops) = at ∙ (sym (retained_same log.front (end_at c.self.inside.index key) held) ∙ own key) in
    end_earlier w log.front (log_size log) 0 c.end_of-end-2.result key log.ops more refl found none
