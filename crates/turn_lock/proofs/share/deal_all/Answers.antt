use Rattle.std.proofs.Common.{◌≡◌, ◌+◌, ◌-◌, ◌++◌, ◌∷◌, [], ◌∙◌, sym, subst, arith, zero-add}
use Rattle.std.proofs.lemmas.List.FromFn.{map-range_with_len_more}
use Rattle.turn_lock.specs.Passes.{fresh}
use Rattle.turn_lock.specs.Seated.{Deals}
use Rattle.turn_lock.proofs.share.deal_all.Goals as goal

pub loop-caller-preserved : goal.loop-caller-preserved
loop-caller-preserved g c =
    let i = c.loop-caller.invariant in
    let d = c.deal_at.ensures in
    let less : c.args.passes - c.loop-caller.caller - 1 ≡ c.args.passes - (c.loop-caller.caller + 1) = omega arith in
    let f = fresh record { table = c.args.seat.table_id; opening = c.args.seat.me.0.opening } c.args.turns in
    let one = d.pass ∙ (λ k. fresh record { table = i.same.0 k; opening = i.opening k } c.args.turns c.loop-caller.caller) in
    record {
      same = (d.same.0 ∙ i.same.0, d.same.1 ∙ i.same.1);
      dealer = subst (Deals c.deal_at.new.seat (c.loop-caller.caller + 1)) less d.dealer.0;
      opening = d.dealer.1 ∙ i.opening;
      made = c.in_ok-push.ensures.items ∙ (λ k. i.made k ++ one k ∷ []) ∙ sym (map-range_with_len_more f 0 c.loop-caller.caller c.loop-caller.caller (zero-add _));
    }
