use Rattle.std.proofs.Common.{◌≡◌, ◌<◌, ◌≤◌, ◌+◌, ◌++◌, ◌∷◌, [], Option, length, reverse, sym, ap, subst, ◌∙◌, arith}
use Rattle.std.proofs.lemmas.List.{length_push}
use Rattle.std.proofs.lemmas.List.Elements.{All-push}
use Rattle.ledger_transfers.specs.Touches.{max_amount}
use Rattle.ledger_transfers.specs.Settling.{opened}
use Rattle.ledger_transfers.specs.Registering.{registered, AreAmounts}
use Rattle.ledger_transfers.proofs.RegisterLemmas.{one_more, reverse_push, reverse_twice, back}
use Rattle.ledger_transfers.proofs.register.register_all.Goals as goal

pub loop-read-init : goal.loop-read-init
loop-read-init g c =
    let keys = c.args.keys.now in
    let es = c.args.table.now.entries in
    record {
      room = omega (arith, c.reverse.ensures.len, c.requires.room);
      count = omega (arith, c.reverse.ensures.len, c.requires.count);
      selection = c.requires.selection;
      entries = ap (registered keys es) (ap reverse c.reverse.ensures.items ∙ reverse_twice c.args.reads.items);
      amounts = back g.A.Account.rules c.args.reads.items c.reverse.new.self.items c.reverse.ensures.items;
    }

pub loop-read-preserved : goal.loop-read-preserved
loop-read-preserved g c =
    let eq = g.K.PartialEq.eq in
    let rules = g.A.Account.rules in
    let keys = c.args.keys.now in
    let es = c.loop-read.table.entries in
    let new = c.register_one.new.table.entries in
    let r = c.in-Some.read in
    let rest = c.pop.new.self.items in
    let all = c.loop-read.reads.items in
    let items : all ≡ rest ++ r ∷ [] = c.in-Some.ensures.items in
    let count : length all ≡ length rest + 1 = ap length items ∙ length_push rest r in
    let less : length es < length keys = omega (arith, c.loop-read.invariant.count, count) in
    let one = c.register_one.ensures.entries in
    let more = one_more eq keys es new one.0 r (reverse rest) c.loop-read.invariant.selection less one.1 one.2 in
    record {
      room = omega (arith, c.register_one.ensures.room, c.loop-read.invariant.room, count);
      count = omega (arith, more.2, c.loop-read.invariant.count, count);
      selection = more.0;
      entries = more.1 ∙ sym (ap (registered keys es) (ap reverse items ∙ reverse_push rest r)) ∙ c.loop-read.invariant.entries;
      amounts = λ a. c.loop-read.invariant.amounts (subst (AreAmounts rules) (sym items) (All-push (λ (read : Option g.row.A.Denot). rules.balance_of (opened rules read) ≤ max_amount) rest r a c.register_one.ensures.amount));
    }
