use Rattle.std.proofs.Common.{◌≡◌, ◌+◌, ◌++◌, ◌∷◌, [], get_or, drop, map, reverse, sym, ap, subst, ◌∙◌, append_assoc, add-one}
use Rattle.std.specs.Prelude.{option_and_then, option_to_list}
use Rattle.std.proofs.Math.Seq.{drop-cons}
use Rattle.std.proofs.lemmas.List.{append-nil, map-append}
use Rattle.ledger_transfers.proofs.RegisterLemmas.{reverse_twice}
use Rattle.ledger_settling.specs.Blocks.{written}
use Rattle.ledger_settling.specs.Reports.{IsReplay}
use Rattle.ledger_settling.specs.Slots.{AreProper, entries_of, entry_of, op_of}
use Rattle.ledger_settling.proofs.ProperLemmas.{proper_before, proper_last, proper_reversed}
use Rattle.ledger_settling.proofs.ApplyLemmas.{write_one, written_entry}
use Rattle.ledger_settling.proofs.slots.write_slots.Goals as goal

pub loop-key-init : goal.loop-key-init
loop-key-init g c =
    let same = g.A.PartialEq.eq in
    let rules = g.A.Account.rules in
    let values = g.A.AccountValue.values in
    record {
      writes = ap (λ os. os ++ entries_of values c.args.keys.now (reverse c.reverse.new.self.items)) c.in_ok-writes.ensures.items ∙ ap (entries_of values c.args.keys.now) (ap reverse c.reverse.ensures.items ∙ reverse_twice c.args.slots.items);
      replay = λ base r. subst (IsReplay g.A.PartialEq.eq values c.args.accounts.now) (sym (ap (λ os. base ++ map op_of os) c.in_ok-writes.ensures.items ∙ append-nil base)) r;
      initial = λ p. (subst (AreProper same rules) (sym c.reverse.ensures.items) (proper_reversed same rules c.args.slots.items p), λ h. h);
    }

pub loop-key-preserved : goal.loop-key-preserved
loop-key-preserved g c =
    let same = g.A.PartialEq.eq in
    let rules = g.A.Account.rules in
    let values = g.A.AccountValue.values in
    let keys = c.args.keys.now in
    let i = c.loop-key.key-index in
    let key = get_or keys i [] in
    let old = c.loop-key.writes.items in
    let rest = c.pop.new.self.items in
    let r = c.pop.result in
    let here : drop i keys ≡ key ∷ drop (i + 1) keys = drop-cons keys i [] c.loop-key-test.true ∙ ap (λ n. key ∷ drop n keys) (sym (add-one i)) in
    let ops : map op_of old ++ option_to_list (option_and_then (written values key) r) ≡ map op_of c.write_found.new.writes.items =
    ap (λ us. map op_of old ++ us) (sym (written_entry values key r)) ∙ sym (map-append op_of old (option_to_list (option_and_then (entry_of values key) r))) ∙ ap (map op_of) (sym c.in_ok-write_found.ensures.writes) in
    record {
      writes = ap (λ os. os ++ entries_of values (drop (i + 1) keys) (reverse rest)) c.in_ok-write_found.ensures.writes
          ∙ write_one values key (drop (i + 1) keys) c.loop-key.slots.items rest r old c.loop-key.slots.len c.pop.new.self.len c.loop-key.slots.ok.0 c.pop.new.self.ok.0 c.pop.ensures.items c.pop.ensures.cases
          ∙ ap (λ ks. old ++ entries_of values ks (reverse c.loop-key.slots.items)) (sym here)
          ∙ c.loop-key.invariant.writes;
      replay = λ base b. subst (IsReplay same values c.write_found.new.accounts) (append_assoc base (map op_of old) _ ∙ ap (λ xs. base ++ xs) ops)
          (c.in_ok-write_found.ensures.replay (base ++ map op_of old) (c.loop-key.invariant.replay base b));
      initial = λ p.
          let h = c.loop-key.invariant.initial p in
          let all : AreProper same rules (rest ++ option_to_list r) = subst (AreProper same rules) c.pop.ensures.items h.0 in
          (proper_before same rules rest r all, λ q. c.in_ok-write_found.ensures.initial (proper_last same rules rest r all) (h.1 q));
    }

pub returns-clause-initial : goal.returns-clause-initial
returns-clause-initial g c = λ p. (c.loop-key.invariant.initial p).1
