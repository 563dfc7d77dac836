use Rattle.std.proofs.Common.{◌≡◌, ◌++◌, drop, map, reverse, List}
use Rattle.ledger_log.specs.declared.any.AnyOp.{AnyOp}
use Rattle.ledger_settling.specs.Reports.{IsReplay}
use Rattle.ledger_settling.specs.Slots.{AreProper, StaysProper, entries_of, op_of}
use Rattle.ledger_settling.proofs.slots.write_slots.Given as goal

abbrev pub invariant-loop-key : goal.invariant-loop-key
invariant-loop-key g l = record {
  writes : l.writes.items ++ entries_of g.A.AccountValue.values (drop l.key-index l.keys) (reverse l.slots.items) ≡ entries_of g.A.AccountValue.values l.keys l.fn.slots.items;
  replay : (base : List AnyOp) → IsReplay g.A.PartialEq.eq g.A.AccountValue.values l.fn.accounts base → IsReplay g.A.PartialEq.eq g.A.AccountValue.values l.accounts (base ++ map op_of l.writes.items);
  initial : AreProper g.A.PartialEq.eq g.A.Account.rules l.fn.slots.items → AreProper g.A.PartialEq.eq g.A.Account.rules l.slots.items × StaysProper g.A.PartialEq.eq g.A.Account.rules l.fn.accounts l.accounts;
}
