use Rattle.std.proofs.Common.{sym, ap, ◌∙◌}
use Rattle.indexmap.specs.IndexMap.{set_value_at}
use Rattle.ledger_transfers.proofs.ReviseLemmas.{revised_written, revised_past, revised_back}
use Rattle.ledger_transfers.proofs.revise.exchange.Goals as goal

pub returns-in-Some-clause-new : goal.returns-in-Some-clause-new
returns-in-Some-clause-new g c =
    ap (set_value_at c.args.table.now.entries c.args.place) c.revise.ensures.new ∙ revised_written c.args.table.now.entries c.args.place c.in-Some.held.now c.args.revision (sym c.in-Some.ensures.value)

pub returns-in-Some-clause-back : goal.returns-in-Some-clause-back
returns-in-Some-clause-back g c =
    revised_back c.args.table.now.entries c.args.place c.in-Some.held.now c.revise.new.held c.revise.result (sym c.in-Some.ensures.value) c.revise.ensures.back

pub returns-in-None-clause-new : goal.returns-in-None-clause-new
returns-in-None-clause-new g c = sym (revised_past c.args.table.now.entries c.args.place c.args.revision (sym c.in-None.ensures.value))

pub returns-in-None-clause-back : goal.returns-in-None-clause-back
returns-in-None-clause-back g c = revised_past c.args.table.now.entries c.args.place c.args.revision (sym c.in-None.ensures.value)
