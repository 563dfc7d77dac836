use Rattle.std.proofs.Common.{sym, ap, ◌∙◌}
use Rattle.ledger_transfers.specs.Revising.{undone}
use Rattle.ledger_transfers.proofs.ReviseLemmas.{undone_push}
use Rattle.ledger_transfers.proofs.revise.undo_all.Goals as goal

pub loop-entry-preserved : goal.loop-entry-preserved
loop-entry-preserved g c =
    ap (undone c.pop.new.self.items) c.undo_one.ensures ∙ sym (undone_push c.pop.new.self.items c.in-Some.entry c.loop-entry.table.entries)
    ∙ ap (λ bs. undone bs c.loop-entry.table.entries) (sym c.in-Some.ensures.items) ∙ c.loop-entry.invariant
