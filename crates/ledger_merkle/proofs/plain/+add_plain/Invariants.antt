use Rattle.ledger_merkle.proofs.plain.+add_plain.Given as goal

abbrev pub decreases-add_plain : goal.decreases-add_plain
decreases-add_plain g l = l.height
