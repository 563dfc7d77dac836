use Rattle.ledger_merkle.proofs.level.+add.Given as goal

abbrev pub decreases-add : goal.decreases-add
decreases-add g l = l.count
