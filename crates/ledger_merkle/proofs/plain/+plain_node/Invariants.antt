use Rattle.ledger_merkle.proofs.plain.+plain_node.Given as goal

abbrev pub decreases-plain_node : goal.decreases-plain_node
decreases-plain_node g l = l.height
