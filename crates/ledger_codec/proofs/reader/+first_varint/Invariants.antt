use Rattle.ledger_codec.proofs.reader.+first_varint.Given as goal

abbrev pub decreases-first_varint : goal.decreases-first_varint
decreases-first_varint l = l.left
