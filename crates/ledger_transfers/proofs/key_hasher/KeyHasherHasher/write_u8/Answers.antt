use Rattle.std.proofs.Common.{sym, ◌∙◌}
use Rattle.ledger_transfers.proofs.HashedLemmas.{one_written}
use Rattle.ledger_transfers.proofs.key_hasher.KeyHasherHasher.write_u8.Goals as goal

pub returns : goal.returns
returns c = c.write_byte.ensures ∙ sym (one_written c.args.self.now c.args.byte)
