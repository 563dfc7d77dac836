use Rattle.ledger_transfers.proofs.HashedLemmas.{none_written}
use Rattle.ledger_transfers.proofs.key_hasher.KeyHasher.new.Goals as goal

pub returns : goal.returns
returns c = none_written c.args.inner
