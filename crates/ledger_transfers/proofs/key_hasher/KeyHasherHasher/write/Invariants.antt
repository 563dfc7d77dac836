use Rattle.std.proofs.Common.{◌≡◌, take}
use Rattle.std.specs.Hash.DefaultHasher.{write as written}
use Rattle.ledger_transfers.proofs.key_hasher.KeyHasherHasher.write.Given as goal

abbrev pub invariant-loop-byte : goal.invariant-loop-byte
invariant-loop-byte l = l.self ≡ written l.initial.self (take l.byte-index l.bytes)
