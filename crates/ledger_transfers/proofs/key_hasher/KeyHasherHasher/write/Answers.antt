use Rattle.std.proofs.Common.{get_or, sym, ap, ◌∙◌}
use Rattle.std.proofs.lemmas.List.{take_all}
use Rattle.std.specs.Hash.DefaultHasher.{write as written, write_byte as with_byte}
use Rattle.ledger_transfers.proofs.HashedLemmas.{none_written, one_more_read}
use Rattle.ledger_transfers.proofs.key_hasher.KeyHasherHasher.write.Goals as goal

pub loop-byte-init : goal.loop-byte-init
loop-byte-init c = sym (none_written c.args.self.now)

pub loop-byte-preserved : goal.loop-byte-preserved
loop-byte-preserved c =
    c.write_byte.ensures ∙ ap (λ s. with_byte s (get_or c.args.bytes.now c.loop-byte.byte-index 0)) c.loop-byte.invariant
    ∙ sym (one_more_read c.args.self.now c.args.bytes.now c.loop-byte.byte-index c.loop-byte-test.true)

pub returns : goal.returns
returns c = c.loop-byte.invariant ∙ ap (written c.args.self.now) (take_all c.loop-byte.byte-index c.args.bytes.now c.loop-byte-test.false)
