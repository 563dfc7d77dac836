use Rattle.std.proofs.Common.{◌<◌, ap, ◌∙◌, arith}
use Rattle.std.specs.Hash.DefaultHasher.{write_byte as with_byte}
use Rattle.ledger_transfers.proofs.HashedLemmas.{none_written, one_more_kept, all_written}
use Rattle.ledger_transfers.proofs.key_hasher.KeyHasher.write_byte.Goals as goal

pub returns-then-self-eq32 : goal.returns-then-self-eq32
returns-then-self-eq32 c =
    none_written c.write.new.self ∙ c.write.ensures ∙ all_written c.self.inside.inner c.self.inside.bytes c.self.inside.filled c.args.byte 32 c.self.told c.if-self-eq32.true
    ∙ ap (λ s. with_byte s c.args.byte) c.self.view_is

pub returns-else-self-eq32 : goal.returns-else-self-eq32
returns-else-self-eq32 c =
    let within : c.self.inside.filled < 32 = c.self.invariant in
    one_more_kept c.self.inside.inner c.self.inside.bytes c.self.inside.filled c.args.byte (omega (arith, within, c.self.told)) ∙ ap (λ s. with_byte s c.args.byte) c.self.view_is
