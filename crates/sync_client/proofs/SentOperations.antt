-- The operations of the families are sent as sessions over a link that serves ask of them.
use Rattle.std.proofs.Common.{ℕ, ◌≤◌, List, length, Option, Some, None, refl, arith, length-append}
use Rattle.ledger_codec.specs.Numbers.{varint}
use Rattle.ledger_log.specs.declared.any.AnyOp.{AnyOp}
use Rattle.ledger_log.specs.declared.any.AnyOp.TheVariants as any
use Rattle.ledger_log.specs.declared.immutable.ImmutableOp.{ImmutableOp}
use Rattle.ledger_log.specs.declared.immutable.ImmutableOp.TheVariants as immutable
use Rattle.ledger_log.specs.declared.keyless.KeylessOp.{KeylessOp}
use Rattle.ledger_log.specs.declared.keyless.KeylessOp.TheVariants as keyless
use Rattle.ledger_log.specs.Spelling.{commit_spelling, IsSoundCommit}
use Rattle.ledger_log.specs.Spellings.{any_at, any_laws, immutable_at, immutable_laws, keyless_at, keyless_laws}
use Rattle.ledger_log.specs.Any.{any_spelling, IsSoundAny}
use Rattle.ledger_log.specs.Immutable.{immutable_spelling, IsSoundImmutable}
use Rattle.ledger_log.specs.Keyless.{keyless_spelling, IsSoundKeyless}
use Rattle.sync_client.specs.Owing.{AreSent}
use Rattle.sync_client.proofs.ServedAnswers.{varint_short}

commit_short : (metadata : Option (List ℕ)) (floor : ℕ) → IsSoundCommit metadata floor → length (commit_spelling metadata floor) ≤ 43
commit_short None floor s = omega (arith, varint_short floor)
commit_short (Some metadata) floor s = omega (arith, length-append metadata (varint floor), varint_short floor, s.0.0)

any_short : (op : AnyOp) → IsSoundAny op → length (any_spelling op) ≤ 96
any_short (any.Update key value) s = omega (arith, length-append key value, s.0.0, s.1.0)
any_short (any.Delete key) s = omega (arith, s.0)
any_short (any.CommitFloor metadata floor) s = omega (arith, commit_short metadata floor s)

immutable_short : (op : ImmutableOp) → IsSoundImmutable op → length (immutable_spelling op) ≤ 96
immutable_short (immutable.Set key value) s = omega (arith, length-append key value, s.0.0, s.1.0)
immutable_short (immutable.Commit metadata floor) s = omega (arith, commit_short metadata floor s)

keyless_short : (op : KeylessOp) → IsSoundKeyless op → length (keyless_spelling op) ≤ 96
keyless_short (keyless.Append value) s = omega (arith, s.0)
keyless_short (keyless.Commit metadata floor) s = omega (arith, commit_short metadata floor s)

pub any_sent : AreSent any_at any_spelling any_spelling IsSoundAny
any_sent = record { laws = any_laws; same = refl; short = any_short }

pub immutable_sent : AreSent immutable_at immutable_spelling immutable_spelling IsSoundImmutable
immutable_sent = record { laws = immutable_laws; same = refl; short = immutable_short }

pub keyless_sent : AreSent keyless_at keyless_spelling keyless_spelling IsSoundKeyless
keyless_sent = record { laws = keyless_laws; same = refl; short = keyless_short }
