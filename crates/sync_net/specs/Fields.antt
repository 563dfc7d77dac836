-- Fields of messages as bytes.
use Rattle.std.specs.Prelude.{◌≡◌, ℕ, zero, suc, ◌<◌, ◌≤◌, ◌^◌, Bool, true, false, not, List, [], ◌∷◌, ◌++◌, length, Option, Some, None, Ok, Err, ◌==◌, if◌then◌else◌}
use Rattle.std.specs.Int.{w64, to_be_bytes}
use Rattle.std.specs.declared.num.NonZeroU64.{NonZeroU64}
use Rattle.std.proofs.Common.{refl, sym, ap, ◌∙◌, arith, lit≤}
use Rattle.std.proofs.Math.Nat.{zero-lt-suc}
use denote.Struct.Props.{props}
use Rattle.ledger_codec.specs.declared.fault.CodecError.TheVariants as faults
use Rattle.ledger_codec.specs.Parsing.{Parsed, ◌>>=◌}
use Rattle.ledger_codec.specs.Numbers.{byte_at, number_at, digest_at}
use Rattle.ledger_codec.specs.Sequences.{list_at}
use Rattle.ledger_codec.specs.Spelling.{IsLocal}
use Rattle.ledger_codec.specs.Laws.{then_local, ok_local, err_local, byte_local, number_local, number_again, digest_local, list_local}
use Rattle.ledger_merkle.specs.Spellings.{digests_written, digests_again, AreSoundDigests}
use Rattle.sync_net.specs.declared.code.ErrorCode.{ErrorCode}
use Rattle.sync_net.specs.declared.code.ErrorCode.TheVariants.{InvalidRequest, DatabaseError, NetworkError, StaleTarget, Timeout, InternalError}

-- a flag is read as set where its byte isn't 0
abbrev pub flag_at : List ℕ → Parsed Bool
flag_at bytes = byte_at bytes >>= λ byte rest. Ok (not (byte == 0), rest)

-- a flag is written as 0 or 1
abbrev pub flag_written : Bool → List ℕ
flag_written set = (if set then 1 else 0) ∷ []

-- 1 is above 0, and so on
pub above_zero : (n : ℕ) → 0 < suc n
above_zero n = zero-lt-suc n

-- a number above 0, in the type of such numbers
abbrev pub non_zero : ℕ → List ℕ → Parsed NonZeroU64
non_zero zero rest = Err faults.Invalid
non_zero (suc n) rest = Ok (record { value = suc n; ok = above_zero n }, rest)

-- eight bytes of a number above 0
abbrev pub non_zero_at : List ℕ → Parsed NonZeroU64
non_zero_at bytes = number_at bytes >>= non_zero

-- the code of a number
abbrev pub code_of : ℕ → Option ErrorCode
code_of n = if n == 0 then Some InvalidRequest else (if n == 1 then Some DatabaseError else (if n == 2 then Some NetworkError else (if n == 3 then Some StaleTarget else (if n == 4 then Some Timeout else (if n == 5 then Some InternalError else None)))))

-- the number of a code
abbrev pub code_number : ErrorCode → ℕ
code_number InvalidRequest = 0
code_number DatabaseError = 1
code_number NetworkError = 2
code_number StaleTarget = 3
code_number Timeout = 4
code_number InternalError = 5

-- a code that was found
abbrev pub coded : ℕ → Option ErrorCode → List ℕ → Parsed ErrorCode
coded tag (Some code) rest = Ok (code, rest)
coded tag None rest = Err (faults.InvalidEnum tag)

-- one byte of a code
abbrev pub code_at : List ℕ → Parsed ErrorCode
code_at bytes = byte_at bytes >>= λ byte. coded byte (code_of byte)

-- pinned nodes stand where the flag is set
abbrev pub pinned_if : Bool → List ℕ → Parsed (Option (List (List ℕ)))
pinned_if true rest = list_at 64 digest_at rest >>= λ nodes after. Ok (Some nodes, after)
pinned_if false rest = Ok (None, rest)

-- a flag, and pinned nodes where it is set
abbrev pub pinned_at : List ℕ → Parsed (Option (List (List ℕ)))
pinned_at bytes = flag_at bytes >>= pinned_if

-- a flag, and pinned nodes where there are any
abbrev pub pinned_written : Option (List (List ℕ)) → List ℕ
pinned_written None = 0 ∷ []
pinned_written (Some nodes) = 1 ∷ digests_written nodes

-- nodes have 32 bytes each
abbrev pub AreSoundPinned : Option (List (List ℕ)) → Type 0
AreSoundPinned None = Unit {0}
AreSoundPinned (Some nodes) = AreSoundDigests nodes

-- at most 64 nodes
abbrev pub PinnedFit : Option (List (List ℕ)) → Type 0
PinnedFit None = Unit {0}
PinnedFit (Some nodes) = length nodes ≤ 64

-- ---- laws

pub flag_local : IsLocal flag_at
flag_local = then_local byte_at (λ byte rest. Ok (not (byte == 0), rest)) byte_local (λ byte. ok_local (not (byte == 0)))

pub flag_again : (set : Bool) (rest : List ℕ) → flag_at (flag_written set ++ rest) ≡ Ok (set, rest)
flag_again true rest = refl
flag_again false rest = refl

non_zero_local : (n : ℕ) → IsLocal (non_zero n)
non_zero_local zero = err_local faults.Invalid
non_zero_local (suc n) = ok_local (record { value = suc n; ok = above_zero n })

pub non_zero_at_local : IsLocal non_zero_at
non_zero_at_local = then_local number_at non_zero number_local non_zero_local

non_zero_is : (v : ℕ) (ok : 0 < v) (rest : List ℕ) → non_zero v rest ≡ Ok (record { value = v; ok = ok }, rest)
non_zero_is zero ok rest = absurd (omega arith)
non_zero_is (suc n) ok rest =
    let p : IsProp (0 < suc n) = hlevel props in
    ap (λ (k : 0 < suc n). Ok (record { value = suc n; ok = k }, rest)) (p (above_zero n) ok)

-- a number above 0 is read as itself
pub non_zero_as : (x : NonZeroU64) (v : ℕ) (rest : List ℕ) → x.value ≡ v → non_zero v rest ≡ Ok (x, rest)
non_zero_as x v rest e = ap (λ (k : ℕ). non_zero k rest) (sym e) ∙ non_zero_is x.value x.ok rest

pub non_zero_again : (x : NonZeroU64) (rest : List ℕ) → x.value < 2 ^ 64 → non_zero_at (to_be_bytes w64 x.value ++ rest) ≡ Ok (x, rest)
non_zero_again x rest lt = ap (λ (r : Parsed ℕ). r >>= non_zero) (number_again x.value rest lt) ∙ non_zero_as x x.value rest refl

coded_local : (tag : ℕ) (found : Option ErrorCode) → IsLocal (coded tag found)
coded_local tag (Some code) = ok_local code
coded_local tag None = err_local (faults.InvalidEnum tag)

pub code_local : IsLocal code_at
code_local = then_local byte_at (λ byte. coded byte (code_of byte)) byte_local (λ byte. coded_local byte (code_of byte))

pub code_again : (code : ErrorCode) (rest : List ℕ) → code_at (code_number code ∷ rest) ≡ Ok (code, rest)
code_again InvalidRequest rest = refl
code_again DatabaseError rest = refl
code_again NetworkError rest = refl
code_again StaleTarget rest = refl
code_again Timeout rest = refl
code_again InternalError rest = refl

pinned_if_local : (set : Bool) → IsLocal (pinned_if set)
pinned_if_local true = then_local (list_at 64 digest_at) (λ nodes after. Ok (Some nodes, after)) (list_local 64 digest_at digest_local) (λ nodes. ok_local (Some nodes))
pinned_if_local false = ok_local None

pub pinned_local : IsLocal pinned_at
pinned_local = then_local flag_at pinned_if flag_local pinned_if_local

pub pinned_again : (pinned : Option (List (List ℕ))) (rest : List ℕ) → AreSoundPinned pinned → PinnedFit pinned → pinned_at (pinned_written pinned ++ rest) ≡ Ok (pinned, rest)
pinned_again None rest sound fits = refl
pinned_again (Some nodes) rest sound fits = rw (digests_again 64 nodes rest sound fits (lit≤ tt)) refl
