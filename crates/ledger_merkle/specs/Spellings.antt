-- Locations and proofs as bytes.
use Rattle.std.specs.Prelude.{◌≡◌, ℕ, ◌≤◌, ◌^◌, ◌-◌, List, ◌++◌, length, All, Ok, Err, nat_le, if◌then◌else◌}
use Rattle.std.proofs.Common.{refl, ap, ◌∙◌, append_assoc, arith, lit≤, leb, true}
use Rattle.std.proofs.lemmas.Bool.Decides.{nat_tests}
use Rattle.ledger_codec.specs.declared.fault.CodecError.TheVariants as faults
use Rattle.ledger_codec.specs.Parsing.{Parsed, ◌>>=◌}
use Rattle.ledger_codec.specs.Numbers.{varint64_at, digest_at, varint}
use Rattle.ledger_codec.specs.Sequences.{list_at, list_written}
use Rattle.ledger_codec.specs.Spelling.{IsLocal, SpellLaws}
use Rattle.ledger_codec.specs.Laws.{then_local, same_local, cond_local, ok_local, err_local, varint64_local, varint64_again, digest_local, digest_again, list_local, list_again}
use Rattle.ledger_merkle.specs.declared.proof.Proof.{Proof}

-- a number that is a location
abbrev pub location_of : ℕ → List ℕ → Parsed ℕ
location_of n rest = if nat_le n (2 ^ 62) then Ok (n, rest) else Err faults.Invalid

-- a varint of 64 bits that is a location
unfoldable pub location_at : List ℕ → Parsed ℕ
location_at bytes = varint64_at bytes >>= location_of

-- the number of leaves, the inactive peaks and the digests
unfoldable pub proof_at : List ℕ → Parsed Proof
proof_at bytes =
    location_at bytes >>= λ leaves rest.
    varint64_at rest >>= λ inactive rest.
    list_at 10000 digest_at rest >>= λ digests rest.
    Ok (record { leaves = leaves; inactive_peaks = inactive; digests = digests }, rest)

-- digests as their bytes
abbrev pub digests_written : List (List ℕ) → List ℕ
digests_written digests = list_written (λ digest. digest) digests

-- a proof's bytes
abbrev pub proof_written : Proof → List ℕ
proof_written proof = (varint proof.leaves ++ varint proof.inactive_peaks) ++ digests_written proof.digests

-- a location is at most 2^62
abbrev pub IsSoundLocation : ℕ → Type 0
IsSoundLocation location = location ≤ 2 ^ 62

-- digests have 32 bytes each
abbrev pub AreSoundDigests : List (List ℕ) → Type 0
AreSoundDigests digests = All (λ digest. length digest ≡ 32) digests

-- what every proof is
pub record IsSoundProof (proof : Proof) : Type 0 where
  pub leaves : IsSoundLocation proof.leaves
  pub inactive_peaks : proof.inactive_peaks ≤ 2 ^ 64 - 1
  pub digests : AreSoundDigests proof.digests

-- ---- laws

location_is : (bytes : List ℕ) → location_at bytes ≡ (varint64_at bytes >>= location_of)
unfolding location_at
location_is bytes = refl

pub location_local : IsLocal location_at
location_local = same_local location_at (λ bytes. varint64_at bytes >>= location_of) location_is
    (then_local varint64_at location_of varint64_local (λ n. cond_local (leb n (2 ^ 62)) (λ rest. Ok (n, rest)) (λ rest. Err faults.Invalid) (ok_local n) (err_local faults.Invalid)))

pub location_again : (location : ℕ) (rest : List ℕ) → IsSoundLocation location → location_at (varint location ++ rest) ≡ Ok (location, rest)
location_again location rest sound =
    let less : 2 ^ 62 ≤ 2 ^ 64 - 1 = lit≤ tt in
    let within : leb location (2 ^ 62) ≡ true = grind (arith, nat_tests) in
    location_is (varint location ++ rest) ∙ (ap (λ (r : Parsed ℕ). r >>= location_of) (varint64_again location rest (omega arith)) ∙ rw within refl)

-- a list of digests is read again
pub digests_again : (limit : ℕ) (digests : List (List ℕ)) (rest : List ℕ) → AreSoundDigests digests → length digests ≤ limit → limit ≤ 2 ^ 32 - 1 → list_at limit digest_at (digests_written digests ++ rest) ≡ Ok (digests, rest)
digests_again limit digests rest sound le most = list_again limit digest_at (λ digest. digest) digests rest le most (λ d k lt more. digest_again _ more (sound d k lt))

abbrev proof_read : List ℕ → Parsed Proof
proof_read bytes =
    location_at bytes >>= λ leaves rest.
    varint64_at rest >>= λ inactive rest.
    list_at 10000 digest_at rest >>= λ digests rest.
    Ok (record { leaves = leaves; inactive_peaks = inactive; digests = digests }, rest)

proof_is : (bytes : List ℕ) → proof_at bytes ≡ proof_read bytes
unfolding proof_at
proof_is bytes = refl

pub proof_local : IsLocal proof_at
proof_local = same_local proof_at proof_read proof_is
    (then_local location_at _ location_local (λ leaves. then_local varint64_at _ varint64_local (λ inactive. then_local (list_at 10000 digest_at) _ (list_local 10000 digest_at digest_local) (λ digests. ok_local (record { leaves = leaves; inactive_peaks = inactive; digests = digests })))))

pub proof_again : (proof : Proof) (rest : List ℕ) → IsSoundProof proof → length proof.digests ≤ 10000 → proof_at (proof_written proof ++ rest) ≡ Ok (proof, rest)
proof_again proof rest sound fits =
    let regrouped : proof_written proof ++ rest ≡ varint proof.leaves ++ (varint proof.inactive_peaks ++ (digests_written proof.digests ++ rest)) = simp append_assoc in
    ap proof_at regrouped ∙ (proof_is _ ∙ rw (location_again proof.leaves (varint proof.inactive_peaks ++ (digests_written proof.digests ++ rest)) sound.leaves, varint64_again proof.inactive_peaks (digests_written proof.digests ++ rest) sound.inactive_peaks, digests_again 10000 proof.digests rest sound.digests fits (lit≤ tt)) refl)

pub location_laws : SpellLaws location_at varint IsSoundLocation (λ _. Unit {0})
location_laws = record { again = λ value sound fits rest. location_again value rest sound; local = location_local }

pub proof_laws : SpellLaws proof_at proof_written IsSoundProof (λ proof. length proof.digests ≤ 10000)
proof_laws = record { again = λ value sound fits rest. proof_again value rest sound fits; local = proof_local }
