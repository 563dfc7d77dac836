-- Operations, targets and states as bytes.
use Rattle.std.specs.Prelude.{◌≡◌, ℕ, ◌<◌, ◌≤◌, Bool, true, false, List, ◌∷◌, ◌++◌, length, Option, Some, None, Ok, Err, ◌==◌, nat_lt, if◌then◌else◌}
use Rattle.std.proofs.Common.{refl, sym, ap, ◌∙◌, append_assoc, arith, lit≤, eqb}
use Rattle.std.proofs.lemmas.Bool.Decides.{nat_tests}
use Rattle.std.proofs.lemmas.Bool.{ltb-true}
use denote.Struct.Props.{props}
use Rattle.ledger_codec.specs.declared.fault.CodecError.TheVariants as faults
use Rattle.ledger_codec.specs.Parsing.{Parsed, ◌>>=◌}
use Rattle.ledger_codec.specs.Numbers.{byte_at, digest_at, varint}
use Rattle.ledger_codec.specs.Sequences.{list_at}
use Rattle.ledger_codec.specs.Spelling.{IsLocal, SpellLaws}
use Rattle.ledger_codec.specs.Laws.{then_local, same_local, cond_local, ok_local, err_local, byte_local, digest_local, digest_again, list_local}
use Rattle.ledger_merkle.specs.Spellings.{location_at, location_local, location_again, IsSoundLocation, proof_at, proof_written, proof_local, proof_again, IsSoundProof, digests_written, digests_again, AreSoundDigests}
use Rattle.ledger_log.specs.declared.any.AnyOp.{AnyOp}
use Rattle.ledger_log.specs.declared.any.AnyOp.TheVariants as any
use Rattle.ledger_log.specs.declared.immutable.ImmutableOp.{ImmutableOp}
use Rattle.ledger_log.specs.declared.immutable.ImmutableOp.TheVariants as immutable
use Rattle.ledger_log.specs.declared.keyless.KeylessOp.{KeylessOp}
use Rattle.ledger_log.specs.declared.keyless.KeylessOp.TheVariants as keyless
use Rattle.ledger_log.specs.declared.target.Target.{Target}
use Rattle.ledger_log.specs.declared.target.CompactTarget.{CompactTarget}
use Rattle.ledger_log.specs.declared.target.CompactState.{CompactState}
use Rattle.ledger_log.specs.Spelling.{commit_spelling, IsSoundCommit}
use Rattle.ledger_log.specs.Any.{any_spelling, IsSoundAny}
use Rattle.ledger_log.specs.Immutable.{immutable_spelling, IsSoundImmutable}
use Rattle.ledger_log.specs.Keyless.{keyless_spelling, IsSoundKeyless}

-- ---- operations

-- metadata behind a flag that is 0 or 1
abbrev pub metadata_if : ℕ → List ℕ → Parsed (Option (List ℕ))
metadata_if flag rest = if flag == 0 then Ok (None, rest) else (if flag == 1 then (digest_at rest >>= λ metadata after. Ok (Some metadata, after)) else Err (faults.InvalidEnum flag))

-- a flag, and metadata where it is 1
unfoldable pub metadata_at : List ℕ → Parsed (Option (List ℕ))
metadata_at bytes = byte_at bytes >>= metadata_if

-- two digests
abbrev pub pair_at : {A : Type 0} → (List ℕ → List ℕ → A) → List ℕ → Parsed A
pair_at make rest = digest_at rest >>= λ key rest. digest_at rest >>= λ value rest. Ok (make key value, rest)

-- one digest
abbrev pub single_at : {A : Type 0} → (List ℕ → A) → List ℕ → Parsed A
single_at make rest = digest_at rest >>= λ value rest. Ok (make value, rest)

-- metadata and a floor
abbrev pub commit_at : {A : Type 0} → (Option (List ℕ) → ℕ → A) → List ℕ → Parsed A
commit_at make rest = metadata_at rest >>= λ metadata rest. location_at rest >>= λ floor rest. Ok (make metadata floor, rest)

-- the parts of the operation of a tag
abbrev pub any_tagged : ℕ → List ℕ → Parsed AnyOp
any_tagged tag rest = if tag == 0 then pair_at any.Update rest else (if tag == 1 then single_at any.Delete rest else (if tag == 2 then commit_at any.CommitFloor rest else Err (faults.InvalidEnum tag)))

-- an operation of the families any and current
unfoldable pub any_at : List ℕ → Parsed AnyOp
any_at bytes = byte_at bytes >>= any_tagged

-- the parts of the operation of a tag
abbrev pub immutable_tagged : ℕ → List ℕ → Parsed ImmutableOp
immutable_tagged tag rest = if tag == 0 then pair_at immutable.Set rest else (if tag == 1 then commit_at immutable.Commit rest else Err (faults.InvalidEnum tag))

-- an operation of the family immutable
unfoldable pub immutable_at : List ℕ → Parsed ImmutableOp
immutable_at bytes = byte_at bytes >>= immutable_tagged

-- the parts of the operation of a tag
abbrev pub keyless_tagged : ℕ → List ℕ → Parsed KeylessOp
keyless_tagged tag rest = if tag == 0 then single_at keyless.Append rest else (if tag == 1 then commit_at keyless.Commit rest else Err (faults.InvalidEnum tag))

-- an operation of the family keyless
unfoldable pub keyless_at : List ℕ → Parsed KeylessOp
keyless_at bytes = byte_at bytes >>= keyless_tagged

-- ---- targets and states

-- a target where its range isn't empty
abbrev pub target_if : (ordered : Bool) → List ℕ → (start end : ℕ) → nat_lt start end ≡ ordered → List ℕ → Parsed Target
target_if true root start end less rest = Ok (record { root = root; start = start; end = end; ordered = ltb-true start end less }, rest)
target_if false root start end less rest = Err faults.Invalid

-- the target of these parts
abbrev pub target_of : List ℕ → ℕ → ℕ → List ℕ → Parsed Target
target_of root start end rest = target_if (nat_lt start end) root start end refl rest

-- a root, a start and an end above it
unfoldable pub target_at : List ℕ → Parsed Target
target_at bytes = digest_at bytes >>= λ root rest. location_at rest >>= λ start rest. location_at rest >>= λ end rest. target_of root start end rest

-- a target's bytes
abbrev pub target_written : Target → List ℕ
target_written target = (target.root ++ varint target.start) ++ varint target.end

-- what every target is
pub record IsSoundTarget (target : Target) : Type 0 where
  pub root : length target.root ≡ 32
  pub end : IsSoundLocation target.end

-- a root and a number of operations
unfoldable pub compact_target_at : List ℕ → Parsed CompactTarget
compact_target_at bytes = digest_at bytes >>= λ root rest. location_at rest >>= λ leaf_count rest. Ok (record { root = root; leaf_count = leaf_count }, rest)

-- a compact target's bytes
abbrev pub compact_target_written : CompactTarget → List ℕ
compact_target_written target = target.root ++ varint target.leaf_count

-- what every compact target is
pub record IsSoundCompactTarget (target : CompactTarget) : Type 0 where
  pub root : length target.root ≡ 32
  pub leaf_count : IsSoundLocation target.leaf_count

-- a number of operations, at most 64 pinned nodes, the last commit and its proof
unfoldable pub compact_state_at : {Op : Type 0} → (List ℕ → Parsed Op) → List ℕ → Parsed (CompactState Op)
compact_state_at op bytes =
    location_at bytes >>= λ leaf_count rest.
    list_at 64 digest_at rest >>= λ pinned_nodes rest.
    op rest >>= λ last_commit_op rest.
    proof_at rest >>= λ last_commit_proof rest.
    Ok (record { leaf_count = leaf_count; pinned_nodes = pinned_nodes; last_commit_op = last_commit_op; last_commit_proof = last_commit_proof }, rest)

-- a compact state's bytes
abbrev pub compact_state_written : {Op : Type 0} → (Op → List ℕ) → CompactState Op → List ℕ
compact_state_written op state = ((varint state.leaf_count ++ digests_written state.pinned_nodes) ++ op state.last_commit_op) ++ proof_written state.last_commit_proof

-- what every compact state is
pub record IsSoundCompactState {Op : Type 0} (sound : Op → Type 0) (state : CompactState Op) : Type 0 where
  pub leaf_count : IsSoundLocation state.leaf_count
  pub pinned_nodes : AreSoundDigests state.pinned_nodes
  pub last_commit_op : sound state.last_commit_op
  pub last_commit_proof : IsSoundProof state.last_commit_proof

-- a compact state whose lists are within their limits
pub record CompactStateFits {Op : Type 0} (fits : Op → Type 0) (state : CompactState Op) : Type 0 where
  pub pinned_nodes : length state.pinned_nodes ≤ 64
  pub last_commit_op : fits state.last_commit_op
  pub last_commit_proof : length state.last_commit_proof.digests ≤ 10000

-- ---- laws

metadata_is : (bytes : List ℕ) → metadata_at bytes ≡ (byte_at bytes >>= metadata_if)
unfolding metadata_at
metadata_is bytes = refl

any_is : (bytes : List ℕ) → any_at bytes ≡ (byte_at bytes >>= any_tagged)
unfolding any_at
any_is bytes = refl

immutable_is : (bytes : List ℕ) → immutable_at bytes ≡ (byte_at bytes >>= immutable_tagged)
unfolding immutable_at
immutable_is bytes = refl

keyless_is : (bytes : List ℕ) → keyless_at bytes ≡ (byte_at bytes >>= keyless_tagged)
unfolding keyless_at
keyless_is bytes = refl

metadata_if_local : (flag : ℕ) → IsLocal (metadata_if flag)
metadata_if_local flag =
    cond_local (eqb flag 0) (λ rest. Ok (None, rest)) (λ rest. if flag == 1 then (digest_at rest >>= λ metadata after. Ok (Some metadata, after)) else Err (faults.InvalidEnum flag)) (ok_local None)
    (cond_local (eqb flag 1) (λ rest. digest_at rest >>= λ metadata after. Ok (Some metadata, after)) (λ rest. Err (faults.InvalidEnum flag))
    (then_local digest_at (λ metadata after. Ok (Some metadata, after)) digest_local (λ metadata. ok_local (Some metadata))) (err_local (faults.InvalidEnum flag)))

metadata_local : IsLocal metadata_at
metadata_local = same_local metadata_at (λ bytes. byte_at bytes >>= metadata_if) metadata_is (then_local byte_at metadata_if byte_local metadata_if_local)

pair_local : {A : Type 0} (make : List ℕ → List ℕ → A) → IsLocal (pair_at make)
pair_local make = then_local digest_at _ digest_local (λ key. then_local digest_at _ digest_local (λ value. ok_local (make key value)))

single_local : {A : Type 0} (make : List ℕ → A) → IsLocal (single_at make)
single_local make = then_local digest_at _ digest_local (λ value. ok_local (make value))

commit_local : {A : Type 0} (make : Option (List ℕ) → ℕ → A) → IsLocal (commit_at make)
commit_local make = then_local metadata_at _ metadata_local (λ metadata. then_local location_at _ location_local (λ floor. ok_local (make metadata floor)))

any_tagged_local : (tag : ℕ) → IsLocal (any_tagged tag)
any_tagged_local tag =
    cond_local (eqb tag 0) (pair_at any.Update) _ (pair_local any.Update)
    (cond_local (eqb tag 1) (single_at any.Delete) _ (single_local any.Delete)
    (cond_local (eqb tag 2) (commit_at any.CommitFloor) _ (commit_local any.CommitFloor) (err_local (faults.InvalidEnum tag))))

any_local : IsLocal any_at
any_local = same_local any_at (λ bytes. byte_at bytes >>= any_tagged) any_is (then_local byte_at any_tagged byte_local any_tagged_local)

immutable_tagged_local : (tag : ℕ) → IsLocal (immutable_tagged tag)
immutable_tagged_local tag =
    cond_local (eqb tag 0) (pair_at immutable.Set) _ (pair_local immutable.Set)
    (cond_local (eqb tag 1) (commit_at immutable.Commit) _ (commit_local immutable.Commit) (err_local (faults.InvalidEnum tag)))

immutable_local : IsLocal immutable_at
immutable_local = same_local immutable_at (λ bytes. byte_at bytes >>= immutable_tagged) immutable_is (then_local byte_at immutable_tagged byte_local immutable_tagged_local)

keyless_tagged_local : (tag : ℕ) → IsLocal (keyless_tagged tag)
keyless_tagged_local tag =
    cond_local (eqb tag 0) (single_at keyless.Append) _ (single_local keyless.Append)
    (cond_local (eqb tag 1) (commit_at keyless.Commit) _ (commit_local keyless.Commit) (err_local (faults.InvalidEnum tag)))

keyless_local : IsLocal keyless_at
keyless_local = same_local keyless_at (λ bytes. byte_at bytes >>= keyless_tagged) keyless_is (then_local byte_at keyless_tagged byte_local keyless_tagged_local)

-- two digests are read again
pair_again : {A : Type 0} (make : List ℕ → List ℕ → A) (key value rest : List ℕ) → length key ≡ 32 → length value ≡ 32
    → pair_at make ((key ++ value) ++ rest) ≡ Ok (make key value, rest)
pair_again make key value rest p q = rw (append_assoc, digest_again key (value ++ rest) p, digest_again value rest q) refl

-- one digest is read again
single_again : {A : Type 0} (make : List ℕ → A) (value rest : List ℕ) → length value ≡ 32 → single_at make (value ++ rest) ≡ Ok (make value, rest)
single_again make value rest q = rw (digest_again value rest q) refl

-- a commit's metadata and floor are read again
commit_again : {A : Type 0} (make : Option (List ℕ) → ℕ → A) (metadata : Option (List ℕ)) (floor : ℕ) (rest : List ℕ) → IsSoundCommit metadata floor
    → commit_at make (commit_spelling metadata floor ++ rest) ≡ Ok (make metadata floor, rest)
commit_again make None floor rest sound = rw (metadata_is, location_again floor rest sound.1) refl
commit_again make (Some metadata) floor rest sound = ap (λ (x : List ℕ). commit_at make (1 ∷ x)) (append_assoc metadata (varint floor) rest) ∙ rw (metadata_is, digest_again metadata (varint floor ++ rest) sound.0.0, location_again floor rest sound.1) refl

any_again : (op : AnyOp) (rest : List ℕ) → IsSoundAny op → any_at (any_spelling op ++ rest) ≡ Ok (op, rest)
any_again (any.Update key value) rest sound = any_is ((0 ∷ key ++ value) ++ rest) ∙ pair_again any.Update key value rest sound.0.0 sound.1.0
any_again (any.Delete key) rest sound = any_is ((1 ∷ key) ++ rest) ∙ single_again any.Delete key rest sound.0
any_again (any.CommitFloor metadata floor) rest sound = any_is ((2 ∷ commit_spelling metadata floor) ++ rest) ∙ commit_again any.CommitFloor metadata floor rest sound

immutable_again : (op : ImmutableOp) (rest : List ℕ) → IsSoundImmutable op → immutable_at (immutable_spelling op ++ rest) ≡ Ok (op, rest)
immutable_again (immutable.Set key value) rest sound = immutable_is ((0 ∷ key ++ value) ++ rest) ∙ pair_again immutable.Set key value rest sound.0.0 sound.1.0
immutable_again (immutable.Commit metadata floor) rest sound = immutable_is ((1 ∷ commit_spelling metadata floor) ++ rest) ∙ commit_again immutable.Commit metadata floor rest sound

keyless_again : (op : KeylessOp) (rest : List ℕ) → IsSoundKeyless op → keyless_at (keyless_spelling op ++ rest) ≡ Ok (op, rest)
keyless_again (keyless.Append value) rest sound = keyless_is ((0 ∷ value) ++ rest) ∙ single_again keyless.Append value rest sound.0
keyless_again (keyless.Commit metadata floor) rest sound = keyless_is ((1 ∷ commit_spelling metadata floor) ++ rest) ∙ commit_again keyless.Commit metadata floor rest sound

pub any_laws : SpellLaws any_at any_spelling IsSoundAny (λ _. Unit {0})
any_laws = record { again = λ op sound fits rest. any_again op rest sound; local = any_local }

pub immutable_laws : SpellLaws immutable_at immutable_spelling IsSoundImmutable (λ _. Unit {0})
immutable_laws = record { again = λ op sound fits rest. immutable_again op rest sound; local = immutable_local }

pub keyless_laws : SpellLaws keyless_at keyless_spelling IsSoundKeyless (λ _. Unit {0})
keyless_laws = record { again = λ op sound fits rest. keyless_again op rest sound; local = keyless_local }

target_is : (bytes : List ℕ) → target_at bytes ≡ (digest_at bytes >>= λ root rest. location_at rest >>= λ start rest. location_at rest >>= λ end rest. target_of root start end rest)
unfolding target_at
target_is bytes = refl

compact_target_is : (bytes : List ℕ) → compact_target_at bytes ≡ (digest_at bytes >>= λ root rest. location_at rest >>= λ leaf_count rest. Ok (record { root = root; leaf_count = leaf_count }, rest))
unfolding compact_target_at
compact_target_is bytes = refl

target_if_local : (ordered : Bool) (root : List ℕ) (start end : ℕ) (less : nat_lt start end ≡ ordered) → IsLocal (target_if ordered root start end less)
target_if_local true root start end less = ok_local (record { root = root; start = start; end = end; ordered = ltb-true start end less })
target_if_local false root start end less = err_local faults.Invalid

target_local : IsLocal target_at
target_local = same_local target_at _ target_is
    (then_local digest_at _ digest_local (λ root. then_local location_at _ location_local (λ start. then_local location_at _ location_local (λ end. target_if_local (nat_lt start end) root start end refl))))

-- the target of a target's parts is itself
pub target_if_is : (ordered : Bool) (target : Target) (less : nat_lt target.start target.end ≡ ordered) (rest : List ℕ) → target_if ordered target.root target.start target.end less rest ≡ Ok (target, rest)
target_if_is true target less rest =
    let p : IsProp (target.start < target.end) = hlevel props in
    ap (λ (o : target.start < target.end). Ok (record { root = target.root; start = target.start; end = target.end; ordered = o }, rest)) (p (ltb-true target.start target.end less) target.ordered)
target_if_is false target less rest = absurd (let o : target.start < target.end = target.ordered in let t : nat_lt target.start target.end ≡ true = grind (arith, nat_tests) in cc)

target_again : (target : Target) (rest : List ℕ) → IsSoundTarget target → target_at (target_written target ++ rest) ≡ Ok (target, rest)
target_again target rest sound =
    let start : IsSoundLocation target.start = omega (arith, sound.end, target.ordered) in
    let regrouped : target_written target ++ rest ≡ target.root ++ (varint target.start ++ (varint target.end ++ rest)) = simp append_assoc in
    ap target_at regrouped ∙ (target_is _ ∙ rw (digest_again target.root (varint target.start ++ (varint target.end ++ rest)) sound.root, location_again target.start (varint target.end ++ rest) start, location_again target.end rest sound.end) (target_if_is (nat_lt target.start target.end) target refl rest))

-- a target that was made of the parts that were read
pub target_parts : (bytes a b rest root : List ℕ) (start end : ℕ) (target : Target) → digest_at bytes ≡ Ok (root, a) → location_at a ≡ Ok (start, b) → location_at b ≡ Ok (end, rest)
    → target.root ≡ root → target.start ≡ start → target.end ≡ end → target_at bytes ≡ Ok (target, rest)
target_parts bytes a b rest root start end target x y z p q r =
    let made : target_of root start end rest ≡ Ok (target, rest) =
    ap (λ (k : List ℕ). target_of k start end rest) (sym p)
    ∙ (ap (λ (k : ℕ). target_of target.root k end rest) (sym q)
    ∙ (ap (λ (k : ℕ). target_of target.root target.start k rest) (sym r)
    ∙ target_if_is (nat_lt target.start target.end) target refl rest)) in
    target_is bytes ∙ rw (x, y, z) made

pub target_laws : SpellLaws target_at target_written IsSoundTarget (λ _. Unit {0})
target_laws = record { again = λ target sound fits rest. target_again target rest sound; local = target_local }

compact_target_local : IsLocal compact_target_at
compact_target_local = same_local compact_target_at _ compact_target_is
    (then_local digest_at _ digest_local (λ root. then_local location_at _ location_local (λ leaf_count. ok_local (record { root = root; leaf_count = leaf_count }))))

compact_target_again : (target : CompactTarget) (rest : List ℕ) → IsSoundCompactTarget target → compact_target_at (compact_target_written target ++ rest) ≡ Ok (target, rest)
compact_target_again target rest sound =
    let regrouped : compact_target_written target ++ rest ≡ target.root ++ (varint target.leaf_count ++ rest) = simp append_assoc in
    ap compact_target_at regrouped ∙ (compact_target_is _ ∙ rw (digest_again target.root (varint target.leaf_count ++ rest) sound.root, location_again target.leaf_count rest sound.leaf_count) refl)

pub compact_target_laws : SpellLaws compact_target_at compact_target_written IsSoundCompactTarget (λ _. Unit {0})
compact_target_laws = record { again = λ target sound fits rest. compact_target_again target rest sound; local = compact_target_local }

compact_state_is : {Op : Type 0} (op : List ℕ → Parsed Op) (bytes : List ℕ) → compact_state_at op bytes ≡ (
    location_at bytes >>= λ leaf_count rest.
    list_at 64 digest_at rest >>= λ pinned_nodes rest.
    op rest >>= λ last_commit_op rest.
    proof_at rest >>= λ last_commit_proof rest.
    Ok (record { leaf_count = leaf_count; pinned_nodes = pinned_nodes; last_commit_op = last_commit_op; last_commit_proof = last_commit_proof }, rest))
unfolding compact_state_at
compact_state_is op bytes = refl

compact_state_local : {Op : Type 0} (op : List ℕ → Parsed Op) → IsLocal op → IsLocal (compact_state_at op)
compact_state_local op L = same_local (compact_state_at op) _ (compact_state_is op)
    (then_local location_at _ location_local (λ leaf_count. then_local (list_at 64 digest_at) _ (list_local 64 digest_at digest_local) (λ pinned_nodes. then_local op _ L (λ last_commit_op. then_local proof_at _ proof_local (λ last_commit_proof. ok_local (record { leaf_count = leaf_count; pinned_nodes = pinned_nodes; last_commit_op = last_commit_op; last_commit_proof = last_commit_proof }))))))

compact_state_again : {Op : Type 0} (op : List ℕ → Parsed Op) (written : Op → List ℕ) (sound fits : Op → Type 0) (state : CompactState Op) (rest : List ℕ) → SpellLaws op written sound fits → IsSoundCompactState sound state → CompactStateFits fits state
    → compact_state_at op (compact_state_written written state ++ rest) ≡ Ok (state, rest)
compact_state_again op written sound fits state rest laws s f =
    let regrouped : compact_state_written written state ++ rest ≡ varint state.leaf_count ++ (digests_written state.pinned_nodes ++ (written state.last_commit_op ++ (proof_written state.last_commit_proof ++ rest))) = regroup (varint state.leaf_count) (digests_written state.pinned_nodes) (written state.last_commit_op) (proof_written state.last_commit_proof) rest in
    ap (compact_state_at op) regrouped
    ∙ (compact_state_is op _
    ∙ rw (
      location_again state.leaf_count (digests_written state.pinned_nodes ++ (written state.last_commit_op ++ (proof_written state.last_commit_proof ++ rest))) s.leaf_count,
      digests_again 64 state.pinned_nodes (written state.last_commit_op ++ (proof_written state.last_commit_proof ++ rest)) s.pinned_nodes f.pinned_nodes (lit≤ tt),
      laws.again state.last_commit_op s.last_commit_op f.last_commit_op (proof_written state.last_commit_proof ++ rest),
      proof_again state.last_commit_proof rest s.last_commit_proof f.last_commit_proof,
    ) refl)
  where
    regroup : (a b c d e : List ℕ) → (((a ++ b) ++ c) ++ d) ++ e ≡ a ++ (b ++ (c ++ (d ++ e)))
    regroup a b c d e = simp append_assoc

pub compact_state_laws : {Op : Type 0} (op : List ℕ → Parsed Op) (written : Op → List ℕ) (sound fits : Op → Type 0) → SpellLaws op written sound fits → SpellLaws (compact_state_at op) (compact_state_written written) (IsSoundCompactState sound) (CompactStateFits fits)
compact_state_laws op written sound fits laws = record { again = λ state s f rest. compact_state_again op written sound fits state rest laws s f; local = compact_state_local op laws.local }
