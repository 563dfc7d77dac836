-- Values one after the other, as a loop reads and writes them.
use Rattle.std.proofs.Common.{◌≡◌, ℕ, suc, ◌-◌, ◌+◌, ◌≤◌, ◌<◌, List, [], ◌∷◌, ◌++◌, Result, Ok, Err, refl, sym, ap, ◌∙◌, append_assoc, arith}
use Rattle.std.proofs.lemmas.List.{append-nil}
use Rattle.ledger_codec.specs.declared.fault.CodecError.{CodecError}
use Rattle.ledger_codec.specs.declared.fault.CodecError.TheVariants as faults
use Rattle.ledger_codec.specs.Parsing.{Parsed, ◌>>=◌, Fails}
use Rattle.ledger_codec.specs.Sequences.{items_at}
use Rattle.ledger_codec.specs.Spelling.{Grows}

-- what was read before, and what is still read
abbrev pub with_front : {T : Type 0} → List T → Parsed (List T) → Parsed (List T)
with_front front read = read >>= λ others rest. Ok (front ++ others, rest)

-- where reading fails with e, so does what goes on from it
pub Fails-on : {X Y : Type 0} (e : CodecError) (part : Result X CodecError) (total : Result Y CodecError) → ((f : CodecError) → part ≡ Err f → total ≡ Err f) → Fails e part → Fails e total
Fails-on faults.EndOfBuffer part total on h = on faults.EndOfBuffer h
Fails-on faults.InvalidVarint part total on h = on faults.InvalidVarint h
Fails-on (faults.InvalidLength found limit) part total on h = on (faults.InvalidLength found limit) h
Fails-on (faults.InvalidEnum tag) part total on h = on (faults.InvalidEnum tag) h
Fails-on faults.Invalid part total on h = on faults.Invalid h
Fails-on (faults.ExtraData rest) part total on h = on (faults.ExtraData rest) h
Fails-on faults.OutOfMemory part total on h = tt

regroup : {T : Type 0} (front : List T) (n : T) (read : Parsed (List T)) → with_front front (read >>= λ others rest. Ok (n ∷ others, rest)) ≡ with_front (front ++ n ∷ []) read
regroup {T} front n (Ok x) = ap (λ (ns : List T). Ok (ns, x.1)) (simp append_assoc)
regroup front n (Err f) = refl

pub goes_on : {T : Type 0} (item : List ℕ → Parsed T) (front : List T) (count i : ℕ) (bytes : List ℕ) (n : T) (after : List ℕ) (total : Parsed (List T)) → i < count → item bytes ≡ Ok (n, after)
    → with_front front (items_at item (count - i) bytes) ≡ total → with_front (front ++ n ∷ []) (items_at item (count - (i + 1)) after) ≡ total
unfolding items_at
goes_on item front count i bytes n after total lt h so_far =
    let k : count - i ≡ suc (count - (i + 1)) = omega arith in
    let one : with_front front (items_at item (count - i) bytes) ≡ with_front (front ++ n ∷ []) (items_at item (count - (i + 1)) after) = rw (k, h) (regroup front n (items_at item (count - (i + 1)) after)) in
    sym one ∙ so_far

pub ends : {T : Type 0} (item : List ℕ → Parsed T) (e : CodecError) (front : List T) (count i : ℕ) (bytes : List ℕ) (total : Parsed (List T)) → i < count → Fails e (item bytes)
    → with_front front (items_at item (count - i) bytes) ≡ total → Fails e total
unfolding items_at
ends item e front count i bytes total lt h so_far =
    Fails-on e (item bytes) total (λ f p.
    let k : count - i ≡ suc (count - (i + 1)) = omega arith in
    let one : with_front front (items_at item (count - i) bytes) ≡ Err f = rw (k, p) refl in
    sym so_far ∙ one) h

pub is_done : {T : Type 0} (item : List ℕ → Parsed T) (front : List T) (count i : ℕ) (bytes : List ℕ) (total : Parsed (List T)) → count ≤ i → with_front front (items_at item (count - i) bytes) ≡ total → total ≡ Ok (front, bytes)
unfolding items_at
is_done {T} item front count i bytes total le so_far =
    let k : count - i ≡ 0 = omega arith in
    let one : with_front front (items_at item (count - i) bytes) ≡ Ok (front, bytes) = rw k (ap (λ (ns : List T). Ok (ns, bytes)) (append-nil front)) in
    sym so_far ∙ one

-- what grows after an append has grown before it
pub Grows-then : (old part mid now : List ℕ) → mid ≡ old ++ part → Grows mid now → Grows old now
Grows-then old part mid now e g = (part ++ g.0, g.1 ∙ (ap (λ (x : List ℕ). x ++ g.0) e ∙ append_assoc old part g.0))
