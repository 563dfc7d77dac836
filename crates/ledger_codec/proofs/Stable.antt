-- What stands at the front still stands there when more bytes come.
use Rattle.std.proofs.Common.{◌≡◌, ℕ, zero, suc, ◌+◌, ◌-◌, ◌*◌, ◌≤◌, ◌^◌, Bool, true, false, cond, not, ltb, leb, List, [], ◌∷◌, ◌++◌, length, take, drop, Ok, Err, refl, sym, ap, ◌∙◌, append_assoc, length-append, arith}
use Rattle.std.specs.Prelude.{◌&&◌, ◌==◌}
use Rattle.std.proofs.lemmas.List.{take-append-le, drop-append-le, take_at, drop_at}
use Rattle.std.proofs.lemmas.Bool.{ltb-false, le-ltb}
use Rattle.ledger_codec.specs.declared.fault.CodecError.{CodecError}
use Rattle.ledger_codec.specs.declared.fault.CodecError.TheVariants as faults
use Rattle.ledger_codec.specs.declared.framing.FrameError.{FrameError}
use Rattle.ledger_codec.specs.declared.framing.FrameError.TheVariants as bad
use Rattle.ledger_codec.specs.Parsing.{Parsed, ◌>>=◌}
use Rattle.ledger_codec.specs.Numbers.{at_most, varint_from, varint32_at, varint}
use Rattle.ledger_codec.specs.Sequences.{string_written}
use Rattle.ledger_codec.specs.Spelling.{IsLocal}
use Rattle.ledger_codec.specs.Laws.{varint_local, varint32_local, varint32_again}
use Rattle.ledger_codec.specs.Frames.{Front, Whole, Short, Bad, sized, front_of, front, Leads}
use Rattle.ledger_codec.specs.Streams.{FramesStay}

-- a reading of longer bytes
pub reading_more : {T : Type 0} (reading : List ℕ → Parsed T) (bytes more : List ℕ) (value : T) (rest : List ℕ) → IsLocal reading → reading bytes ≡ Ok (value, rest) → reading (bytes ++ more) ≡ Ok (value, rest ++ more)
reading_more reading bytes more value rest L e =
    let u = L.used bytes value rest e in
    ap (λ (x : List ℕ). reading (x ++ more)) u.parts ∙ (ap reading (append_assoc u.used rest more) ∙ u.whatever_follows (rest ++ more))

abbrev if_ok : Bool → Parsed ℕ → Parsed ℕ → Parsed ℕ
if_ok b x y = cond b x y

at_still : (ok : Bool) (e : CodecError) (m : ℕ) (xs ys : List ℕ) → if_ok ok (Ok (m, xs)) (Err faults.InvalidVarint) ≡ Err e → if_ok ok (Ok (m, ys)) (Err faults.InvalidVarint) ≡ Err e
at_still true e m xs ys h = absurd cc
at_still false e m xs ys h = h

byte_still : (low wrong : Bool) (max b : ℕ) (bs more : List ℕ) (r s : Parsed ℕ) (e : CodecError) → (e ≡ faults.EndOfBuffer → ⊥)
    → ((x : ℕ) (rest : List ℕ) → r ≡ Ok (x, rest) → s ≡ Ok (x, rest ++ more)) → ((f : CodecError) → r ≡ Err f → (f ≡ faults.EndOfBuffer → ⊥) → s ≡ Err f)
    → if_ok low (if_ok wrong (Err faults.InvalidVarint) (Ok (b, bs))) (r >>= λ high after. at_most max (b - 128 + 128 * high) after) ≡ Err e
    → if_ok low (if_ok wrong (Err faults.InvalidVarint) (Ok (b, bs ++ more))) (s >>= λ high after. at_most max (b - 128 + 128 * high) after) ≡ Err e
byte_still true true max b bs more r s e ne ok err h = h
byte_still true false max b bs more r s e ne ok err h = absurd cc
byte_still false wrong max b bs more (Ok x) s e ne ok err h =
    ap (λ (q : Parsed ℕ). q >>= λ high after. at_most max (b - 128 + 128 * high) after) (ok x.0 x.1 refl)
    ∙ at_still (leb (b - 128 + 128 * x.0) max) e (b - 128 + 128 * x.0) x.1 (x.1 ++ more) h
byte_still false wrong max b bs more (Err f) s e ne ok err h =
    let same : f ≡ e = cc in
    ap (λ (q : Parsed ℕ). q >>= λ high after. at_most max (b - 128 + 128 * high) after) (err f refl (λ q. ne (sym same ∙ q))) ∙ h

-- a refusal other than the end of the bytes stays
varint_still : (max left : ℕ) (first : Bool) (bytes more : List ℕ) (e : CodecError) → (e ≡ faults.EndOfBuffer → ⊥) → varint_from max left first bytes ≡ Err e → varint_from max left first (bytes ++ more) ≡ Err e
unfolding varint_from
varint_still max zero first bytes more e ne h = h
varint_still max (suc left) first [] more e ne h = absurd (ne cc)
varint_still max (suc left) first (b ∷ bs) more e ne h =
    byte_still (ltb b 128) (b == 0 && not first) max b bs more (varint_from max left false bs) (varint_from max left false (bs ++ more)) e ne
    (λ x rest q. reading_more (varint_from max left false) bs more x rest (varint_local max left false) q) (λ f q n. varint_still max left false bs more f n q) h

abbrev either : Bool → Front → Front → Front
either b x y = cond b x y

sized_ok : (a b : Bool) (fault : FrameError) (x y body after : List ℕ) → either a (Bad fault) (either b Short (Whole x y)) ≡ Whole body after → (a ≡ false) × (b ≡ false) × (x ≡ body) × (y ≡ after)
sized_ok true b fault x y body after e = absurd cc
sized_ok false true fault x y body after e = absurd cc
sized_ok false false fault x y body after e = (refl, refl, cc, cc)

sized_more : (limit n : ℕ) (rest more body after : List ℕ) → sized limit n rest ≡ Whole body after → sized limit n (rest ++ more) ≡ Whole body (after ++ more)
sized_more limit n rest more body after e =
    let h = sized_ok (ltb limit n) (ltb (length rest) n) (bad.TooLong n) (take n rest) (drop n rest) body after e in
    let long : n ≤ length rest = ltb-false _ _ h.1 in
    let still : ltb (length (rest ++ more)) n ≡ false = le-ltb _ _ (omega (arith, length-append rest more)) in
    ap (λ (b : Bool). either b (Bad (bad.TooLong n)) (either (ltb (length (rest ++ more)) n) Short (Whole (take n (rest ++ more)) (drop n (rest ++ more))))) h.0
    ∙ ap (λ (b : Bool). either b Short (Whole (take n (rest ++ more)) (drop n (rest ++ more)))) still
    ∙ ap (λ (x : List ℕ). Whole x (drop n (rest ++ more))) (take-append-le n rest more long ∙ h.2)
    ∙ ap (λ (y : List ℕ). Whole body y) (drop-append-le n rest more long ∙ ap (λ (r : List ℕ). r ++ more) h.3)

whole_more : (limit : ℕ) (r : Parsed ℕ) (bytes more body after : List ℕ) → varint32_at bytes ≡ r → front_of limit r ≡ Whole body after → front limit (bytes ++ more) ≡ Whole body (after ++ more)
whole_more limit (Ok x) bytes more body after e h = ap (front_of limit) (reading_more varint32_at bytes more x.0 x.1 varint32_local e) ∙ sized_more limit x.0 x.1 more body after h
whole_more limit (Err faults.EndOfBuffer) bytes more body after e h = absurd cc
whole_more limit (Err faults.InvalidVarint) bytes more body after e h = absurd cc
whole_more limit (Err (faults.InvalidLength f l)) bytes more body after e h = absurd cc
whole_more limit (Err (faults.InvalidEnum t)) bytes more body after e h = absurd cc
whole_more limit (Err faults.Invalid) bytes more body after e h = absurd cc
whole_more limit (Err (faults.ExtraData d)) bytes more body after e h = absurd cc
whole_more limit (Err faults.OutOfMemory) bytes more body after e h = absurd cc

-- a whole frame stays whole, and the same
pub front_more : (limit : ℕ) (bytes more body after : List ℕ) → front limit bytes ≡ Whole body after → front limit (bytes ++ more) ≡ Whole body (after ++ more)
front_more limit bytes more body after h = whole_more limit (varint32_at bytes) bytes more body after refl h

-- the frames of bytes are the first frames of longer bytes
pub Leads-more : (limit : ℕ) (bytes : List ℕ) (bodies : List (List ℕ)) (rest more : List ℕ) → Leads limit bytes bodies rest → Leads limit (bytes ++ more) bodies (rest ++ more)
Leads-more limit bytes [] rest more h = ap (λ (x : List ℕ). x ++ more) h
Leads-more limit bytes (body ∷ bodies) rest more h = (h.0 ++ more, front_more limit bytes more body h.0 h.1, Leads-more limit h.0 bodies rest more h.2)

sized_bad : (a b : Bool) (fault found : FrameError) (x y : List ℕ) → either a (Bad found) (either b Short (Whole x y)) ≡ Bad fault → (a ≡ true) × (found ≡ fault)
sized_bad true b fault found x y e = (refl, cc)
sized_bad false true fault found x y e = absurd cc
sized_bad false false fault found x y e = absurd cc

bad_more : (limit : ℕ) (fault : FrameError) (r : Parsed ℕ) (bytes more : List ℕ) → varint32_at bytes ≡ r → front_of limit r ≡ Bad fault → front limit (bytes ++ more) ≡ Bad fault
bad_more limit fault (Ok x) bytes more e h =
    let a = sized_bad (ltb limit x.0) (ltb (length x.1) x.0) fault (bad.TooLong x.0) (take x.0 x.1) (drop x.0 x.1) h in
    ap (front_of limit) (reading_more varint32_at bytes more x.0 x.1 varint32_local e)
    ∙ (ap (λ (b : Bool). either b (Bad (bad.TooLong x.0)) (either (ltb (length (x.1 ++ more)) x.0) Short (Whole (take x.0 (x.1 ++ more)) (drop x.0 (x.1 ++ more))))) a.0
    ∙ ap Bad a.1)
bad_more limit fault (Err faults.EndOfBuffer) bytes more e h = absurd cc
bad_more limit fault (Err faults.InvalidVarint) bytes more e h = ap (front_of limit) (varint_still (2 ^ 32 - 1) 5 true bytes more faults.InvalidVarint (λ q. absurd cc) e) ∙ h
bad_more limit fault (Err (faults.InvalidLength f l)) bytes more e h = ap (front_of limit) (varint_still (2 ^ 32 - 1) 5 true bytes more (faults.InvalidLength f l) (λ q. absurd cc) e) ∙ h
bad_more limit fault (Err (faults.InvalidEnum t)) bytes more e h = ap (front_of limit) (varint_still (2 ^ 32 - 1) 5 true bytes more (faults.InvalidEnum t) (λ q. absurd cc) e) ∙ h
bad_more limit fault (Err faults.Invalid) bytes more e h = ap (front_of limit) (varint_still (2 ^ 32 - 1) 5 true bytes more faults.Invalid (λ q. absurd cc) e) ∙ h
bad_more limit fault (Err (faults.ExtraData d)) bytes more e h = ap (front_of limit) (varint_still (2 ^ 32 - 1) 5 true bytes more (faults.ExtraData d) (λ q. absurd cc) e) ∙ h
bad_more limit fault (Err faults.OutOfMemory) bytes more e h = ap (front_of limit) (varint_still (2 ^ 32 - 1) 5 true bytes more faults.OutOfMemory (λ q. absurd cc) e) ∙ h

-- a bad length stays bad
pub front_still : (limit : ℕ) (fault : FrameError) (bytes more : List ℕ) → front limit bytes ≡ Bad fault → front limit (bytes ++ more) ≡ Bad fault
front_still limit fault bytes more h = bad_more limit fault (varint32_at bytes) bytes more refl h

pub frames_stay : (limit : ℕ) (bytes piece : List ℕ) → FramesStay limit bytes piece
frames_stay limit bytes piece = record {
  frames = λ bodies rest h. Leads-more limit bytes bodies rest piece h;
  bad_length = λ fault h. front_still limit fault bytes piece h;
}

-- a frame that was written stands at the front, whatever follows
pub framed : (limit : ℕ) (body rest : List ℕ) → length body ≤ limit → limit ≤ 2 ^ 32 - 1 → front limit (string_written body ++ rest) ≡ Whole body rest
framed limit body rest le most =
    let within : ltb limit (length body) ≡ false = le-ltb _ _ le in
    let long : ltb (length (body ++ rest)) (length body) ≡ false = le-ltb _ _ (omega (arith, length-append body rest)) in
    ap (front limit) (append_assoc (varint (length body)) body rest)
    ∙ (ap (front_of limit) (varint32_again (length body) (body ++ rest) (omega arith))
    ∙ rw (within, long, take_at body rest (length body) refl, drop_at body rest (length body) refl) refl)
