-- What was heard of a link, piece by piece.
use Rattle.std.proofs.Common.{◌≡◌, ◌≢◌, ℕ, ◌+◌, ◌-◌, ◌^◌, ◌≤◌, Bool, true, false, List, [], ◌∷◌, ◌++◌, Option, Some, None, Result, Ok, Err, refl, sym, ap, subst, ◌∙◌, append_assoc, arith, flat_map, inl, inr}
use Rattle.std.specs.Prelude.{min, option_map, ◌||◌, ◌&&◌, ◌==◌, nat_lt, length, take, filter_map}
use Rattle.std.specs.List.{cons_option}
use Rattle.std.proofs.lemmas.Bool.Decides.{nat_tests}
use Rattle.std.proofs.lemmas.List.{append-nil}
use Rattle.std.proofs.lemmas.List.Concat.{flat_map-cons}
use Rattle.std.proofs.lemmas.List.Elements.{filter_map-append}
use Rattle.std.proofs.lemmas.Grind.{flat_map-append}
use Rattle.ledger_codec.specs.Causes.{Rose}
use Rattle.ledger_codec.specs.declared.framing.FrameError.{FrameError}
use Rattle.ledger_codec.specs.Frames.{Front, Whole, Short, Bad, front, Leads}
use Rattle.ledger_codec.specs.Held.{Held}
use Rattle.ledger_codec.proofs.Stable.{front_more}
use Rattle.sync_net.specs.Wire.{Wire, with_sent, wire_received}
use Rattle.sync_sessions.specs.declared.ending.SessionEnd.{SessionEnd}
use Rattle.sync_sessions.specs.declared.ending.SessionEnd.TheVariants.{Done, Network, BrokenFrame, PassSpent, OutOfMemory}
use Rattle.sync_sessions.specs.declared.hearing.Found.TheVariants as found
use Rattle.sync_sessions.specs.Hearing.{wire_after, Since, Heard, Stops}
use Rattle.sync_sessions.specs.Replying.{IsSent}
use Rattle.sync_sessions.specs.Steps.{Takes, Receives}

-- ---- what a link tells

or_then : (a b : Bool) → ((a || false) || b) ≡ (a || b)
or_then true b = refl
or_then false b = refl

or_none : (a : Bool) → (a || false) ≡ a
or_none true = refl
or_none false = refl

pub since_none : (told : Option Wire) → Since told told [] false []
since_none None = refl
since_none (Some w) = rw (append-nil w.given, append-nil w.sent, or_none w.ended) refl

since_then : (a b c : Option Wire) (g h : List ℕ) (ended : Bool) (s t : List ℕ) → Since a b g false s → Since b c h ended t → Since a c (g ++ h) ended (s ++ t)
since_then None b c g h ended s t p q = q ∙ ap (option_map (wire_after h ended t)) p
since_then (Some w) b c g h ended s t p q =
    q ∙ ap (option_map (wire_after h ended t)) p ∙ rw (append_assoc w.given g h, append_assoc w.sent s t, or_then w.ended ended) refl

since_sent : (a b : Option Wire) (frame : List ℕ) → b ≡ option_map (with_sent frame) a → Since a b [] false frame
since_sent None b frame p = p
since_sent (Some w) b frame p = p ∙ rw (append-nil w.given, or_none w.ended) refl

-- the end isn't given by a recv that gives bytes
not_ended : (e zero room : Bool) → zero ≡ false → (e || (zero && room)) ≡ (e || false)
not_ended e true room h = absurd cc
not_ended e false room h = refl

not_zero : (n : ℕ) → n ≢ 0 → (n == 0) ≡ false
not_zero n h = grind (arith, nat_tests)

pub since_given : (a b : Option Wire) (n : ℕ) (buffer : List ℕ) → n ≢ 0 → b ≡ wire_received (Ok n) buffer a → Since a b (take n buffer) false []
since_given None b n buffer some p = p
since_given (Some w) b n buffer some p = p ∙ rw (append-nil w.sent, not_ended w.ended (n == 0) (nat_lt 0 (length buffer)) (not_zero n some)) refl

-- ---- frames

leads_then : (limit : ℕ) (bytes : List ℕ) (bodies : List (List ℕ)) (mid more : List ℕ) (others : List (List ℕ)) (rest : List ℕ) → Leads limit bytes bodies mid → Leads limit (mid ++ more) others rest → Leads limit (bytes ++ more) (bodies ++ others) rest
leads_then limit bytes [] mid more others rest h k = subst (λ (b : List ℕ). Leads limit (b ++ more) others rest) (sym h) k
leads_then limit bytes (b ∷ bodies) mid more others rest h k = (h.0 ++ more, front_more limit bytes more b h.0 h.1, leads_then limit h.0 bodies mid more others rest h.2 k)

-- of the same limit
limited : (limit : ℕ) (bytes : List ℕ) (what : Front) → limit ≡ 10485760 → front limit bytes ≡ what → front 10485760 bytes ≡ what
limited limit bytes what is e = ap (λ (n : ℕ). front n bytes) (sym is) ∙ e

-- a count that rose in the last step rose
pub rose_since : (a b c : ℕ) → a ≤ b → Rose b c → Rose a c
rose_since a b c le h = let r : min (b + 1) (2 ^ 64 - 1) ≤ c = h in omega arith

-- ---- what was heard

module _ {M : Type 0} (spelled : List ℕ → Option M) (framed : M → List ℕ) where
  pub heard_none : (held : List ℕ) (told : Option Wire) → Heard spelled framed held held told told false [] []
  heard_none held told = record { given = []; bodies = []; led = append-nil held; found = refl; told = since_none told }

  pub heard_then : (held mid rest : List ℕ) (a b c : Option Wire) (ended : Bool) (ms ns ss ts : List M) → Heard spelled framed held mid a b false ms ss → Heard spelled framed mid rest b c ended ns ts
      → Heard spelled framed held rest a c ended (ms ++ ns) (ss ++ ts)
  heard_then held mid rest a b c ended ms ns ss ts h k = record {
    given = h.given ++ k.given;
    bodies = h.bodies ++ k.bodies;
    led = subst (λ (x : List ℕ). Leads 10485760 x (h.bodies ++ k.bodies) rest) (append_assoc held h.given k.given) (leads_then 10485760 (held ++ h.given) h.bodies mid k.given k.bodies rest h.led k.led);
    found = filter_map-append spelled h.bodies k.bodies ∙ (ap (λ (x : List M). x ++ filter_map spelled k.bodies) h.found ∙ ap (λ (x : List M). ms ++ x) k.found);
    told = subst (λ (s : List ℕ). Since a c (h.given ++ k.given) ended s) (sym (flat_map-append framed ss ts)) (since_then a b c h.given k.given ended (flat_map framed ss) (flat_map framed ts) h.told k.told);
  }

  heard_frame : (held after body : List ℕ) (told : Option Wire) (messages : List M) → front 10485760 held ≡ Whole body after → cons_option (spelled body) [] ≡ messages → Heard spelled framed held after told told false messages []
  heard_frame held after body told messages e is = record {
    given = [];
    bodies = body ∷ [];
    led = (after, ap (front 10485760) (append-nil held) ∙ e, refl);
    found = is;
    told = since_none told;
  }

  heard_given : (held given : List ℕ) (a b : Option Wire) (ended : Bool) → Since a b given ended [] → Heard spelled framed held (held ++ given) a b ended [] []
  heard_given held given a b ended told = record { given = given; bodies = []; led = refl; found = refl; told = told }

  pub heard_sent : (held : List ℕ) (a b : Option Wire) (m : M) → IsSent framed m a b → Heard spelled framed held held a b false [] (m ∷ [])
  heard_sent held a b m is = record {
    given = [];
    bodies = [];
    led = append-nil held;
    found = refl;
    told = subst (λ (s : List ℕ). Since a b [] false s) (sym (flat_map-cons framed m [] ∙ append-nil (framed m))) (since_sent a b (framed m) is);
  }

  -- ---- one step

  pub took_message : (old now : Held) (told : Option Wire) (m : M) → old.limit ≡ 10485760 → Takes spelled (Ok (found.Sent m)) old now → Heard spelled framed old.bytes now.bytes told told false (m ∷ []) []
  took_message old now told m limit t = heard_frame old.bytes now.bytes t.0 told (m ∷ []) (limited old.limit old.bytes (Whole t.0 now.bytes) limit t.1) (ap (λ (o : Option M). cons_option o []) t.2)

  pub took_other : (old now : Held) (told : Option Wire) → old.limit ≡ 10485760 → Takes spelled (Ok found.Other) old now → Heard spelled framed old.bytes now.bytes told told false [] []
  took_other old now told limit t = heard_frame old.bytes now.bytes t.0 told [] (limited old.limit old.bytes (Whole t.0 now.bytes) limit t.1) (ap (λ (o : Option M). cons_option o []) t.2)

  -- nothing was taken, and no message will come
  pub took_none : (end : SessionEnd) (old now : Held) (told : Option Wire) (count risen : ℕ) → old.limit ≡ 10485760 → Takes spelled (Err end) old now → Stops spelled framed end old.bytes told told count risen
  took_none Done old now told count risen limit t = absurd t
  took_none Network old now told count risen limit t = absurd t
  took_none PassSpent old now told count risen limit t = absurd t
  took_none BrokenFrame old now told count risen limit t = (old.bytes, false, heard_none old.bytes told, inl (refl, t.0, limited old.limit old.bytes (Bad t.0) limit t.1))
  took_none OutOfMemory old now told count risen limit t = (old.bytes, heard_none old.bytes told)

  -- bytes came
  pub received : (old mid : Held) (left : List ℕ) (a b : Option Wire) (count risen : ℕ) → mid ≡ old → Receives (Ok tt) mid.bytes left a b count risen → Heard spelled framed old.bytes left a b false [] []
  received old mid left a b count risen same r =
      let e : left ≡ old.bytes ++ r.0 = r.2 ∙ ap (λ (h : Held). h.bytes ++ r.0) same in
      subst (λ (x : List ℕ). Heard spelled framed old.bytes x a b false [] []) (sym e) (heard_given old.bytes r.0 a b false r.1)

  -- none came, behind the beginning of a frame
  pub received_none : (end : SessionEnd) (old mid : Held) (left : List ℕ) (a b : Option Wire) (count risen : ℕ) → old.limit ≡ 10485760 → Takes spelled (Ok found.Part) old mid → Receives (Err end) mid.bytes left a b count risen → Stops spelled framed end old.bytes a b count risen
  received_none Done old mid left a b count risen limit t r =
      let e : old.bytes ++ [] ≡ [] = append-nil old.bytes ∙ (ap (λ (h : Held). h.bytes) (sym t.1) ∙ r.1) in
      subst (λ (x : List ℕ). Heard spelled framed old.bytes x a b true [] []) e (heard_given old.bytes [] a b true r.0)
  received_none Network old mid left a b count risen limit t r =
      (r.1, old.bytes ++ [], heard_given old.bytes [] a b false r.0, ap (front 10485760) (append-nil old.bytes) ∙ limited old.limit old.bytes Short limit t.0)
  received_none PassSpent old mid left a b count risen limit t r = absurd r
  received_none BrokenFrame old mid left a b count risen limit t r =
      let same : old.bytes ++ [] ≡ mid.bytes = append-nil old.bytes ∙ ap (λ (h : Held). h.bytes) (sym t.1) in
      (old.bytes ++ [], true, heard_given old.bytes [] a b true r.0, inr (refl, (λ e. r.1 (sym same ∙ e)), ap (front 10485760) (append-nil old.bytes) ∙ limited old.limit old.bytes Short limit t.0))
  received_none OutOfMemory old mid left a b count risen limit t r = (old.bytes ++ r.0, heard_given old.bytes r.0 a b false r.1)

  -- ---- one step after others

  pub stops_then : (end : SessionEnd) (held mid : List ℕ) (a b c : Option Wire) (first count risen : ℕ) → first ≤ count → Heard spelled framed held mid a b false [] [] → Stops spelled framed end mid b c count risen → Stops spelled framed end held a c first risen
  stops_then Done held mid a b c first count risen le h s = heard_then held mid [] a b c true [] [] [] [] h s
  stops_then Network held mid a b c first count risen le h s = (rose_since first count risen le s.0, s.1, heard_then held mid s.1 a b c false [] [] [] [] h s.2, s.3)
  stops_then PassSpent held mid a b c first count risen le h s = absurd s
  stops_then BrokenFrame held mid a b c first count risen le h s = (s.0, s.1, heard_then held mid s.0 a b c s.1 [] [] [] [] h s.2, s.3)
  stops_then OutOfMemory held mid a b c first count risen le h s = (s.0, heard_then held mid s.0 a b c false [] [] [] [] h s.1)
