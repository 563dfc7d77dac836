-- Steps of a session over a link, and how it ends.
use Rattle.std.proofs.Common.{◌≡◌, ℕ, ◌+◌, ◌-◌, ◌<◌, ◌≤◌, Bool, true, false, List, [], ◌∷◌, ◌++◌, length, take, Option, Some, None, Ok, refl, sym, ap, subst, ◌∙◌, append_assoc, length-append, arith, flat_map, inl, inr, ◌⊎◌, ◌^◌}
use Rattle.std.specs.Prelude.{option_map, ◌||◌, ◌&&◌, ◌==◌, nat_lt}
use Rattle.std.proofs.lemmas.List.{append-nil}
use Rattle.std.proofs.lemmas.List.Concat.{flat_map-cons}
use Rattle.std.proofs.lemmas.Grind.{flat_map-append}
use Rattle.ledger_codec.specs.Frames.{Whole, Short, front, Leads}
use Rattle.ledger_codec.proofs.Stable.{Leads-more}
use Rattle.ledger_log.specs.declared.target.Target.{Target}
use Rattle.sync_net.specs.View.{MachineView}
use Rattle.sync_net.specs.Wire.{Wire, with_sent, with_given}
use Rattle.sync_client.specs.Tiles.{size_of_pieces}
use Rattle.sync_client.specs.Session.{Ask, State, Rules, Nothing, Send, ask_next, take_frame, is_whole, frame_of}
use Rattle.sync_client.specs.Runs.{Sends, Reaches, Outcome, Ends, Waits, Session}
use Rattle.sync_client.specs.Ending.{Since, wire_after, Origin, bytes_of, handled, Came, Over, SendStopped, Starved, refused_at}
use Rattle.sync_client.proofs.Rising.{rises, sending_keeps, taking_keeps}

-- ---- what a link tells

or_then : (a b : Bool) → ((a || false) || b) ≡ (a || b)
or_then true b = refl
or_then false b = refl

or_none : (a : Bool) → (a || false) ≡ a
or_none true = refl
or_none false = refl

pub Since-none : (told : Option Wire) → Since told told [] false []
Since-none None = refl
Since-none (Some w) = rw (append-nil w.given, append-nil w.sent, or_none w.ended) refl

pub Since-then : (a b c : Option Wire) (g h : List ℕ) (ended : Bool) (s t : List ℕ) → Since a b g false s → Since b c h ended t → Since a c (g ++ h) ended (s ++ t)
Since-then None b c g h ended s t p q = q ∙ ap (option_map (wire_after h ended t)) p
Since-then (Some w) b c g h ended s t p q =
    q ∙ ap (option_map (wire_after h ended t)) p ∙ rw (append_assoc w.given g h, append_assoc w.sent s t, or_then w.ended ended) refl

-- these bytes were sent
pub Since-sent : (a b c : Option Wire) (g s frame : List ℕ) → Since a b g false s → c ≡ option_map (with_sent frame) b → Since a c g false (s ++ frame)
Since-sent None b c g s frame p q = q ∙ ap (option_map (with_sent frame)) p
Since-sent (Some w) b c g s frame p q = q ∙ ap (option_map (with_sent frame)) p ∙ rw (append_assoc w.sent s frame) refl

above : (n : ℕ) → 0 < n → (n == 0) ≡ false
above n h = grind arith

-- n bytes came
pub Since-given : (told now : Option Wire) (buffer : List ℕ) (n : ℕ) → 0 < n → now ≡ option_map (with_given n buffer) told → Since told now (take n buffer) false []
Since-given None now buffer n some e = e
Since-given (Some w) now buffer n some e =
    let none : (n == 0 && nat_lt 0 (length buffer)) ≡ false = rw (above n some) refl in
    e ∙ rw (none, append-nil w.sent) refl

-- the end came
pub Since-ended : (told now : Option Wire) (buffer : List ℕ) (n : ℕ) → n ≡ 0 → 0 < length buffer → now ≡ option_map (with_given n buffer) told → Since told now [] true []
Since-ended None now buffer n none room e = e
Since-ended (Some w) now buffer n none room e =
    let t : nat_lt 0 (length buffer) ≡ true = grind arith in
    e ∙ rw (none, t, append-nil w.sent) refl

-- ---- runs

Sends-more : {Op : Type 0} (s : State Op) (asks : List Ask) (t u : State Op) (ask : Ask) → Sends s asks t → ask_next t ≡ Send ask u → Sends s (asks ++ ask ∷ []) u
Sends-more s [] t u ask h e = (u, ap ask_next h ∙ e, refl)
Sends-more s (a ∷ asks) t u ask h e = (h.0, h.1, Sends-more h.0 asks t u ask h.2 e)

-- one ask more
pub Reaches-sent : {Op : Type 0} (rules : Rules Op) (s : State Op) (bodies : List (List ℕ)) (asks : List Ask) (t u : State Op) (ask : Ask) → Reaches rules s bodies asks t → ask_next t ≡ Send ask u → Reaches rules s bodies (asks ++ ask ∷ []) u
Reaches-sent rules s [] asks t u ask h e = Sends-more s asks t u ask h e
Reaches-sent rules s (b ∷ bodies) asks t u ask h e =
    (h.0, h.1, h.2, h.3 ++ ask ∷ [], h.4, h.5, h.6, h.7, ap (λ (x : List Ask). x ++ ask ∷ []) h.8 ∙ append_assoc h.2 h.3 (ask ∷ []), Reaches-sent rules h.1 bodies h.3 t u ask h.9 e)

-- one frame more
pub Reaches-taken : {Op : Type 0} (rules : Rules Op) (s : State Op) (bodies : List (List ℕ)) (asks : List Ask) (t u : State Op) (body : List ℕ) → Reaches rules s bodies asks t → ask_next t ≡ Nothing → is_whole t ≡ false → take_frame rules t body ≡ Ok u → Reaches rules s (bodies ++ body ∷ []) asks u
Reaches-taken rules s [] asks t u body h e w k = (t, u, asks, [], h, e, w, k, sym (append-nil asks), refl)
Reaches-taken rules s (b ∷ bodies) asks t u body h e w k =
    (h.0, h.1, h.2, h.3, h.4, h.5, h.6, h.7, h.8, Reaches-taken rules h.1 bodies h.3 t u body h.9 e w k)

pub Leads-on : (limit : ℕ) (bytes : List ℕ) (bodies : List (List ℕ)) (rest body after : List ℕ) → Leads limit bytes bodies rest → front limit rest ≡ Whole body after → Leads limit bytes (bodies ++ body ∷ []) after
Leads-on limit bytes [] rest body after h e = (after, ap (front limit) h ∙ e, refl)
Leads-on limit bytes (b ∷ bodies) rest body after h e = (h.0, h.1, Leads-on limit h.0 bodies rest body after h.2 e)

-- ---- steps

pub unclosed : (a b : Bool) → a ≡ b → a ≡ false → b ≡ true → ⊥
unclosed a b e f t = cc

-- nothing was done yet
pub Came-first : {Op : Type 0} (o : Origin Op) → o.start.strays ≤ 1024 → Came o o.start o.held o.closed o.wire o.count
Came-first o few = record { given = []; bodies = []; asks = []; led = append-nil o.held; reached = refl; told = Since-none o.wire; read = inl refl; few = omega arith; strays = few; later = omega arith; as_before = refl; still = λ q. (refl, refl, refl) }

bytes-more : {Op : Type 0} (o : Origin Op) (asks : List Ask) (ask : Ask) → bytes_of o asks ++ frame_of o.rules.written ask ≡ bytes_of o (asks ++ ask ∷ [])
bytes-more o asks ask =
    let f : Ask → List ℕ = frame_of o.rules.written in
    let one : flat_map f (ask ∷ []) ≡ f ask = flat_map-cons f ask [] ∙ append-nil (f ask) in
    sym (flat_map-append f asks (ask ∷ []) ∙ ap (λ (x : List ℕ). flat_map f asks ++ x) one)

-- an ask was sent
pub Came-sent : {Op : Type 0} (o : Origin Op) (written : Op → List ℕ) (t u : State Op) (ask : Ask) (rest frame : List ℕ) (closed after : Bool) (wire now : Option Wire) (count risen : ℕ)
    → Came o t rest closed wire count → o.rules.written ≡ written → ask_next t ≡ Send ask u → frame ≡ frame_of written ask → closed ≡ false → after ≡ false → now ≡ option_map (with_sent frame) wire → count ≤ risen
    → Came o u rest after now risen
Came-sent {Op} o written t u ask rest frame closed after wire now count risen h w e f shut live told le =
    let k = sending_keeps t u ask e in
    let bytes : frame ≡ frame_of o.rules.written ask = f ∙ ap (λ (x : Op → List ℕ). frame_of x ask) (sym w) in
    record {
      given = h.given;
      bodies = h.bodies;
      asks = h.asks ++ ask ∷ [];
      led = h.led;
      reached = Reaches-sent o.rules o.start h.bodies h.asks t u ask h.reached e;
      told = subst (λ (x : List ℕ). Since o.wire now h.given false x) (ap (λ (x : List ℕ). bytes_of o h.asks ++ x) bytes ∙ bytes-more o h.asks ask) (Since-sent o.wire wire now h.given (bytes_of o h.asks) frame h.told told);
      few = let a = h.few in let b : handled u ≡ handled t = k.handled in omega arith;
      strays = let a = h.strays in let b : u.strays ≡ t.strays = k.strays in omega arith;
      read = h.read;
      later = let a = h.later in omega arith;
      as_before = live ∙ (sym shut ∙ h.as_before);
      still = λ q. absurd (unclosed closed o.closed h.as_before shut q);
    }

-- the session over the bytes so far waits
pub waits_so : {Op : Type 0} (o : Origin Op) (t : State Op) (rest : List ℕ) (closed : Bool) (wire : Option Wire) (count : ℕ) (h : Came o t rest closed wire count) → ask_next t ≡ Nothing → is_whole t ≡ false → front 10485760 rest ≡ Short
    → Session o.rules o.start (o.held ++ h.given) false Waits h.asks
waits_so o t rest closed wire count h nothing more short = record { bodies = h.bodies; rest = rest; last = t; led = h.led; reached = h.reached; ends = (nothing, more, short, refl) }

-- bytes came
pub Came-given : {Op : Type 0} (o : Origin Op) (t : State Op) (rest more : List ℕ) (closed after : Bool) (wire now : Option Wire) (count risen : ℕ)
    → Came o t rest closed wire count → ask_next t ≡ Nothing → is_whole t ≡ false → front 10485760 rest ≡ Short → length more ≤ 4096 → Since wire now more false [] → closed ≡ false → after ≡ closed → count ≤ risen → Came o t (rest ++ more) after now risen
Came-given o t rest more closed after wire now count risen h nothing left short few told shut same le =
    record {
      given = h.given ++ more;
      bodies = h.bodies;
      asks = h.asks;
      reached = h.reached;
      read = inr (h.given, more, h.asks, refl, few, waits_so o t rest closed wire count h nothing left short);
      few = h.few;
      strays = h.strays;
      led = subst (λ (x : List ℕ). Leads 10485760 x h.bodies (rest ++ more)) (append_assoc o.held h.given more) (Leads-more 10485760 (o.held ++ h.given) h.bodies rest more h.led);
      told = subst (λ (x : List ℕ). Since o.wire now (h.given ++ more) false x) (append-nil (bytes_of o h.asks)) (Since-then o.wire wire now h.given more false (bytes_of o h.asks) [] h.told told);
      later = let a = h.later in omega arith;
      as_before = same ∙ h.as_before;
      still = λ q. absurd (unclosed closed o.closed h.as_before shut q);
    }

-- a frame was taken
pub Came-taken : {Op : Type 0} (o : Origin Op) (rules : Rules Op) (t u : State Op) (rest body left : List ℕ) (closed after : Bool) (wire : Option Wire) (count : ℕ)
    → Came o t rest closed wire count → o.rules ≡ rules → ask_next t ≡ Nothing → is_whole t ≡ false → front 10485760 rest ≡ Whole body left → take_frame rules t body ≡ Ok u → closed ≡ false → after ≡ false
    → Came o u left after wire count
Came-taken {Op} o rules t u rest body left closed after wire count h r e w f k shut live =
    let k2 : take_frame o.rules t body ≡ Ok u = ap (λ (x : Rules Op). take_frame x t body) r ∙ k in
    let kept = taking_keeps o.rules t u body k2 in
    let up : handled t < handled u = rises o.rules t u body k2 in
    record {
      given = h.given;
      bodies = h.bodies ++ body ∷ [];
      asks = h.asks;
      led = Leads-on 10485760 (o.held ++ h.given) h.bodies rest body left h.led f;
      reached = Reaches-taken o.rules o.start h.bodies h.asks t u body h.reached e w k2;
      told = h.told;
      few = let a = h.few in let n : length (h.bodies ++ body ∷ []) ≡ length h.bodies + 1 = length-append h.bodies (body ∷ []) in omega arith;
      strays = kept.1 h.strays;
      read = h.read;
      later = h.later;
      as_before = live ∙ (sym shut ∙ h.as_before);
      still = λ q. absurd (unclosed closed o.closed h.as_before shut q);
    }

-- ---- ends

opened-so : (a b : Bool) → a ≡ b → a ≡ false → b ≡ false
opened-so a b e f = sym e ∙ f

-- no more is kept than the range has places, and its end is one of a log's
abbrev pub Fits : {Op : Type 0} → State Op → Type 0
Fits t = (size_of_pieces t.kept ≤ t.plan.target.end - t.plan.target.start) × (t.plan.target.end ≤ 2 ^ 62)

-- the session over the bytes ends here
pub Over-from : {Op : Type 0} (o : Origin Op) (t : State Op) (rest : List ℕ) (closed ended : Bool) (updates : List (Option Target)) (wire now : Option Wire) (count : ℕ) (outcome : Outcome Op)
    → Came o t rest closed wire count → closed ≡ false → Fits t → Since wire now [] ended [] → (ended ≡ true → Ends o.rules t rest false Waits) → t.updates ≡ refused_at outcome ++ updates → Ends o.rules t rest ended outcome → Over o updates now outcome
Over-from {Op} o t rest closed ended updates wire now count outcome h shut fits told waits left ends =
    record {
      given = h.given;
      ended = ended;
      asks = h.asks;
      session = record { bodies = h.bodies; rest = rest; last = t; led = h.led; reached = h.reached; ends = ends };
      told =
          let both = Since-then o.wire wire now h.given [] ended (bytes_of o h.asks) [] h.told told in
          subst (λ (x : List ℕ). Since o.wire now x ended (bytes_of o h.asks)) (append-nil h.given) (subst (λ (x : List ℕ). Since o.wire now (h.given ++ []) ended x) (append-nil (bytes_of o h.asks)) both);
      read = h.read;
      waited = λ e. record { bodies = h.bodies; rest = rest; last = t; led = h.led; reached = h.reached; ends = waits e };
      left = left;
      few = let a = h.few in let b = h.strays in let c = fits.0 in omega arith;
      near = fits.1;
      opened = opened-so closed o.closed h.as_before shut;
    }

-- and these bytes are left
pub Over-rest : {Op : Type 0} (o : Origin Op) (t : State Op) (rest : List ℕ) (closed ended : Bool) (updates : List (Option Target)) (wire now : Option Wire) (count : ℕ) (outcome : Outcome Op)
    (h : Came o t rest closed wire count) (shut : closed ≡ false) (fits : Fits t) (told : Since wire now [] ended []) (waits : ended ≡ true → Ends o.rules t rest false Waits) (left : t.updates ≡ refused_at outcome ++ updates) (ends : Ends o.rules t rest ended outcome)
    → (Over-from o t rest closed ended updates wire now count outcome h shut fits told waits left ends).session.rest ≡ rest
unfolding Over-from
Over-rest o t rest closed ended updates wire now count outcome h shut fits told waits left ends = refl

-- the end wasn't given
pub not-ended : {X : Type 0} → false ≡ true → X
not-ended e = absurd (cc e)

-- an ask wasn't sent
pub Stopped-from : {Op : Type 0} (o : Origin Op) (t u : State Op) (ask : Ask) (rest held : List ℕ) (closed : Bool) (wire now : Option Wire) (count : ℕ)
    → Came o t rest closed wire count → held ≡ rest → closed ≡ false → ask_next t ≡ Send ask u → now ≡ wire → SendStopped o held t.updates now
Stopped-from o t u ask rest held closed wire now count h same shut e told =
    record {
      given = h.given;
      bodies = h.bodies;
      sent = h.asks;
      last = t;
      unsent = ask;
      after = u;
      led = subst (λ (x : List ℕ). Leads 10485760 (o.held ++ h.given) h.bodies x) (sym same) h.led;
      reached = h.reached;
      next = e;
      told = told ∙ h.told;
      read = h.read;
      left = refl;
      opened = opened-so closed o.closed h.as_before shut;
    }

-- memory was wanting, and these bytes came and aren't held
pub Starved-from : {Op : Type 0} (o : Origin Op) (t : State Op) (rest lost : List ℕ) (closed : Bool) (m : MachineView) (updates : List (Option Target)) (wire now : Option Wire) (count risen : ℕ) (h : Came o t rest closed wire count)
    → ((lost ≡ []) ⊎ ((length lost ≤ 4096) × Session o.rules o.start (o.held ++ h.given) false Waits h.asks)) → ((m.held ≡ rest) ⊎ ((ask_next t ≡ Nothing) × (is_whole t ≡ false) × (body : List ℕ) × (front 10485760 rest ≡ Whole body m.held)))
    → m.closed ≡ closed → t.updates ≡ updates → Since wire now lost false [] → count ≤ risen → Starved o m updates now risen
Starved-from o t rest lost closed m updates wire now count risen h waited holds same left told le =
    record {
      given = h.given;
      lost = lost;
      bodies = h.bodies;
      rest = rest;
      sent = h.asks;
      last = t;
      led = h.led;
      reached = h.reached;
      told = subst (λ (x : List ℕ). Since o.wire now (h.given ++ lost) false x) (append-nil (bytes_of o h.asks)) (Since-then o.wire wire now h.given lost false (bytes_of o h.asks) [] h.told told);
      read = h.read;
      waited = waited;
      holds = holds;
      left = left;
      as_before = same ∙ h.as_before;
      later = let a = h.later in omega arith;
    }
