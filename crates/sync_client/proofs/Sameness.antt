-- A session is one function of the bytes, and over longer bytes it goes on.
use Rattle.std.proofs.Common.{◌≡◌, ℕ, Bool, true, false, List, [], ◌∷◌, ◌++◌, Ok, Err, Result, refl, sym, ap, subst, ◌∙◌, inl, inr, append_assoc}
use Rattle.std.proofs.lemmas.List.{append-nil}
use Rattle.ledger_codec.specs.Frames.{Front, Whole, Short, Bad, front, Leads}
use Rattle.ledger_codec.proofs.Stable.{Leads-more, front_more, front_still}
use Rattle.sync_client.specs.Session.{Ask, State, Rules, Offence, Next, Nothing, Send, Exhausted, ask_next, take_frame, is_whole}
use Rattle.sync_client.specs.Runs.{Sends, Reaches, Outcome, Complete, Offends, Closes, Waits, Exhausts, Ends, Session, SessionLaws}

-- no ask may be sent
abbrev Stuck : {Op : Type 0} → State Op → Type 0
Stuck {Op} t = (ask : Ask) (u : State Op) → ask_next t ≡ Send ask u → ⊥

-- no ask may be sent, and no frame can be taken
record Final {Op : Type 0} (rules : Rules Op) (t : State Op) (rest : List ℕ) : Type 0 where
  stuck : Stuck t
  done : (body after : List ℕ) (u : State Op) → ask_next t ≡ Nothing → is_whole t ≡ false → front 10485760 rest ≡ Whole body after → take_frame rules t body ≡ Ok u → ⊥

nothing_stuck : {Op : Type 0} (t : State Op) → ask_next t ≡ Nothing → Stuck t
nothing_stuck t e ask u f = cc (sym e ∙ f)

exhausted_stuck : {Op : Type 0} (t : State Op) → ask_next t ≡ Exhausted → Stuck t
exhausted_stuck t e ask u f = cc (sym e ∙ f)

abbrev ask_in : {Op : Type 0} → Ask → Next Op → Ask
ask_in d (Send ask u) = ask
ask_in d Nothing = d
ask_in d Exhausted = d

abbrev state_in : {Op : Type 0} → State Op → Next Op → State Op
state_in d (Send ask u) = u
state_in d Nothing = d
state_in d Exhausted = d

abbrev state_of : {Op : Type 0} → State Op → Result (State Op) Offence → State Op
state_of d (Ok s) = s
state_of d (Err e) = d

abbrev body_in : Front → List ℕ
body_in (Whole body rest) = body
body_in Short = []
body_in (Bad e) = []

abbrev rest_in : Front → List ℕ
rest_in (Whole body rest) = rest
rest_in Short = []
rest_in (Bad e) = []

-- a run that can't send on is the longer one
Sends-prefix : {Op : Type 0} (s : State Op) (xs ys : List Ask) (t u : State Op) → Sends s xs t → Sends s ys u → Stuck u → (zs : List Ask) × (ys ≡ xs ++ zs) × Sends t zs u
Sends-prefix s [] ys t u h k stuck = (ys, refl, subst (λ (z : State _). Sends z ys u) h k)
Sends-prefix s (x ∷ xs) [] t u h k stuck = absurd (stuck x h.0 (ap ask_next (sym k) ∙ h.1))
Sends-prefix {Op} s (x ∷ xs) (y ∷ ys) t u h k stuck =
    let e : Send x h.0 ≡ Send y k.0 = sym h.1 ∙ k.1 in
    let a : x ≡ y = ap (ask_in x) e in
    let m : h.0 ≡ k.0 = ap (state_in s) e in
    let r = Sends-prefix h.0 xs ys t u h.2 (subst (λ (z : State Op). Sends z ys u) (sym m) k.2) stuck in
    (r.0, ap (λ (l : List Ask). y ∷ l) r.1 ∙ ap (λ (z : Ask). z ∷ (xs ++ r.0)) (sym a), r.2)

-- nothing is sent where nothing may be
Sends-none : {Op : Type 0} (t u : State Op) (zs : List Ask) → Stuck t → Sends t zs u → (zs ≡ []) × (t ≡ u)
Sends-none t u [] stuck h = (refl, h)
Sends-none t u (z ∷ zs) stuck h = absurd (stuck z h.0 h.1)

Sends-same : {Op : Type 0} (s : State Op) (xs ys : List Ask) (t u : State Op) → Sends s xs t → Sends s ys u → Stuck t → Stuck u → (ys ≡ xs) × (t ≡ u)
Sends-same s xs ys t u h k st su =
    let p = Sends-prefix s xs ys t u h k su in
    let n = Sends-none t u p.0 st p.2 in
    (p.1 ∙ (ap (λ (l : List Ask). xs ++ l) n.0 ∙ append-nil xs), n.1)

-- what a run over the same bytes that can't go on adds to a run
record Onward {Op : Type 0} (rules : Rules Op) (t u : State Op) (r q : List ℕ) (xs ys : List Ask) : Type 0 where
  bodies : List (List ℕ)
  asks : List Ask
  all : ys ≡ xs ++ asks
  led : Leads 10485760 r bodies q
  reached : Reaches rules t bodies asks u

-- it goes on with that run
onward : {Op : Type 0} (rules : Rules Op) (s : State Op) (bytes : List ℕ) (bodies others : List (List ℕ)) (r q : List ℕ) (xs ys : List Ask) (t u : State Op)
    → Leads 10485760 bytes bodies r → Leads 10485760 bytes others q → Reaches rules s bodies xs t → Reaches rules s others ys u → Final rules u q → Onward rules t u r q xs ys
onward rules s bytes [] [] r q xs ys t u l m h k f =
    let p = Sends-prefix s xs ys t u h k f.stuck in
    record { bodies = []; asks = p.0; all = p.1; led = sym l ∙ m; reached = p.2 }
onward rules s bytes [] (d ∷ ds) r q xs ys t u l m h k f =
    let p = Sends-prefix s xs k.2 t k.0 h k.4 (nothing_stuck k.0 k.5) in
    record {
      bodies = d ∷ ds;
      asks = p.0 ++ k.3;
      all = k.8 ∙ (ap (λ (z : List Ask). z ++ k.3) p.1 ∙ append_assoc xs p.0 k.3);
      led = subst (λ (z : List ℕ). Leads 10485760 z (d ∷ ds) q) l m;
      reached = (k.0, k.1, p.0, k.3, p.2, k.5, k.6, k.7, refl, k.9);
    }
onward {Op} rules s bytes (c ∷ cs) [] r q xs ys t u l m h k f =
    let p = Sends-same s h.2 ys h.0 u h.4 k (nothing_stuck h.0 h.5) f.stuck in
    let fr : front 10485760 q ≡ Whole c l.0 = ap (front 10485760) (sym m) ∙ l.1 in
    absurd (f.done c l.0 h.1 (ap ask_next (sym p.1) ∙ h.5) (ap is_whole (sym p.1) ∙ h.6) fr (ap (λ (z : State Op). take_frame rules z c) (sym p.1) ∙ h.7))
onward {Op} rules s bytes (c ∷ cs) (d ∷ ds) r q xs ys t u l m h k f =
    let fe : Whole c l.0 ≡ Whole d m.0 = sym l.1 ∙ m.1 in
    let body : c ≡ d = ap body_in fe in
    let after : l.0 ≡ m.0 = ap rest_in fe in
    let p = Sends-same s h.2 k.2 h.0 k.0 h.4 k.4 (nothing_stuck h.0 h.5) (nothing_stuck k.0 k.5) in
    let taken : take_frame rules h.0 c ≡ take_frame rules k.0 d = ap (λ (z : State Op). take_frame rules z c) p.1 ∙ ap (take_frame rules k.0) body in
    let v : h.1 ≡ k.1 = ap (state_of s) (sym h.7 ∙ (taken ∙ k.7)) in
    let o = onward rules h.1 l.0 cs ds r q h.3 k.3 t u l.2 (subst (λ (z : List ℕ). Leads 10485760 z ds q) (sym after) m.2) h.9 (subst (λ (z : State Op). Reaches rules z ds k.3 u) (sym v) k.9) f in
    record {
      bodies = o.bodies;
      asks = o.asks;
      all = k.8 ∙ (ap (λ (z : List Ask). z ++ k.3) p.0 ∙ (ap (λ (z : List Ask). h.2 ++ z) o.all ∙ (sym (append_assoc h.2 h.3 o.asks) ∙ ap (λ (z : List Ask). z ++ o.asks) (sym h.8))));
      led = o.led;
      reached = o.reached;
    }

-- a session that ended can't go on
final_of : {Op : Type 0} (rules : Rules Op) (t : State Op) (rest : List ℕ) (ended : Bool) (o : Outcome Op) → Ends rules t rest ended o → Final rules t rest
final_of rules t rest ended (Complete u) h = record { stuck = nothing_stuck t h.1; done = λ body after v n w f k. absurd (let e : false ≡ true = sym w ∙ h.2 in cc) }
final_of {Op} rules t rest ended (Offends offence) h = record {
  stuck = nothing_stuck t h.0;
  done = λ body after v n w f k.
      let b : body ≡ h.2 = ap body_in (sym f ∙ h.4) in
      let e : Ok v ≡ Err offence = sym k ∙ (ap (take_frame rules t) b ∙ h.5) in
      cc;
}
final_of rules t rest ended Closes h = record {
  stuck = nothing_stuck t h.0;
  done = λ body after v n w f k. elim h.2 [
    | inl x ↦ (let e : Whole body after ≡ Bad x.0 = sym f ∙ x.1 in cc)
    | inr x ↦ (let e : Whole body after ≡ Short = sym f ∙ x.0 in cc)
  ];
}
final_of rules t rest ended Waits h = record { stuck = nothing_stuck t h.0; done = λ body after v n w f k. (let e : Whole body after ≡ Short = sym f ∙ h.2 in cc) }
final_of rules t rest ended Exhausts h = record { stuck = exhausted_stuck t h; done = λ body after v n w f k. cc (sym h ∙ n) }

-- two sessions that can't go on are one
record SameRun {Op : Type 0} (t u : State Op) (r q : List ℕ) (xs ys : List Ask) : Type 0 where
  states : t ≡ u
  rests : r ≡ q
  asks : xs ≡ ys

nothing_more : {Op : Type 0} (rules : Rules Op) (t u : State Op) (r q : List ℕ) (xs ys : List Ask) (o : Onward rules t u r q xs ys) (bodies : List (List ℕ)) → o.bodies ≡ bodies → Leads 10485760 r bodies q → Reaches rules t bodies o.asks u → Final rules t r → SameRun t u r q xs ys
nothing_more rules t u r q xs ys o [] e l h f =
    let n = Sends-none t u o.asks f.stuck h in
    record { states = n.1; rests = l; asks = sym (o.all ∙ (ap (λ (z : List Ask). xs ++ z) n.0 ∙ append-nil xs)) }
nothing_more {Op} rules t u r q xs ys o (b ∷ bs) e l h f =
    let n = Sends-none t h.0 h.2 f.stuck h.4 in
    absurd (f.done b l.0 h.1 (ap ask_next n.1 ∙ h.5) (ap is_whole n.1 ∙ h.6) l.1 (ap (λ (z : State Op). take_frame rules z b) n.1 ∙ h.7))

same_run : {Op : Type 0} (rules : Rules Op) (s : State Op) (bytes : List ℕ) (bodies others : List (List ℕ)) (r q : List ℕ) (xs ys : List Ask) (t u : State Op)
    → Leads 10485760 bytes bodies r → Leads 10485760 bytes others q → Reaches rules s bodies xs t → Reaches rules s others ys u → Final rules t r → Final rules u q → SameRun t u r q xs ys
same_run rules s bytes bodies others r q xs ys t u l m h k f g =
    let o = onward rules s bytes bodies others r q xs ys t u l m h k g in
    nothing_more rules t u r q xs ys o o.bodies refl o.led o.reached f

abbrev offence_in : {Op : Type 0} → Offence → Result (State Op) Offence → Offence
offence_in d (Ok s) = d
offence_in d (Err e) = e

whole_not : {Op : Type 0} (t : State Op) → is_whole t ≡ true → is_whole t ≡ false → ⊥
whole_not t a b = let e : true ≡ false = sym a ∙ b in cc

exhausted_not : {Op : Type 0} (t : State Op) → ask_next t ≡ Exhausted → ask_next t ≡ Nothing → ⊥
exhausted_not t a b = cc (sym a ∙ b)

-- in one way
same_end : {Op : Type 0} (rules : Rules Op) (t : State Op) (rest : List ℕ) (ended : Bool) (o p : Outcome Op) → Ends rules t rest ended o → Ends rules t rest ended p → o ≡ p
same_end rules t rest ended (Complete u) (Complete v) h k = ap Complete (h.0 ∙ sym k.0)
same_end rules t rest ended (Complete u) (Offends b) h k = absurd (whole_not t h.2 k.1)
same_end rules t rest ended (Complete u) Closes h k = absurd (whole_not t h.2 k.1)
same_end rules t rest ended (Complete u) Waits h k = absurd (whole_not t h.2 k.1)
same_end rules t rest ended (Complete u) Exhausts h k = absurd (exhausted_not t k h.1)
same_end rules t rest ended (Offends a) (Complete v) h k = absurd (whole_not t k.2 h.1)
same_end {Op} rules t rest ended (Offends a) (Offends b) h k =
    let same : h.2 ≡ k.2 = ap body_in (sym h.4 ∙ k.4) in
    let e : Err a ≡ Err b = sym h.5 ∙ (ap (take_frame rules t) same ∙ k.5) in
    ap Offends (ap (offence_in a) e)
same_end rules t rest ended (Offends a) Closes h k = absurd (elim k.2 [ inl x ↦ (let e : Whole h.2 h.3 ≡ Bad x.0 = sym h.4 ∙ x.1 in cc) | inr x ↦ (let e : Whole h.2 h.3 ≡ Short = sym h.4 ∙ x.0 in cc) ])
same_end rules t rest ended (Offends a) Waits h k = absurd (let e : Whole h.2 h.3 ≡ Short = sym h.4 ∙ k.2 in cc)
same_end rules t rest ended (Offends a) Exhausts h k = absurd (exhausted_not t k h.0)
same_end rules t rest ended Closes (Complete v) h k = absurd (whole_not t k.2 h.1)
same_end rules t rest ended Closes (Offends b) h k = absurd (elim h.2 [ inl x ↦ (let e : Whole k.2 k.3 ≡ Bad x.0 = sym k.4 ∙ x.1 in cc) | inr x ↦ (let e : Whole k.2 k.3 ≡ Short = sym k.4 ∙ x.0 in cc) ])
same_end rules t rest ended Closes Closes h k = refl
same_end rules t rest ended Closes Waits h k = absurd (elim h.2 [ inl x ↦ (let e : Short ≡ Bad x.0 = sym k.2 ∙ x.1 in cc) | inr x ↦ (let e : true ≡ false = sym x.1 ∙ k.3 in cc) ])
same_end rules t rest ended Closes Exhausts h k = absurd (exhausted_not t k h.0)
same_end rules t rest ended Waits (Complete v) h k = absurd (whole_not t k.2 h.1)
same_end rules t rest ended Waits (Offends b) h k = absurd (let e : Whole k.2 k.3 ≡ Short = sym k.4 ∙ h.2 in cc)
same_end rules t rest ended Waits Closes h k = absurd (elim k.2 [ inl x ↦ (let e : Short ≡ Bad x.0 = sym h.2 ∙ x.1 in cc) | inr x ↦ (let e : true ≡ false = sym x.1 ∙ h.3 in cc) ])
same_end rules t rest ended Waits Waits h k = refl
same_end rules t rest ended Waits Exhausts h k = absurd (exhausted_not t k h.0)
same_end rules t rest ended Exhausts (Complete v) h k = absurd (exhausted_not t h k.1)
same_end rules t rest ended Exhausts (Offends b) h k = absurd (exhausted_not t h k.0)
same_end rules t rest ended Exhausts Closes h k = absurd (exhausted_not t h k.0)
same_end rules t rest ended Exhausts Waits h k = absurd (exhausted_not t h k.0)
same_end rules t rest ended Exhausts Exhausts h k = refl

one_session : {Op : Type 0} (rules : Rules Op) (s : State Op) (bytes : List ℕ) (ended : Bool) (o p : Outcome Op) (xs ys : List Ask) → Session rules s bytes ended o xs → Session rules s bytes ended p ys → (o ≡ p) × (xs ≡ ys)
one_session {Op} rules s bytes ended o p xs ys h k =
    let r = same_run rules s bytes h.bodies k.bodies h.rest k.rest xs ys h.last k.last h.led k.led h.reached k.reached (final_of rules h.last h.rest ended o h.ends) (final_of rules k.last k.rest ended p k.ends) in
    let e : Ends rules h.last h.rest ended p = subst (λ (z : State Op). Ends rules z h.rest ended p) (sym r.states) (subst (λ (z : List ℕ). Ends rules k.last z ended p) (sym r.rests) k.ends) in
    (same_end rules h.last h.rest ended o p h.ends e, r.asks)

-- ---- longer bytes

ends_more : {Op : Type 0} (rules : Rules Op) (t : State Op) (rest more : List ℕ) (ended : Bool) (o : Outcome Op) → Ends rules t rest false o → (o ≡ Waits → ⊥) → Ends rules t (rest ++ more) ended o
ends_more rules t rest more ended (Complete u) h n = h
ends_more rules t rest more ended (Offends a) h n = (h.0, h.1, h.2, h.3 ++ more, front_more 10485760 rest more h.2 h.3 h.4, h.5)
ends_more rules t rest more ended Closes h n = (h.0, h.1, elim h.2 [ inl x ↦ inl (x.0, front_still 10485760 x.0 rest more x.1) | inr x ↦ absurd (let e : false ≡ true = x.1 in cc) ])
ends_more rules t rest more ended Waits h n = absurd (n refl)
ends_more rules t rest more ended Exhausts h n = h

settled_session : {Op : Type 0} (rules : Rules Op) (s : State Op) (bytes more : List ℕ) (ended : Bool) (o : Outcome Op) (xs : List Ask) → Session rules s bytes false o xs → (o ≡ Waits → ⊥) → Session rules s (bytes ++ more) ended o xs
settled_session rules s bytes more ended o xs h n =
    record { bodies = h.bodies; rest = h.rest ++ more; last = h.last; led = Leads-more 10485760 bytes h.bodies h.rest more h.led; reached = h.reached; ends = ends_more rules h.last h.rest more ended o h.ends n }

waiting_session : {Op : Type 0} (rules : Rules Op) (s : State Op) (bytes more : List ℕ) (ended : Bool) (p : Outcome Op) (xs ys : List Ask) → Session rules s bytes false Waits xs → Session rules s (bytes ++ more) ended p ys → (zs : List Ask) × (ys ≡ xs ++ zs)
waiting_session rules s bytes more ended p xs ys h k =
    let o = onward rules s (bytes ++ more) h.bodies k.bodies (h.rest ++ more) k.rest xs ys h.last k.last (Leads-more 10485760 bytes h.bodies h.rest more h.led) k.led h.reached k.reached (final_of rules k.last k.rest ended p k.ends) in
    (o.asks, o.all)

-- ---- asks on the way

sent_asks : {Op : Type 0} (rules : Rules Op) (s : State Op) (bytes rest : List ℕ) (bodies : List (List ℕ)) (ended : Bool) (p : Outcome Op) (xs ys : List Ask) (t : State Op) → Leads 10485760 bytes bodies rest → Reaches rules s bodies xs t → Session rules s bytes ended p ys → (zs : List Ask) × (ys ≡ xs ++ zs)
sent_asks rules s bytes rest bodies ended p xs ys t l h k =
    let o = onward rules s bytes bodies k.bodies rest k.rest xs ys t k.last l k.led h k.reached (final_of rules k.last k.rest ended p k.ends) in
    (o.asks, o.all)

-- ---- an ask that isn't sent

first_sent : {Op : Type 0} (t u v : State Op) (zs : List Ask) (ask : Ask) → Sends t zs u → Stuck u → ask_next t ≡ Send ask v → (ws : List Ask) × (zs ≡ ask ∷ ws)
first_sent t u v [] ask h stuck e = absurd (stuck ask v (ap ask_next (sym h) ∙ e))
first_sent t u v (z ∷ zs) ask h stuck e = (zs, ap (λ (y : Ask). y ∷ zs) (ap (ask_in z) (sym h.1 ∙ e)))

first_of : {Op : Type 0} (rules : Rules Op) (t u v : State Op) (bodies : List (List ℕ)) (zs : List Ask) (ask : Ask) → Reaches rules t bodies zs u → Stuck u → ask_next t ≡ Send ask v → (ws : List Ask) × (zs ≡ ask ∷ ws)
first_of rules t u v [] zs ask h stuck e = first_sent t u v zs ask h stuck e
first_of rules t u v (b ∷ bs) zs ask h stuck e =
    let f = first_sent t h.0 v h.2 ask h.4 (nothing_stuck h.0 h.5) e in
    (f.0 ++ h.3, h.8 ∙ ap (λ (l : List Ask). l ++ h.3) f.1)

unsent_ask : {Op : Type 0} (rules : Rules Op) (s : State Op) (bytes rest : List ℕ) (bodies : List (List ℕ)) (ended : Bool) (p : Outcome Op) (xs ys : List Ask) (ask : Ask) (t u : State Op) → Leads 10485760 bytes bodies rest → Reaches rules s bodies xs t → ask_next t ≡ Send ask u → Session rules s bytes ended p ys → (zs : List Ask) × (ys ≡ xs ++ ask ∷ zs)
unsent_ask rules s bytes rest bodies ended p xs ys ask t u l h e k =
    let final = final_of rules k.last k.rest ended p k.ends in
    let o = onward rules s bytes bodies k.bodies rest k.rest xs ys t k.last l k.led h k.reached final in
    let f = first_of rules t k.last u o.bodies o.asks ask o.reached final.stuck e in
    (f.0, o.all ∙ ap (λ (z : List Ask). xs ++ z) f.1)

pub session_laws : {Op : Type 0} (rules : Rules Op) (s : State Op) → SessionLaws rules s
session_laws rules s = record { one = one_session rules s; settled = settled_session rules s; waiting = waiting_session rules s; sent = sent_asks rules s; unsent = unsent_ask rules s }
