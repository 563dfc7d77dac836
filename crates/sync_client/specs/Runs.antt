-- Whole runs of a session.
use Rattle.std.specs.Prelude.{◌≡◌, ◌⊎◌, ℕ, Bool, true, false, List, [], ◌∷◌, ◌++◌, Ok, Err}
use Rattle.ledger_codec.specs.declared.framing.FrameError.{FrameError}
use Rattle.ledger_codec.specs.Frames.{Whole, Short, Bad, front, Leads}
use Rattle.sync_client.specs.Session.{Ask, State, Rules, Offence, Nothing, Send, Exhausted, ask_next, take_frame, is_whole}

-- s sends these asks, and comes to t
abbrev pub Sends : {Op : Type 0} → State Op → List Ask → State Op → Type 0
Sends s [] t = s ≡ t
Sends {Op} s (ask ∷ asks) t = (u : State Op) × (ask_next s ≡ Send ask u) × Sends u asks t

-- s sends what may be sent before each of these frames, takes the frames, and comes to t; the asks are all that were sent. No frame is taken once every location is kept.
abbrev pub Reaches : {Op : Type 0} → Rules Op → State Op → List (List ℕ) → List Ask → State Op → Type 0
Reaches rules s [] asks t = Sends s asks t
Reaches {Op} rules s (body ∷ bodies) asks t =
    (u : State Op) × (v : State Op) × (now : List Ask) × (later : List Ask) × Sends s now u × (ask_next u ≡ Nothing) × (is_whole u ≡ false) × (take_frame rules u body ≡ Ok v) × (asks ≡ now ++ later) × Reaches rules v bodies later t

-- how a session over bytes ends: every location is kept, a frame offends, the bytes are bad or ended, more bytes are wanted, or there is no number for an ask
pub data Outcome (Op : Type 0) : Type 0 where
  Complete : State Op → Outcome Op
  Offends : Offence → Outcome Op
  Closes : Outcome Op
  Waits : Outcome Op
  Exhausts : Outcome Op

-- so it ends in t, where these bytes are left, and the end of the bytes was given or wasn't
abbrev pub Ends : {Op : Type 0} → Rules Op → State Op → List ℕ → Bool → Outcome Op → Type 0
Ends rules t rest ended (Complete u) = (u ≡ t) × (ask_next t ≡ Nothing) × (is_whole t ≡ true)
Ends rules t rest ended (Offends offence) = (ask_next t ≡ Nothing) × (is_whole t ≡ false) × (body : List ℕ) × (after : List ℕ) × (front 10485760 rest ≡ Whole body after) × (take_frame rules t body ≡ Err offence)
Ends rules t rest ended Closes = (ask_next t ≡ Nothing) × (is_whole t ≡ false) × (((bad : FrameError) × (front 10485760 rest ≡ Bad bad)) ⊎ ((front 10485760 rest ≡ Short) × (ended ≡ true)))
Ends rules t rest ended Waits = (ask_next t ≡ Nothing) × (is_whole t ≡ false) × (front 10485760 rest ≡ Short) × (ended ≡ false)
Ends rules t rest ended Exhausts = ask_next t ≡ Exhausted

-- The session from s over these bytes, whose end was given or wasn't: it ends so, and these asks were sent.
pub record Session {Op : Type 0} (rules : Rules Op) (s : State Op) (bytes : List ℕ) (ended : Bool) (outcome : Outcome Op) (asks : List Ask) : Type 0 where
  pub bodies : List (List ℕ)
  pub rest : List ℕ
  pub last : State Op
  pub led : Leads 10485760 bytes bodies rest
  pub reached : Reaches rules s bodies asks last
  pub ends : Ends rules last rest ended outcome

-- What is true of every session: over the same bytes it ends in one way and sends the same asks. Once it has ended without the end of the bytes, longer bytes change nothing; until then they only add asks. The asks that were sent at any state that it comes to are the first of all its asks, and an ask that it comes to there is the next one.
pub record SessionLaws {Op : Type 0} (rules : Rules Op) (s : State Op) : Type 0 where
  pub one : (bytes : List ℕ) (ended : Bool) (o p : Outcome Op) (xs ys : List Ask) → Session rules s bytes ended o xs → Session rules s bytes ended p ys → (o ≡ p) × (xs ≡ ys)
  pub settled : (bytes more : List ℕ) (ended : Bool) (o : Outcome Op) (xs : List Ask) → Session rules s bytes false o xs → (o ≡ Waits → ⊥) → Session rules s (bytes ++ more) ended o xs
  pub waiting : (bytes more : List ℕ) (ended : Bool) (p : Outcome Op) (xs ys : List Ask) → Session rules s bytes false Waits xs → Session rules s (bytes ++ more) ended p ys → (zs : List Ask) × (ys ≡ xs ++ zs)
  pub sent : (bytes rest : List ℕ) (bodies : List (List ℕ)) (ended : Bool) (p : Outcome Op) (xs ys : List Ask) (t : State Op) → Leads 10485760 bytes bodies rest → Reaches rules s bodies xs t → Session rules s bytes ended p ys → (zs : List Ask) × (ys ≡ xs ++ zs)
  pub unsent : (bytes rest : List ℕ) (bodies : List (List ℕ)) (ended : Bool) (p : Outcome Op) (xs ys : List Ask) (ask : Ask) (t u : State Op) → Leads 10485760 bytes bodies rest → Reaches rules s bodies xs t → ask_next t ≡ Send ask u → Session rules s bytes ended p ys → (zs : List Ask) × (ys ≡ xs ++ ask ∷ zs)
