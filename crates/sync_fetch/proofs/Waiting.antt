-- Waiting for the answer to one request, step by step.
use Rattle.std.proofs.Common.{◌≡◌, ℕ, ◌+◌, ◌-◌, ◌<◌, ◌≤◌, ◌⊎◌, ◌^◌, Bool, true, false, List, [], ◌∷◌, ◌++◌, length, Option, None, Ok, Err, refl, sym, ap, subst, ◌∙◌, append_assoc, arith, inl, inr}
use Rattle.std.specs.Prelude.{min}
use Rattle.std.proofs.lemmas.List.{append-nil}
use Rattle.ledger_codec.specs.Causes.{Rose}
use Rattle.ledger_codec.specs.Parsing.{Parsed}
use Rattle.ledger_codec.specs.declared.framing.FrameError.{FrameError}
use Rattle.ledger_codec.specs.Frames.{Short, Bad, front, Leads}
use Rattle.ledger_codec.proofs.Stable.{Leads-more}
use Rattle.sync_net.specs.declared.ask.Ask.{Ask}
use Rattle.sync_net.specs.declared.ask.Pending.{Pending}
use Rattle.sync_net.specs.declared.ask.Answer.TheVariants as answers
use Rattle.sync_net.specs.declared.fault.MachineFault.TheVariants as machine
use Rattle.sync_net.specs.declared.message.Message.{Message}
use Rattle.sync_net.specs.Numbered.{number_of}
use Rattle.sync_net.specs.Asks.{pending_in, answer_to, without}
use Rattle.sync_net.specs.Asking.{Answers}
use Rattle.sync_net.specs.View.{MachineView}
use Rattle.sync_net.specs.Wire.{Wire}
use Rattle.sync_client.specs.declared.fault.SyncFault.{SyncFault}
use Rattle.sync_client.specs.declared.fault.SyncFault.TheVariants as faults
use Rattle.sync_client.specs.Session.{InvalidResponse, UnexpectedResponse, Server, TooManyStrays}
use Rattle.sync_client.specs.Ending.{Since}
use Rattle.sync_client.specs.Turns.{Receives}
use Rattle.sync_client.proofs.Stepping.{Since-none, Since-then, Leads-on}
use Rattle.sync_fetch.specs.Exchange.{exchange_frame, Exchange, Strays, IsRead, Reply, Refused, Closed, Pends, RepliesSo}
use Rattle.sync_fetch.specs.Told.{HeldAnswer, NextAnswer, IsDrawn, Heard, Came, Stops, fed}
use Rattle.sync_fetch.proofs.Answering.{taken_away, unread, replied, strayed, unexpected, served_error}

rose_since : (a b c : ℕ) → a ≤ b → Rose b c → Rose a c
rose_since a b c le h = let r : min (b + 1) (2 ^ 64 - 1) ≤ c = h in omega arith

-- ---- one answer

-- more bytes were fed
fed_more : (m : MachineView) (given more : List ℕ) → fed (fed m given) more ≡ fed m (given ++ more)
fed_more m given more = ap (λ (b : List ℕ). let v : MachineView = record m { held = b } in v) (append_assoc m.held given more)

-- nothing was fed yet
pub fed_none : (m : MachineView) → m ≡ fed m []
fed_none m = ap (λ (b : List ℕ). let v : MachineView = record m { held = b } in v) (sym (append-nil m.held))

-- the machine's fault ends it
pub held_stops : {Op : Type 0} (read : List ℕ → Parsed Op) (m0 m n : MachineView) (given : List ℕ) (before now : Option Wire) (count risen : ℕ) (fault : SyncFault) → HeldAnswer {Op = Op} (Err fault) read m n → m ≡ fed m0 given → m0.closed ≡ false → Since before now given false [] → IsDrawn m0.held given → count ≤ risen
    → NextAnswer {Op = Op} (Err fault) read m0 n before now count risen
held_stops {Op} read m0 m n given before now count risen faults.InvalidResponse h e live told d le = (given, told, subst (λ (v : MachineView). Answers {Op = Op} read (Err machine.InvalidResponse) v n) e h, d)
held_stops {Op} read m0 m n given before now count risen (faults.UnexpectedResponse number) h e live told d le = (given, told, subst (λ (v : MachineView). Answers {Op = Op} read (Err (machine.UnexpectedResponse number)) v n) e h, d)
held_stops {Op} read m0 m n given before now count risen (faults.Server code text) h e live told d le = (given, told, subst (λ (v : MachineView). Answers {Op = Op} read (Err (machine.Server code text)) v n) e h, d)
held_stops {Op} read m0 m n given before now count risen faults.RequestChannelClosed h e live told d le =
    (given, false, told, inl (h.0, ap (λ (v : MachineView). front 10485760 v.held) (sym e) ∙ h.2, refl), ap (λ (v : MachineView). v.closed) h.3, d)
held_stops read m0 m n given before now count risen faults.Closed h e live told d le = absurd (let x : true ≡ false = sym h.0 ∙ (ap (λ (v : MachineView). v.closed) e ∙ live) in cc)
held_stops read m0 m n given before now count risen faults.OutOfMemory h e live told d le =
    (given, [], subst (λ (b : List ℕ). Since before now b false []) (sym (append-nil given)) told, le, h.1 ∙ e, d, inl refl)
held_stops read m0 m n given before now count risen faults.Network h e live told d le = absurd h
held_stops read m0 m n given before now count risen faults.Exhausted h e live told d le = absurd h
held_stops read m0 m n given before now count risen (faults.InvalidProof number) h e live told d le = absurd h
held_stops read m0 m n given before now count risen faults.TooManyStrays h e live told d le = absurd h
held_stops read m0 m n given before now count risen (faults.StaleUpdate start end) h e live told d le = absurd h
held_stops read m0 m n given before now count risen (faults.WrongRoot root) h e live told d le = absurd h

-- no bytes came
pub recv_stops : {Op : Type 0} (read : List ℕ → Parsed Op) (m0 m n : MachineView) (given : List ℕ) (before mid now : Option Wire) (count between risen : ℕ) (fault : SyncFault) → Receives (Err fault) m n mid now between risen → front 10485760 m.held ≡ Short → m ≡ fed m0 given → Since before mid given false [] → IsDrawn m0.held given → count ≤ between
    → NextAnswer {Op = Op} (Err fault) read m0 n before now count risen
recv_stops read m0 m n given before mid now count between risen faults.Network r short e told d le =
    (given, r.1 ∙ told, rose_since count between risen le r.2, ap (λ (v : MachineView). front 10485760 v.held) (sym e) ∙ short, r.0 ∙ e, d)
recv_stops read m0 m n given before mid now count between risen faults.RequestChannelClosed r short e told d le =
    let both : Since before now (given ++ []) true [] = Since-then before mid now given [] true [] [] told r.1 in
    (given, true, subst (λ (b : List ℕ). Since before now b true []) (append-nil given) both, inr (ap (λ (v : MachineView). front 10485760 v.held) (sym e) ∙ short, refl), ap (λ (v : MachineView). v.closed) r.0, d)
recv_stops read m0 m n given before mid now count between risen faults.OutOfMemory r short e told d le =
    (given, r.0, Since-then before mid now given r.0 false [] [] told r.2, (let x = r.3 in omega arith), r.1 ∙ e, d, inr (r.4, ap (λ (v : MachineView). front 10485760 v.held) (sym e) ∙ short))
recv_stops read m0 m n given before mid now count between risen faults.Closed r short e told d le = absurd r
recv_stops read m0 m n given before mid now count between risen faults.Exhausted r short e told d le = absurd r
recv_stops read m0 m n given before mid now count between risen faults.InvalidResponse r short e told d le = absurd r
recv_stops read m0 m n given before mid now count between risen (faults.UnexpectedResponse number) r short e told d le = absurd r
recv_stops read m0 m n given before mid now count between risen (faults.Server code text) r short e told d le = absurd r
recv_stops read m0 m n given before mid now count between risen (faults.InvalidProof number) r short e told d le = absurd r
recv_stops read m0 m n given before mid now count between risen faults.TooManyStrays r short e told d le = absurd r
recv_stops read m0 m n given before mid now count between risen (faults.StaleUpdate start end) r short e told d le = absurd r
recv_stops read m0 m n given before mid now count between risen (faults.WrongRoot root) r short e told d le = absurd r

-- they came over the beginning of a frame
pub recv_drawn : (m0 m : MachineView) (given piece : List ℕ) → m ≡ fed m0 given → front 10485760 m.held ≡ Short → length piece ≤ 4096 → IsDrawn m0.held (given ++ piece)
recv_drawn m0 m given piece e short most = inr (given, piece, refl, most, ap (λ (v : MachineView). front 10485760 v.held) (sym e) ∙ short)

-- bytes came
pub recv_fed : (m0 m n : MachineView) (given piece : List ℕ) → n ≡ record m { held = m.held ++ piece } → m ≡ fed m0 given → n ≡ fed m0 (given ++ piece)
recv_fed m0 m n given piece e f = e ∙ (ap (λ (v : MachineView). fed v piece) f ∙ fed_more m0 given piece)

pub recv_told : (before mid now : Option Wire) (given piece : List ℕ) → Since before mid given false [] → Since mid now piece false [] → Since before now (given ++ piece) false []
recv_told before mid now given piece p q = Since-then before mid now given piece false [] [] p q

-- the end was given over the beginning of a frame alone
short_end : (ended : Bool) (bytes : List ℕ) → ((bad : FrameError) × (front 10485760 bytes ≡ Bad bad) × (ended ≡ false)) ⊎ ((front 10485760 bytes ≡ Short) × (ended ≡ true)) → ended ≡ true → front 10485760 bytes ≡ Short
short_end ended bytes (inl b) t = absurd (let x : false ≡ true = sym b.2 ∙ t in cc)
short_end ended bytes (inr s) t = s.0

closed_so : (ended : Bool) (bytes : List ℕ) → ((bad : FrameError) × (front 10485760 bytes ≡ Bad bad) × (ended ≡ false)) ⊎ ((front 10485760 bytes ≡ Short) × (ended ≡ true)) → ((bad : FrameError) × (front 10485760 bytes ≡ Bad bad)) ⊎ ((front 10485760 bytes ≡ Short) × (ended ≡ true))
closed_so ended bytes (inl b) = inl (b.0, b.1)
closed_so ended bytes (inr s) = inr s

-- ---- many answers

-- so far strays came alone
pub record Waited {Op : Type 0} (read : List ℕ → Parsed Op) (p : Pending) (m0 m : MachineView) (before now : Option Wire) (count risen strays : ℕ) : Type 0 where
  pub given : List ℕ
  pub bodies : List (List ℕ)
  pub led : Leads 10485760 (m0.held ++ given) bodies m.held
  pub passed : Strays read p 0 bodies strays
  pub told : Since before now given false []
  pub drawn : IsRead read p m0.held given
  pub pending : m.pending ≡ p ∷ []
  pub next : m.next ≡ m0.next
  pub later : count ≤ risen

pub waited_first : {Op : Type 0} (read : List ℕ → Parsed Op) (p : Pending) (m : MachineView) (wire : Option Wire) (count : ℕ) → m.pending ≡ p ∷ [] → Waited read p m m wire wire count count 0
waited_first read p m wire count e = record { given = []; bodies = []; led = append-nil m.held; passed = refl; told = Since-none wire; drawn = inl refl; pending = e; next = refl; later = omega arith }

Strays-on : {Op : Type 0} (read : List ℕ → Parsed Op) (p : Pending) (first last : ℕ) (bodies : List (List ℕ)) (body : List ℕ) → Strays read p first bodies last → exchange_frame read p last body ≡ Ok None → Strays read p first (bodies ++ body ∷ []) (last + 1)
Strays-on read p first last [] body h e = (ap (λ (k : ℕ). exchange_frame read p k body) h ∙ e, ap (λ (k : ℕ). k + 1) h)
Strays-on read p first last (b ∷ bodies) body h e = (h.0, Strays-on read p (first + 1) last bodies body h.1 e)

module _ {Op : Type 0} (read : List ℕ → Parsed Op) (p : Pending) (m0 : MachineView) (before : Option Wire) (count : ℕ) where
  -- the frames so far, with more bytes behind
  led_more : (m : MachineView) (mid : Option Wire) (between strays : ℕ) (w : Waited read p m0 m before mid count between strays) (more : List ℕ) → Leads 10485760 (m0.held ++ (w.given ++ more)) w.bodies (m.held ++ more)
  led_more m mid between strays w more = subst (λ (b : List ℕ). Leads 10485760 b w.bodies (m.held ++ more)) (append_assoc m0.held w.given more) (Leads-more 10485760 (m0.held ++ w.given) w.bodies m.held more w.led)

  told_more : (m : MachineView) (mid now : Option Wire) (between strays : ℕ) (w : Waited read p m0 m before mid count between strays) (more : List ℕ) (ended : Bool) → Since mid now more ended [] → Since before now (w.given ++ more) ended []
  told_more m mid now between strays w more ended s = Since-then before mid now w.given more ended [] [] w.told s

  -- the waiting goes on over these bytes
  waits : (m : MachineView) (mid : Option Wire) (between strays : ℕ) (w : Waited read p m0 m before mid count between strays) (more : List ℕ) → front 10485760 (m.held ++ more) ≡ Short → Exchange read p (m0.held ++ (w.given ++ more)) false Pends
  waits m mid between strays w more short = record { bodies = w.bodies; rest = m.held ++ more; strays = strays; led = led_more m mid between strays w more; passed = w.passed; ends = (short, refl) }

  drawn_more : (m : MachineView) (mid : Option Wire) (between strays : ℕ) (w : Waited read p m0 m before mid count between strays) (more : List ℕ) → IsDrawn m.held more → IsRead read p m0.held (w.given ++ more)
  drawn_more m mid between strays w more (inl e) = subst (λ (b : List ℕ). IsRead read p m0.held b) (sym (ap (λ (z : List ℕ). w.given ++ z) e ∙ append-nil w.given)) w.drawn
  drawn_more m mid between strays w more (inr d) = inr (w.given ++ d.0, d.1, ap (λ (z : List ℕ). w.given ++ z) d.2 ∙ sym (append_assoc w.given d.0 d.1), d.3, waits m mid between strays w d.0 d.4)

  abbrev heard : (m : MachineView) (mid now : Option Wire) (between strays : ℕ) (w : Waited read p m0 m before mid count between strays) (more : List ℕ) (ended : Bool) (reply : Reply Op) → Since mid now more ended [] → IsDrawn m.held more → (ended ≡ true → front 10485760 (m.held ++ more) ≡ Short) → RepliesSo read p strays (m.held ++ more) ended reply → Heard read p m0.held [] before now reply
  heard m mid now between strays w more ended reply s d short ends = record {
    given = w.given ++ more;
    ended = ended;
    exchange = record { bodies = w.bodies; rest = m.held ++ more; strays = strays; led = led_more m mid between strays w more; passed = w.passed; ends = ends };
    told = told_more m mid now between strays w more ended s;
    drawn = drawn_more m mid between strays w more d;
    waited = λ t. waits m mid between strays w more (short t);
  }

  -- a stray came
  pub waited_stray : (m n : MachineView) (mid now : Option Wire) (between risen strays number : ℕ) → Waited read p m0 m before mid count between strays → NextAnswer (Ok (answers.Stray number)) read m n mid now between risen → strays < 1024 → Waited read p m0 n before now count risen (strays + 1)
  waited_stray m n mid now between risen strays number w a lt =
      let h = a.3 in
      let o : answer_to h.2 (pending_in (number_of h.2) (p ∷ [])) ≡ Ok (answers.Stray number) = ap (λ (ps : List Pending). answer_to h.2 (pending_in (number_of h.2) ps)) (sym w.pending) ∙ h.6 in
      let s = strayed read p strays h.0 h.2 number h.5 o in
      let left : n.held ≡ h.1 = ap (λ (v : MachineView). v.held) h.7 in
      record {
        given = w.given ++ a.0;
        bodies = w.bodies ++ h.0 ∷ [];
        led = subst (λ (b : List ℕ). Leads 10485760 (m0.held ++ (w.given ++ a.0)) (w.bodies ++ h.0 ∷ []) b) (sym left) (Leads-on 10485760 (m0.held ++ (w.given ++ a.0)) w.bodies (m.held ++ a.0) h.0 h.1 (led_more m mid between strays w a.0) h.4);
        passed = Strays-on read p 0 strays w.bodies h.0 w.passed (s.0 lt);
        told = told_more m mid now between strays w a.0 false a.1;
        drawn = drawn_more m mid between strays w a.0 a.4;
        pending = ap (λ (v : MachineView). v.pending) h.7 ∙ w.pending;
        next = ap (λ (v : MachineView). v.next) h.7 ∙ w.next;
        later = let x = w.later in let y = a.2 in omega arith;
      }

  -- a stray too many came
  pub stray_stops : (m n : MachineView) (mid now : Option Wire) (between risen strays number : ℕ) → Waited read p m0 m before mid count between strays → NextAnswer (Ok (answers.Stray number)) read m n mid now between risen → 1024 ≤ strays → Stops {Op = Op} faults.TooManyStrays read p m0.held [] before now count risen n
  stray_stops m n mid now between risen strays number w a le =
      let h = a.3 in
      let o : answer_to h.2 (pending_in (number_of h.2) (p ∷ [])) ≡ Ok (answers.Stray number) = ap (λ (ps : List Pending). answer_to h.2 (pending_in (number_of h.2) ps)) (sym w.pending) ∙ h.6 in
      let s = strayed read p strays h.0 h.2 number h.5 o in
      (ap (λ (v : MachineView). v.closed) h.7 ∙ h.3, heard m mid now between strays w a.0 false (Refused TooManyStrays) a.1 a.4 (λ t. absurd (cc t)) (h.0, h.1, h.4, s.1 le))

  -- the answer came
  pub reply_came : (m n : MachineView) (mid now : Option Wire) (between risen strays number : ℕ) (ask : Ask) (message : Message Op) → Waited read p m0 m before mid count between strays → NextAnswer (Ok (answers.Reply number ask message)) read m n mid now between risen → Came read p m0.held [] before now message m0.next n
  reply_came m n mid now between risen strays number ask message w a =
      let h = a.3 in
      let o : answer_to h.2 (pending_in (number_of h.2) (p ∷ [])) ≡ Ok (answers.Reply number ask message) = ap (λ (ps : List Pending). answer_to h.2 (pending_in (number_of h.2) ps)) (sym w.pending) ∙ h.6 in
      let r = replied read p strays h.0 h.2 number ask message h.5 o in
      let gone : without (number_of h.2) m.pending ≡ [] = ap (without (number_of h.2)) w.pending ∙ taken_away p (number_of h.2) r.number in
      let whole : Came read p m0.held [] before now h.2 m0.next n = record {
        heard = record {
          given = w.given ++ a.0;
          ended = false;
          exchange = record { bodies = w.bodies; rest = m.held ++ a.0; strays = strays; led = led_more m mid between strays w a.0; passed = w.passed; ends = (h.0, h.1, h.4, r.frame) };
          told = told_more m mid now between strays w a.0 false a.1;
          drawn = drawn_more m mid between strays w a.0 a.4;
          waited = λ t. absurd (cc t);
        };
        kind = r.kind;
        live = ap (λ (v : MachineView). v.closed) h.7 ∙ h.3;
        nothing_pending = ap (λ (v : MachineView). v.pending) h.7 ∙ gone;
        number_next = ap (λ (v : MachineView). v.next) h.7 ∙ w.next;
        left = ap (λ (v : MachineView). v.held) h.7;
      } in
      subst (λ (x : Message Op). Came read p m0.held [] before now x m0.next n) (sym r.same) whole

  -- no answer came
  pub wait_stops : (m n : MachineView) (mid now : Option Wire) (between risen strays : ℕ) (fault : SyncFault) → Waited read p m0 m before mid count between strays → m.closed ≡ false → NextAnswer {Op = Op} (Err fault) read m n mid now between risen → Stops {Op = Op} fault read p m0.held [] before now count risen n
  wait_stops m n mid now between risen strays faults.Network w live a =
      (rose_since count between risen w.later a.2, ap (λ (v : MachineView). v.closed) a.4 ∙ live, heard m mid now between strays w a.0 false Pends a.1 a.5 (λ t. absurd (cc t)) (a.3, refl), ap (λ (v : MachineView). v.held) a.4)
  wait_stops m n mid now between risen strays faults.RequestChannelClosed w live a =
      (a.4, heard m mid now between strays w a.0 a.1 Closed a.2 a.5 (short_end a.1 (m.held ++ a.0) a.3) (closed_so a.1 (m.held ++ a.0) a.3))
  wait_stops m n mid now between risen strays faults.InvalidResponse w live a =
      let h = a.2 in
      (ap (λ (v : MachineView). v.closed) h.6, heard m mid now between strays w a.0 false (Refused InvalidResponse) a.1 a.3 (λ t. absurd (cc t)) (h.0, h.1, h.4, unread read p strays h.0 h.2 h.5))
  wait_stops m n mid now between risen strays (faults.UnexpectedResponse number) w live a =
      let h = a.2 in
      let o = ap (λ (ps : List Pending). answer_to h.2 (pending_in (number_of h.2) ps)) (sym w.pending) ∙ h.6 in
      (ap (λ (v : MachineView). v.closed) h.7, heard m mid now between strays w a.0 false (Refused (UnexpectedResponse number)) a.1 a.3 (λ t. absurd (cc t)) (h.0, h.1, h.4, unexpected read p strays h.0 h.2 number h.5 o))
  wait_stops m n mid now between risen strays (faults.Server code text) w live a =
      let h = a.2 in
      let o = ap (λ (ps : List Pending). answer_to h.2 (pending_in (number_of h.2) ps)) (sym w.pending) ∙ h.6 in
      (ap (λ (v : MachineView). v.closed) h.7, heard m mid now between strays w a.0 false (Refused (Server code text)) a.1 a.3 (λ t. absurd (cc t)) (h.0, h.1, h.4, served_error read p strays h.0 h.2 code text h.5 o))
  wait_stops m n mid now between risen strays faults.OutOfMemory w live a = (
    (let x = w.later in let y = a.3 in omega arith),
    record {
      given = w.given ++ a.0;
      lost = a.1;
      bodies = w.bodies;
      strays = strays;
      led = subst (λ (b : List ℕ). Leads 10485760 (m0.held ++ (w.given ++ a.0)) w.bodies b) (sym (ap (λ (v : MachineView). v.held) a.4)) (led_more m mid between strays w a.0);
      passed = w.passed;
      told = subst (λ (b : List ℕ). Since before now b false []) (sym (append_assoc w.given a.0 a.1)) (told_more m mid now between strays w (a.0 ++ a.1) false a.2);
      drawn = drawn_more m mid between strays w a.0 a.5;
      waited = elim a.6 [ inl e ↦ inl e | inr r ↦ inr (r.0, waits m mid between strays w a.0 r.1) ];
      live = ap (λ (v : MachineView). v.closed) a.4 ∙ live;
      pending = ap (λ (v : MachineView). v.pending) a.4 ∙ w.pending;
    },
  )
  wait_stops m n mid now between risen strays faults.Closed w live a = absurd a
  wait_stops m n mid now between risen strays faults.Exhausted w live a = absurd a
  wait_stops m n mid now between risen strays (faults.InvalidProof number) w live a = absurd a
  wait_stops m n mid now between risen strays faults.TooManyStrays w live a = absurd a
  wait_stops m n mid now between risen strays (faults.StaleUpdate start end) w live a = absurd a
  wait_stops m n mid now between risen strays (faults.WrongRoot root) w live a = absurd a
