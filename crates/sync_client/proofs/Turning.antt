-- Turns of a session over a link: what an ask, bytes and a frame do to a call that came this far.
use Rattle.std.proofs.Common.{◌≡◌, ℕ, ◌+◌, ◌-◌, ◌≤◌, ◌^◌, Bool, true, false, List, [], ◌⊎◌, Option, Ok, Err, refl, sym, ap, subst, ◌∙◌, arith, inl, inr}
use Rattle.std.specs.Prelude.{option_map, min}
use Rattle.ledger_codec.specs.Causes.{Rose}
use Rattle.ledger_codec.specs.Frames.{Whole, Short, front}
use Rattle.ledger_log.specs.declared.target.Target.{Target}
use Rattle.sync_net.specs.View.{MachineView}
use Rattle.sync_net.specs.Wire.{Wire, with_sent}
use Rattle.sync_client.specs.declared.fault.SyncFault.{SyncFault}
use Rattle.sync_client.specs.declared.fault.SyncFault.TheVariants as faults
use Rattle.sync_client.specs.Collected.{Collected}
use Rattle.sync_client.specs.Tiles.{Tiles}
use Rattle.sync_client.specs.Session.{State, Rules, Offence, InvalidResponse, UnexpectedResponse, Server, InvalidProof, TooManyStrays, StaleUpdate, Nothing, ask_next, take_frame, is_whole}
use Rattle.sync_client.specs.Seen.{Beside, beside, seen}
use Rattle.sync_client.specs.Runs.{Offends, Closes, Waits, Exhausts}
use Rattle.sync_client.specs.Steps.{Made, AsksNext, OffendsIn, TakesNext}
use Rattle.sync_client.specs.Ending.{Origin, Came, Over, Stopped}
use Rattle.sync_client.specs.Turns.{Receives}
use Rattle.sync_client.proofs.Stepping.{Since-none, Came-sent, Came-given, Came-taken, waits_so, Fits, Over-from, Over-rest, not-ended, Stopped-from, Starved-from}

-- no more is kept than the range has places, and its end is one of a log's
pub fits : {Op : Type 0} (m : MachineView) (c : Collected Op) (b : Beside) → Tiles c → Fits (seen m c b)
fits m c b h = ((let t = h.total in omega arith), h.near)

-- a count that rose since
pub rose_since : (a b c : ℕ) → a ≤ b → Rose b c → Rose a c
rose_since a b c le h = let r : min (b + 1) (2 ^ 64 - 1) ≤ c = h in omega arith

-- ---- asks

-- no ask was made
pub ask_stops : {Op : Type 0} (o : Origin Op) (written : Op → List ℕ) (m n : MachineView) (c d : Collected Op) (b : Beside) (fault : SyncFault) (wire : Option Wire) (count : ℕ)
    → AsksNext (Err fault) written m n c d → Tiles c → Came o (seen m c b) m.held m.closed wire count → Stopped o fault n b.updates wire count
ask_stops {Op} o written m n c d b faults.Closed wire count h tiles came =
    let shut : o.closed ≡ true = sym came.as_before ∙ h.0 in
    let s = came.still shut in
    (ap (λ (v : MachineView). v.closed) h.1 ∙ h.0, shut, ap (λ (t : State Op). t.updates) s.0, s.1, s.2)
ask_stops o written m n c d b faults.Exhausted wire count h tiles came = (
  ap (λ (v : MachineView). v.closed) h.3 ∙ h.1,
  ap (λ (v : MachineView). v.next) h.3 ∙ h.2,
  Over-from o (seen m c b) m.held m.closed false b.updates wire wire count Exhausts came h.1 (fits m c b tiles) (Since-none wire) not-ended refl (h.0 b),
)
ask_stops o written m n c d b faults.OutOfMemory wire count h tiles came =
    Starved-from o (seen m c b) m.held [] m.closed n b.updates wire wire count count came (inl refl) (inl (ap (λ (v : MachineView). v.held) h)) (ap (λ (v : MachineView). v.closed) h) refl (Since-none wire) (omega arith)
ask_stops o written m n c d b faults.Network wire count h tiles came = absurd h
ask_stops o written m n c d b faults.RequestChannelClosed wire count h tiles came = absurd h
ask_stops o written m n c d b faults.InvalidResponse wire count h tiles came = absurd h
ask_stops o written m n c d b (faults.UnexpectedResponse number) wire count h tiles came = absurd h
ask_stops o written m n c d b (faults.Server code text) wire count h tiles came = absurd h
ask_stops o written m n c d b (faults.InvalidProof number) wire count h tiles came = absurd h
ask_stops o written m n c d b faults.TooManyStrays wire count h tiles came = absurd h
ask_stops o written m n c d b (faults.StaleUpdate start end) wire count h tiles came = absurd h
ask_stops o written m n c d b (faults.WrongRoot found) wire count h tiles came = absurd h

-- an ask was made, and not sent
pub send_stops : {Op : Type 0} (o : Origin Op) (written : Op → List ℕ) (m n : MachineView) (c d : Collected Op) (b : Beside) (frame : List ℕ) (wire now : Option Wire) (count risen : ℕ)
    → Made frame written m n c d → Came o (seen m c b) m.held m.closed wire count → Rose count risen → now ≡ wire → Stopped o faults.Network n b.updates now risen
send_stops o written m n c d b frame wire now count risen h came rose told =
    (rose_since o.count count risen came.later rose, h.5, inr (Stopped-from o (seen m c b) (seen n d b) h.0 m.held n.held m.closed wire now count came h.6 h.4 (h.2 b) told))

-- or not for want of memory
pub send_starves : {Op : Type 0} (o : Origin Op) (written : Op → List ℕ) (m n : MachineView) (c d : Collected Op) (b : Beside) (frame : List ℕ) (wire now : Option Wire) (count risen : ℕ)
    → Made frame written m n c d → Came o (seen m c b) m.held m.closed wire count → count ≤ risen → now ≡ wire → Stopped o faults.OutOfMemory n b.updates now risen
send_starves o written m n c d b frame wire now count risen h came le told =
    Starved-from o (seen m c b) m.held [] m.closed n b.updates wire now count risen came (inl refl) (inl h.6) (h.5 ∙ sym h.4) refl (told ∙ Since-none wire) le

-- an ask was made, and sent
pub made_came : {Op : Type 0} (o : Origin Op) (written : Op → List ℕ) (m n : MachineView) (c d : Collected Op) (b : Beside) (frame bytes : List ℕ) (wire now : Option Wire) (count risen : ℕ)
    → o.rules.written ≡ written → Made frame written m n c d → bytes ≡ frame → Came o (seen m c b) m.held m.closed wire count → now ≡ option_map (with_sent bytes) wire → count ≤ risen → Came o (seen n d b) n.held n.closed now risen
made_came o written m n c d b frame bytes wire now count risen w h same came told le =
    let one = Came-sent o written (seen m c b) (seen n d b) h.0 m.held bytes m.closed n.closed wire now count risen came w (h.2 b) (same ∙ h.1) h.4 h.5 told le in
    subst (λ (x : List ℕ). Came o (seen n d b) x n.closed now risen) (sym h.6) one

-- ---- frames

offends_so : {Op : Type 0} (o : Origin Op) (rules : Rules Op) (offence : Offence) (m n : MachineView) (c : Collected Op) (b e : Beside) (closed : Bool) (wire : Option Wire) (count : ℕ)
    → OffendsIn rules offence m n c b e closed → o.rules ≡ rules → Came o (seen m c b) m.held m.closed wire count → ask_next (seen m c b) ≡ Nothing → is_whole (seen m c b) ≡ false → Tiles c
    → (n.closed ≡ closed) × Over o e.updates wire (Offends offence)
offends_so {Op} o rules offence m n c b e closed wire count h r came nothing more tiles =
    let taken : take_frame o.rules (seen m c b) h.0 ≡ Err offence = ap (λ (x : Rules Op). take_frame x (seen m c b) h.0) r ∙ h.3 in
    (h.5, Over-from o (seen m c b) m.held m.closed false e.updates wire wire count (Offends offence) came h.4 (fits m c b tiles) (Since-none wire) not-ended h.6 (nothing, more, h.0, h.1, h.2, taken))

-- no frame was taken
pub take_stops : {Op : Type 0} (o : Origin Op) (rules : Rules Op) (m n : MachineView) (c d : Collected Op) (b e : Beside) (fault : SyncFault) (wire : Option Wire) (count : ℕ)
    → TakesNext (Err fault) rules m n c d b e → o.rules ≡ rules → Came o (seen m c b) m.held m.closed wire count → ask_next (seen m c b) ≡ Nothing → is_whole (seen m c b) ≡ false → Tiles c
    → Stopped o fault n e.updates wire count
take_stops o rules m n c d b e faults.InvalidResponse wire count h r came nothing more tiles = offends_so o rules InvalidResponse m n c b e true wire count h r came nothing more tiles
take_stops o rules m n c d b e (faults.UnexpectedResponse number) wire count h r came nothing more tiles = offends_so o rules (UnexpectedResponse number) m n c b e true wire count h r came nothing more tiles
take_stops o rules m n c d b e (faults.Server code text) wire count h r came nothing more tiles = offends_so o rules (Server code text) m n c b e true wire count h r came nothing more tiles
take_stops o rules m n c d b e (faults.InvalidProof number) wire count h r came nothing more tiles = offends_so o rules (InvalidProof number) m n c b e false wire count h r came nothing more tiles
take_stops o rules m n c d b e faults.TooManyStrays wire count h r came nothing more tiles = offends_so o rules TooManyStrays m n c b e false wire count h r came nothing more tiles
take_stops o rules m n c d b e (faults.StaleUpdate start end) wire count h r came nothing more tiles =
    let x = offends_so o rules (StaleUpdate h.0) m n c b e false wire count h.3 r came nothing more tiles in
    (x.0, h.0, h.1, h.2, x.1)
take_stops o rules m n c d b e faults.RequestChannelClosed wire count h r came nothing more tiles =
    (h.3, Over-from o (seen m c b) m.held m.closed false e.updates wire wire count Closes came h.2 (fits m c b tiles) (Since-none wire) not-ended (sym h.4) (nothing, more, inl (h.0, h.1)))
take_stops {Op} o rules m n c d b e faults.Closed wire count h r came nothing more tiles =
    let shut : o.closed ≡ true = sym came.as_before ∙ h.0 in
    let s = came.still shut in
    (ap (λ (v : MachineView). v.closed) h.1 ∙ h.0, shut, h.2 ∙ ap (λ (t : State Op). t.updates) s.0, s.1, s.2)
take_stops o rules m n c d b e faults.OutOfMemory wire count h r came nothing more tiles =
    let holds : (n.held ≡ m.held) ⊎ ((ask_next (seen m c b) ≡ Nothing) × (is_whole (seen m c b) ≡ false) × (body : List ℕ) × (front 10485760 m.held ≡ Whole body n.held)) = elim h.2 [ inl x ↦ inl x | inr x ↦ inr (nothing, more, x.0, x.1) ] in
    Starved-from o (seen m c b) m.held [] m.closed n e.updates wire wire count count came (inl refl) holds (h.1 ∙ sym h.0) (sym h.3) (Since-none wire) (omega arith)
take_stops o rules m n c d b e faults.Network wire count h r came nothing more tiles = absurd h
take_stops o rules m n c d b e (faults.WrongRoot found) wire count h r came nothing more tiles = absurd h
take_stops o rules m n c d b e faults.Exhausted wire count h r came nothing more tiles = absurd h

-- a frame was taken
pub took : {Op : Type 0} (o : Origin Op) (rules : Rules Op) (m n : MachineView) (c d : Collected Op) (b e : Beside) (wire : Option Wire) (count : ℕ)
    → TakesNext (Ok true) rules m n c d b e → o.rules ≡ rules → Came o (seen m c b) m.held m.closed wire count → ask_next (seen m c b) ≡ Nothing → is_whole (seen m c b) ≡ false
    → Came o (seen n d e) n.held n.closed wire count
took o rules m n c d b e wire count h r came nothing more =
    Came-taken o rules (seen m c b) (seen n d e) m.held h.0 n.held m.closed n.closed wire count came r nothing more h.1 h.2 h.4 h.5

-- ---- bytes

-- no bytes came
pub recv_stops : {Op : Type 0} (o : Origin Op) (t : State Op) (m n : MachineView) (fault : SyncFault) (wire now : Option Wire) (count risen : ℕ)
    → Receives (Err fault) m n wire now count risen → front 10485760 m.held ≡ Short → m.closed ≡ false → Came o t m.held m.closed wire count → ask_next t ≡ Nothing → is_whole t ≡ false → Fits t
    → Stopped o fault n t.updates now risen
recv_stops o t m n faults.Network wire now count risen h short live came nothing more most = (
  rose_since o.count count risen came.later h.2,
  ap (λ (v : MachineView). v.closed) h.0 ∙ live,
  inl (
    Over-from o t m.held m.closed false t.updates wire now count Waits came live most (h.1 ∙ Since-none wire) not-ended refl (nothing, more, short, refl),
    ap (λ (v : MachineView). v.held) h.0 ∙ sym (Over-rest o t m.held m.closed false t.updates wire now count Waits came live most (h.1 ∙ Since-none wire) not-ended refl (nothing, more, short, refl)),
  ),
)
recv_stops o t m n faults.RequestChannelClosed wire now count risen h short live came nothing more most =
    (ap (λ (v : MachineView). v.closed) h.0, Over-from o t m.held m.closed true t.updates wire now count Closes came live most h.1 (λ e. (nothing, more, short, refl)) refl (nothing, more, inr (short, refl)))
recv_stops o t m n faults.OutOfMemory wire now count risen h short live came nothing more most =
    Starved-from o t m.held h.0 m.closed n t.updates wire now count risen came (inr (h.4, waits_so o t m.held m.closed wire count came nothing more short)) (inl (ap (λ (v : MachineView). v.held) h.1)) (ap (λ (v : MachineView). v.closed) h.1) refl h.2 h.3
recv_stops o t m n faults.Closed wire now count risen h short live came nothing more most = absurd h
recv_stops o t m n faults.Exhausted wire now count risen h short live came nothing more most = absurd h
recv_stops o t m n faults.InvalidResponse wire now count risen h short live came nothing more most = absurd h
recv_stops o t m n (faults.UnexpectedResponse number) wire now count risen h short live came nothing more most = absurd h
recv_stops o t m n (faults.Server code text) wire now count risen h short live came nothing more most = absurd h
recv_stops o t m n (faults.InvalidProof number) wire now count risen h short live came nothing more most = absurd h
recv_stops o t m n faults.TooManyStrays wire now count risen h short live came nothing more most = absurd h
recv_stops o t m n (faults.StaleUpdate start end) wire now count risen h short live came nothing more most = absurd h
recv_stops o t m n (faults.WrongRoot found) wire now count risen h short live came nothing more most = absurd h

-- bytes came
pub recv_came : {Op : Type 0} (o : Origin Op) (t : State Op) (m n : MachineView) (x : Unit {0}) (wire now : Option Wire) (count risen : ℕ)
    → Receives (Ok x) m n wire now count risen → front 10485760 m.held ≡ Short → m.closed ≡ false → Came o t m.held m.closed wire count → ask_next t ≡ Nothing → is_whole t ≡ false → Came o t n.held n.closed now risen
recv_came o t m n x wire now count risen h short live came nothing more =
    let one = Came-given o t m.held h.0 m.closed n.closed wire now count risen came nothing more short h.5 h.3 live (ap (λ (v : MachineView). v.closed) h.2) h.4 in
    subst (λ (b : List ℕ). Came o t b n.closed now risen) (sym (ap (λ (v : MachineView). v.held) h.2)) one

-- only the held bytes changed
pub same_seen : {Op : Type 0} (m m0 : MachineView) (c c0 : Collected Op) (b b0 : Beside) (held : List ℕ) → m ≡ record m0 { held = held } → c ≡ c0 → b ≡ b0 → seen m c b ≡ seen m0 c0 b0
same_seen m m0 c c0 b b0 held e f g =
    ap (λ (v : MachineView). seen v c b) e ∙ (ap (λ v. seen m0 v b) f ∙ ap (λ (k : Beside). seen m0 c0 k) g)

-- so many strays, and these answers
pub same_beside : (strays before : ℕ) (updates answers : List (Option Target)) → strays ≡ before → updates ≡ answers → beside strays updates ≡ beside before answers
same_beside strays before updates answers e f = ap (λ (n : ℕ). beside n updates) e ∙ ap (beside before) f
