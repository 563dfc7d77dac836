-- A reply that the collector took, or didn't, is what the session does with its frame.
use Rattle.std.proofs.Common.{◌≡◌, ℕ, Bool, true, false, List, Option, Some, Ok, Err, Result, sym, ap, subst, ◌∙◌, inr}
use Rattle.std.specs.declared.ops.Range.{Range}
use Rattle.ledger_codec.specs.Frames.{Whole, front}
use Rattle.ledger_codec.specs.Sequences.{all_of}
use Rattle.ledger_log.specs.declared.target.Target.{Target}
use Rattle.sync_net.specs.declared.ask.Pending.{Pending}
use Rattle.sync_net.specs.declared.message.Message.{Message}
use Rattle.sync_net.specs.declared.message.Message.TheVariants as messages
use Rattle.sync_net.specs.declared.response.GetOperationsResponse.{GetOperationsResponse}
use Rattle.sync_net.specs.Messages.{message_at}
use Rattle.sync_net.specs.Numbered.{number_of}
use Rattle.sync_net.specs.Asks.{pending_in, without as machine_without}
use Rattle.sync_net.specs.View.{MachineView}
use Rattle.sync_client.specs.declared.fault.SyncFault.{SyncFault}
use Rattle.sync_client.specs.declared.fault.SyncFault.TheVariants as faults
use Rattle.sync_client.specs.Asking.{good}
use Rattle.sync_client.specs.Collected.{Collected, accepted, target_of}
use Rattle.sync_client.specs.Seen.{Beside, beside, seen, range_of, Paired}
use Rattle.sync_client.specs.Session.{State, Rules, Offence, InvalidProof, StaleUpdate, take_frame}
use Rattle.sync_client.specs.Steps.{TakesNext, TakesReply, Heeds}
use Rattle.sync_client.specs.Tiles.{Tiles}
use Rattle.sync_client.proofs.Bridge.{reply_refused, reply_kept, reply_paired, heeded_seen, stale_seen}

module _ {Op : Type 0} (rules : Rules Op) (v n : MachineView) (c d : Collected Op) (strays : ℕ) (before now : List (Option Target)) (body rest : List ℕ) (m : Message Op) (p : Pending) (r : GetOperationsResponse Op)
    (e : all_of (message_at rules.read) body ≡ Ok m) (is : m ≡ messages.GetOperationsResponse r) (f : pending_in (number_of m) v.pending ≡ Some p) (tiles : Tiles c) (pair : Paired v c) (framed : front 10485760 v.held ≡ Whole body rest) (live : v.closed ≡ false)
    (new : n ≡ record v { held = rest; pending = machine_without (number_of m) v.pending }) (asked : Range ℕ) (number : ℕ) (range : asked ≡ range_of p.ask) (numbered : number ≡ number_of m) where
  abbrev old : Beside
  old = beside strays before

  abbrev after : MachineView
  after = record v { held = rest; pending = machine_without (number_of m) v.pending }

  abbrev judged : Bool → Type 0
  judged b = good (rules.proved (target_of c asked)) c.plan.target.start asked r ≡ b

  right : (b : Bool) → judged b → good (rules.proved (target_of c (range_of p.ask))) c.plan.target.start (range_of p.ask) r ≡ b
  right b h = subst (λ (q : Range ℕ). good (rules.proved (target_of c q)) c.plan.target.start q r ≡ b) range h

  held_so : n.held ≡ rest
  held_so = ap (λ (x : MachineView). x.held) new

  live_so : n.closed ≡ false
  live_so = ap (λ (x : MachineView). x.closed) new ∙ live

  framed_so : front 10485760 v.held ≡ Whole body n.held
  framed_so = framed ∙ ap (λ (x : List ℕ). Whole body x) (sym held_so)

  pub reply_took : (x : Unit {0}) → TakesReply (Ok x) rules.proved asked number r c d before now → TakesNext (Ok true) rules v n c d old (beside strays now)
  reply_took x h =
      let kept : Heeds (Ok x) (accepted (range_of p.ask) r c) d before now = subst (λ (q : Range ℕ). Heeds (Ok x) (accepted q r c) d before now) range h.1 in
      let frame : take_frame rules (seen v c old) body ≡ Ok (seen after d (beside strays now)) = reply_kept rules v c old body m p r e is f tiles pair (right true h.0) rest ∙ heeded_seen after (accepted (range_of p.ask) r c) d strays before now x kept in
      let paired : Paired after d = reply_paired rules v c old body m p r e is f tiles pair rest d (ap (λ (w : Collected Op). w.pending) kept.1) in
      (body, framed_so, frame ∙ ap (λ (w : MachineView). let z : Result (State Op) Offence = Ok (seen w d (beside strays now)) in z) (sym new), subst (λ (w : MachineView). Paired w d) (sym new) paired, live, live_so)

  pub reply_stopped : (fault : SyncFault) → TakesReply (Err fault) rules.proved asked number r c d before now → TakesNext (Err fault) rules v n c d old (beside strays now)
  reply_stopped (faults.StaleUpdate start end) h =
      let refused : Heeds (Err (faults.StaleUpdate start end)) (accepted (range_of p.ask) r c) d before now = subst (λ (q : Range ℕ). Heeds (Err (faults.StaleUpdate start end)) (accepted q r c) d before now) range h.1 in
      let frame : take_frame rules (seen v c old) body ≡ Err (StaleUpdate refused.0) = reply_kept rules v c old body m p r e is f tiles pair (right true h.0) rest ∙ stale_seen after (accepted (range_of p.ask) r c) d strays start end before now refused in
      (refused.0, refused.1, refused.2, (body, rest, framed, frame, live, live_so, refused.4))
  reply_stopped (faults.InvalidProof k) h =
      let same : k ≡ number_of m = h.1 ∙ numbered in
      let frame : take_frame rules (seen v c old) body ≡ Err (InvalidProof k) = reply_refused rules v c old body m p r e is f tiles pair (right false h.0) ∙ ap (λ (z : ℕ). let w : Result (State Op) Offence = Err (InvalidProof z) in w) (sym same) in
      (body, rest, framed, frame, live, live_so, sym h.2)
  reply_stopped faults.OutOfMemory h = (live, live_so, inr (body, framed_so), h)
  reply_stopped faults.Network h = absurd h
  reply_stopped faults.RequestChannelClosed h = absurd h
  reply_stopped faults.InvalidResponse h = absurd h
  reply_stopped (faults.UnexpectedResponse k) h = absurd h
  reply_stopped (faults.Server code text) h = absurd h
  reply_stopped faults.TooManyStrays h = absurd h
  reply_stopped (faults.WrongRoot found) h = absurd h
  reply_stopped faults.Closed h = absurd h
  reply_stopped faults.Exhausted h = absurd h
