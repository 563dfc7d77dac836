-- What came of a session over a fresh tape, and what that promises of all sessions over the same bytes.
use Rattle.std.proofs.Common.{◌≡◌, ℕ, Bool, ◌||◌, true, false, List, [], ◌∷◌, ◌++◌, Option, Some, Result, Err, sym, ap, subst, ◌∙◌, inl, inr}
use Rattle.std.specs.Prelude.{◌⊎◌, unwrap_or}
use Rattle.ledger_log.specs.Any.{any_spelling}
use Rattle.ledger_log.specs.Spellings.{any_at}
use Rattle.ledger_log.specs.declared.any.AnyOp.{AnyOp}
use Rattle.ledger_log.specs.declared.target.Target.{Target}
use Rattle.ledger_merkle.specs.declared.proof.Part.{Part as Fetched}
use Rattle.sync_client.specs.Asking.{LimitsView, first_plan}
use Rattle.sync_client.specs.Ending.{Ended, Origin, SendStopped, StillWaits, Stopped, origin_of, bytes_of, wire_after}
use Rattle.sync_client.specs.Runs.{Closes, Waits, Outcome, SessionLaws}
use Rattle.sync_client.specs.Session.{Ask, started}
use Rattle.sync_client.specs.declared.fault.SyncFault.{SyncFault}
use Rattle.sync_client.specs.declared.fault.SyncFault.TheVariants as sync
use Rattle.sync_net.specs.View.{MachineView}
use Rattle.sync_net.specs.Wire.{Wire}
use Rattle.sync_server.specs.Links.{TapeView, tape_wire}
use Rattle.promise_cases.specs.Sessions.{OnlyCloses, Over, SentFirst, any_rules, at_first}
use Rattle.promise_cases.proofs.Fetches.{new_machine}

-- a call of a new machine over this tape
abbrev pub from_tape : Target → LimitsView → MachineView → TapeView → Origin AnyOp
from_tape target limits m old = origin_of any_at any_spelling any_spelling target [] limits m (Some (tape_wire old)) old.calls.faults

module _ (target : Target) (limits : LimitsView) (old now : TapeView) (given_none : old.given ≡ []) (going : old.ended ≡ false) (sent_none : old.sent ≡ []) (laws : SessionLaws any_rules (at_first target limits)) where
  -- what a fresh tape was given and sent since
  module _ (given : List ℕ) (ended : Bool) (sent : List ℕ) (told : Some (tape_wire now) ≡ Some (wire_after given ended sent (tape_wire old))) where
    told_wire : tape_wire now ≡ wire_after given ended sent (tape_wire old)
    told_wire = ap (λ (o : Option Wire). unwrap_or o (tape_wire old)) told

    given_is : given ≡ now.given
    given_is = sym (ap (λ (w : Wire). w.given) told_wire ∙ ap (λ (bytes : List ℕ). bytes ++ given) given_none)

    ended_is : ended ≡ now.ended
    ended_is = sym (ap (λ (w : Wire). w.ended) told_wire ∙ ap (λ (b : Bool). b || ended) going)

    sent_is : now.sent ≡ sent
    sent_is = ap (λ (w : Wire). w.sent) told_wire ∙ ap (λ (bytes : List ℕ). bytes ++ sent) sent_none

  closes : (m : MachineView) (left : List (Option Target)) (risen : ℕ) → Stopped (from_tape target limits new_machine old) sync.RequestChannelClosed m left (Some (tape_wire now)) risen → OnlyCloses target limits now.given now.ended
  closes m left risen stopped =
      let over = stopped.1 in
      let there : OnlyCloses target limits over.given over.ended = record {
        asks = over.asks;
        closes = over.session;
        only = λ other theirs s. laws.one over.given over.ended Closes other over.asks theirs over.session s;
        onward = λ e more end. laws.settled over.given more end Closes over.asks (subst (λ (b : Bool). Over target limits over.given b Closes over.asks) e over.session) (λ waits. cc waits);
        waited = λ e more end other theirs s. laws.waiting over.given more end other over.asks theirs (over.waited e) s;
      } in
      let sent = bytes_of (from_tape target limits new_machine old) over.asks in
      subst (λ (b : Bool). OnlyCloses target limits now.given b) (ended_is over.given over.ended sent over.told)
      (subst (λ (bytes : List ℕ). OnlyCloses target limits bytes over.ended) (given_is over.given over.ended sent over.told) there)

  sent_first : (m : MachineView) (left : List (Option Target)) (risen : ℕ) → Stopped (from_tape target limits new_machine old) sync.Network m left (Some (tape_wire now)) risen → SentFirst target limits now.given now.sent
  sent_first m left risen stopped = by stopped.2 where
    by : StillWaits (from_tape target limits new_machine old) m.held left (Some (tape_wire now)) ⊎ SendStopped (from_tape target limits new_machine old) m.held left (Some (tape_wire now)) → SentFirst target limits now.given now.sent
    by (inl waits) =
        let over = waits.0 in
        let s = over.session in
        let sent = bytes_of (from_tape target limits new_machine old) over.asks in
        subst (λ (bytes : List ℕ). SentFirst target limits bytes now.sent) (given_is over.given over.ended sent over.told)
        (record { asks = over.asks; sent_are = sent_is over.given over.ended sent over.told; first = λ end other theirs t. laws.sent over.given s.rest s.bodies end other over.asks theirs s.last s.led s.reached t })
    by (inr stop) =
        let sent = bytes_of (from_tape target limits new_machine old) stop.sent in
        subst (λ (bytes : List ℕ). SentFirst target limits bytes now.sent) (given_is stop.given false sent stop.told)
        (record {
          asks = stop.sent;
          sent_are = sent_is stop.given false sent stop.told;
          first = λ end other theirs t. (
              let next = laws.unsent stop.given m.held stop.bodies end other stop.sent theirs stop.unsent stop.last stop.after stop.led stop.reached stop.next t in
              (stop.unsent ∷ next.0, next.1));
        })

-- what was said of the machine that was made is said of a new one
module _ (target : Target) (limits : LimitsView) (old now : TapeView) (given_none : old.given ≡ []) (going : old.ended ≡ false) (sent_none : old.sent ≡ []) (result : Result (Target × Fetched AnyOp) SyncFault) (from m : MachineView) (new : from ≡ new_machine) (left : List (Option Target)) (risen : ℕ) (laws : SessionLaws any_rules (started (first_plan target limits) from.next [])) (ended : Ended result (from_tape target limits from old) m left (Some (tape_wire now)) risen) where
  its_laws : SessionLaws any_rules (at_first target limits)
  its_laws = subst (λ (v : MachineView). SessionLaws any_rules (started (first_plan target limits) v.next [])) new laws

  stops : (fault : SyncFault) → result ≡ Err fault → Stopped (from_tape target limits new_machine old) fault m left (Some (tape_wire now)) risen
  stops fault is =
      let of_new : Ended result (from_tape target limits new_machine old) m left (Some (tape_wire now)) risen = subst (λ (v : MachineView). Ended result (from_tape target limits v old) m left (Some (tape_wire now)) risen) new ended in
      subst (λ (r : Result (Target × Fetched AnyOp) SyncFault). Ended r (from_tape target limits new_machine old) m left (Some (tape_wire now)) risen) is of_new

  pub only_closes : result ≡ Err sync.RequestChannelClosed → OnlyCloses target limits now.given now.ended
  only_closes is = closes target limits old now given_none going sent_none its_laws m left risen (stops sync.RequestChannelClosed is)

  pub first_sent : result ≡ Err sync.Network → SentFirst target limits now.given now.sent
  first_sent is = sent_first target limits old now given_none going sent_none its_laws m left risen (stops sync.Network is)
