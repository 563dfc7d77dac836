-- What a session over a fresh tape leaves by a pass that saw nothing yet.
use Rattle.std.proofs.Common.{◌≡◌, ℕ, true, List, [], ◌++◌, Option, Some, sym, ap, subst, ◌∙◌}
use Rattle.std.proofs.lemmas.List.{append-nil}
use Rattle.std.specs.Prelude.{filter_map, flat_map, unwrap_or}
use Rattle.ledger_codec.specs.Frames.{Leads}
use Rattle.ledger_log.specs.Any.{any_floor, any_spelling}
use Rattle.ledger_log.specs.Spellings.{any_at}
use Rattle.ledger_log.specs.View.{LogView}
use Rattle.ledger_log.specs.declared.any.AnyOp.{AnyOp}
use Rattle.sync_net.specs.declared.message.Message.{Message}
use Rattle.sync_net.specs.Messages.{message_at, message_written}
use Rattle.sync_net.specs.Wire.{Wire}
use Rattle.sync_server.specs.Links.{TapeView, tape_wire}
use Rattle.sync_sessions.specs.declared.ending.SessionEnd.{SessionEnd}
use Rattle.sync_sessions.specs.declared.ending.SessionEnd.TheVariants.{Done}
use Rattle.sync_sessions.specs.Hearing.{frame_of, message_of, wire_after}
use Rattle.sync_sessions.specs.Sessions.{Came}
use Rattle.sync_sessions.specs.Turns.{AnswersAll, Replies, Session}
use Rattle.sync_shared.specs.Calls.{Answers, after_call}
use Rattle.sync_shared.specs.declared.event.Event.{Event}
use Rattle.sync_shared.specs.declared.event.EventOutcome.{EventOutcome}
use Rattle.turn_lock.specs.History.{Legal}
use Rattle.turn_lock.specs.Passes.{PassValue}
use Rattle.turn_lock.specs.declared.entry.Entry.{Entry}
use Rattle.session_cases.specs.Told.{IsAnswered}

abbrev pub OfAny : Type 0
OfAny = PassValue (LogView AnyOp) (Event AnyOp) EventOutcome

abbrev History : Type 0
History = List (Entry (Event AnyOp) EventOutcome)

abbrev spelled : List ℕ → Option (Message AnyOp)
spelled = message_of (message_at any_at)

abbrev framed : Message AnyOp → List ℕ
framed = frame_of (message_written any_spelling)

module _ (opening : LogView AnyOp) (p q : OfAny) (old now : TapeView) (unseen : p.seen ≡ []) (given_none : old.given ≡ []) (sent_none : old.sent ≡ []) where
  came_is : Came spelled framed (AnswersAll any_floor opening any_spelling) p q (Some (tape_wire old)) (Some (tape_wire now)) true [] [] [] → IsAnswered opening p.caller q.seen now.given now.sent
  came_is came =
      let h = came.heard in
      let a = came.answered in
      let wire : tape_wire now ≡ wire_after h.given true (flat_map framed came.sent) (tape_wire old) = ap (λ (o : Option Wire). unwrap_or o (tape_wire old)) h.told in
      let given : now.given ≡ h.given = ap (λ (w : Wire). w.given) wire ∙ ap (λ (bytes : List ℕ). bytes ++ h.given) given_none in
      let sent : now.sent ≡ flat_map framed came.sent = ap (λ (w : Wire). w.sent) wire ∙ ap (λ (bytes : List ℕ). bytes ++ flat_map framed came.sent) sent_none in
      let found : came.messages ≡ filter_map spelled h.bodies = sym (h.found ∙ append-nil came.messages) in
      let each : Replies any_floor opening any_spelling p.caller p.seen came.messages came.sent q.seen = subst (λ (rs : List (Message AnyOp)). Replies any_floor opening any_spelling p.caller p.seen came.messages rs q.seen) (append-nil came.sent) a.each in
      let those : Replies any_floor opening any_spelling p.caller p.seen (filter_map spelled h.bodies) came.sent q.seen = subst (λ (ms : List (Message AnyOp)). Replies any_floor opening any_spelling p.caller p.seen ms came.sent q.seen) found each in
      record {
        bodies = h.bodies;
        replies = came.sent;
        led = subst (λ (bytes : List ℕ). Leads 10485760 bytes h.bodies []) (sym given) h.led;
        sent_are = sent;
        each = subst (λ (seen : History). Replies any_floor opening any_spelling p.caller seen (filter_map spelled h.bodies) came.sent q.seen) unseen those;
        legal = a.legal (subst (λ (seen : History). Legal after_call (Answers any_floor) opening seen) (sym unseen) tt);
      }

  pub answered_is : (end : SessionEnd) (count risen : ℕ) → Session any_at any_spelling any_floor opening any_spelling end p q (Some (tape_wire old)) (Some (tape_wire now)) count risen → end ≡ Done → IsAnswered opening p.caller q.seen now.given now.sent
  answered_is end count risen ran is = came_is (subst (λ (e : SessionEnd). Session any_at any_spelling any_floor opening any_spelling e p q (Some (tape_wire old)) (Some (tape_wire now)) count risen) is ran)
