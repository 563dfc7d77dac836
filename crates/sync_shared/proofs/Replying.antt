-- From what a turn left to what the call says.
use Rattle.std.proofs.Common.{◌≡◌, ◌≢◌, ℕ, ◌+◌, ◌==◌, false, List, [], ◌∷◌, ◌++◌, Option, Some, None, Result, Ok, Err, refl, sym, ap, ◌∙◌, subst, append-nil, arith}
use Rattle.std.specs.Prelude.{IfOk, OnErr}
use Rattle.std.proofs.lemmas.Bool.Decides.{nat_tests}
use Rattle.ledger_codec.specs.declared.memory.OutOfMemory.{OutOfMemory as Starving}
use Rattle.ledger_log.specs.declared.fault.LogFault.{LogFault}
use Rattle.ledger_log.specs.View.{LogView, log_size, log_floor}
use Rattle.ledger_log.specs.Faults.{append_refusal}
use Rattle.sha2.specs.Sha256.{sha256}
use Rattle.sync_net.specs.Core.{core}
use Rattle.sync_net.specs.declared.message.Message.{Message}
use Rattle.turn_lock.specs.declared.entry.Entry.{Entry}
use Rattle.turn_lock.specs.declared.held.Held.{Held}
use Rattle.turn_lock.specs.History.{Legal, calls, entry}
use Rattle.turn_lock.specs.Passes.{Origin, PassValue, having_seen, Takes, Gives}
use Rattle.turn_lock.proofs.Histories.{legal_snoc, calls-own}
use Rattle.turn_lock.proofs.Turning.{gives_one, gives_none}
use Rattle.sync_shared.specs.Calls.{grown, after_call, Answers}
use Rattle.sync_shared.specs.declared.event.Event.{Event}
use Rattle.sync_shared.specs.declared.event.Event.TheVariants.{Request, Batch}
use Rattle.sync_shared.specs.declared.event.EventOutcome.{EventOutcome}
use Rattle.sync_shared.specs.declared.event.EventOutcome.TheVariants as outcomes
use Rattle.sync_shared.specs.declared.refusal.ShareRefusal.{ShareRefusal}
use Rattle.sync_shared.specs.declared.refusal.ShareRefusal.TheVariants.{PassSpent, Log, OutOfMemory}
use Rattle.sync_shared.specs.declared.turns.Answer.{Answer}
use Rattle.sync_shared.specs.declared.turns.Answer.TheVariants.{Taken, Refused, Starved}
use Rattle.sync_shared.specs.Turns.{result_of, entries, IsAnswer}
use Rattle.sync_shared.specs.Replies.{log_after, later, Belongs, Made, Missed, Served, Appends}

pub not_spent : (used turns : ℕ) → (used == turns) ≡ false → used ≢ turns
not_spent used turns is = grind (arith, nat_tests)

-- of a call by the pass p, which is m in its turn and q behind it; the turn began with y and ended with z
module _ {Op : Type 0} (floor_of : Op → Option ℕ) (o : LogView Op) (p m q : PassValue (LogView Op) (Event Op) EventOutcome) (y z : Held (LogView Op) (Event Op) EventOutcome) (t : Takes after_call (Answers floor_of) o p m y) where
  -- an entry was made
  made : (event : Event Op) (outcome : EventOutcome) → p.used ≢ p.turns → Answers floor_of y.value event outcome → z.history.items ≡ y.history.items ++ entry p.caller event outcome ∷ [] → q ≡ having_seen m z.history.items → Made floor_of o p q y.history.items event outcome
  made event outcome left answers history is = record {
    left = left;
    pass = is ∙ ap (λ x. having_seen x z.history.items) t.pass ∙ ap (later p (p.used + 1)) history;
    begins = t.begins;
    legal = legal_snoc after_call (Answers floor_of) o y.history.items (entry p.caller event outcome) t.legal (subst (λ v. Answers floor_of v event outcome) t.value answers);
    own = calls-own p.caller y.history.items (entry p.caller event outcome) refl ∙ ap (λ l. l ++ event ∷ []) t.own;
  }

  -- none was made
  missed : p.used ≢ p.turns → z.history.items ≡ y.history.items → q ≡ having_seen m z.history.items → Missed p q
  missed left history is =
      let all : q ≡ later p (p.used + 1) y.history.items = is ∙ ap (λ x. having_seen x z.history.items) t.pass ∙ ap (later p (p.used + 1)) history in
      let seen : q.seen ≡ y.history.items = ap (λ (x : PassValue (LogView Op) (Event Op) EventOutcome). x.seen) all in
      record {
        left = left;
        pass = all ∙ ap (later p (p.used + 1)) (sym seen);
        begins = (t.begins.0, seen ∙ t.begins.1);
        own = ap (calls p.caller) seen ∙ t.own;
      }

  -- ---- a message

  pub serve_gives : (caller : ℕ) (message : Message Op) (reply : Result (Message Op) Starving) → caller ≡ p.caller → z.value ≡ y.value
      → IfOk reply (λ r. z.history.items ≡ y.history.items ++ entry caller (Request message) (outcomes.Replied (log_size y.value)) ∷ []) → OnErr reply (z.history.items ≡ y.history.items) → Gives after_call (Answers floor_of) o m z
  serve_gives caller message (Ok r) is log history none =
      gives_one after_call (Answers floor_of) o p m y z (Request message) (outcomes.Replied (log_size y.value)) t refl log (history ∙ ap (λ c. y.history.items ++ entry c (Request message) (outcomes.Replied (log_size y.value)) ∷ []) is)
  serve_gives caller message (Err e) is log history none = gives_none after_call (Answers floor_of) o p m y z t log none

  pub serve_ok : (spelling : Op → List ℕ) (caller : ℕ) (message reply : Message Op) → p.used ≢ p.turns → caller ≡ p.caller → reply ≡ core sha256 spelling (log_floor floor_of y.value) y.value message
      → z.history.items ≡ y.history.items ++ entry caller (Request message) (outcomes.Replied (log_size y.value)) ∷ [] → q ≡ having_seen m z.history.items → Served floor_of o spelling p message q (Ok reply)
  serve_ok spelling caller message reply left mine is history seen =
      let size = ap (λ (v : LogView Op). log_size v) t.value in (
        y.history.items,
        is ∙ ap (λ (v : LogView Op). core sha256 spelling (log_floor floor_of v) v message) t.value,
        subst (λ n. Made floor_of o p q y.history.items (Request message) (outcomes.Replied n)) size
            (made (Request message) (outcomes.Replied (log_size y.value)) left refl (history ∙ ap (λ c. y.history.items ++ entry c (Request message) (outcomes.Replied (log_size y.value)) ∷ []) mine) seen),
      )

  pub serve_err : (spelling : Op → List ℕ) (message : Message Op) → p.used ≢ p.turns → z.history.items ≡ y.history.items → q ≡ having_seen m z.history.items → Served floor_of o spelling p message q (Err OutOfMemory)
  serve_err spelling message left history is = missed left history is

  -- ---- a batch

  pub append_gives : (caller : ℕ) (ops : List Op) (answer : Answer) → caller ≡ p.caller → IsAnswer floor_of y.value ops z.value answer → z.history.items ≡ y.history.items ++ entries caller ops answer → Gives after_call (Answers floor_of) o m z
  append_gives caller ops (Taken size) is a history =
      gives_one after_call (Answers floor_of) o p m y z (Batch ops) (outcomes.Appended size) t (a.0, a.1) a.2 (history ∙ ap (λ c. y.history.items ++ entry c (Batch ops) (outcomes.Appended size) ∷ []) is)
  append_gives caller ops (Refused fault) is a history =
      gives_one after_call (Answers floor_of) o p m y z (Batch ops) (outcomes.Refused fault) t a.0 a.1 (history ∙ ap (λ c. y.history.items ++ entry c (Batch ops) (outcomes.Refused fault) ∷ []) is)
  append_gives caller ops Starved is a history = gives_none after_call (Answers floor_of) o p m y z t a (history ∙ append-nil y.history.items)

  pub appends : (caller : ℕ) (ops : List Op) (answer : Answer) → p.used ≢ p.turns → caller ≡ p.caller → IsAnswer floor_of y.value ops z.value answer → z.history.items ≡ y.history.items ++ entries caller ops answer → q ≡ having_seen m z.history.items
      → Appends floor_of o p ops q (result_of answer)
  appends caller ops (Taken size) left mine a history is = (
    y.history.items,
    subst (λ (v : LogView Op). append_refusal floor_of v ops ≡ None) t.value a.0,
    a.1 ∙ ap (λ (v : LogView Op). log_size (grown v ops)) t.value,
    made (Batch ops) (outcomes.Appended size) left (a.0, a.1) (history ∙ ap (λ c. y.history.items ++ entry c (Batch ops) (outcomes.Appended size) ∷ []) mine) is,
  )
  appends caller ops (Refused fault) left mine a history is = (
    y.history.items,
    subst (λ (v : LogView Op). append_refusal floor_of v ops ≡ Some fault) t.value a.0,
    made (Batch ops) (outcomes.Refused fault) left a.0 (history ∙ ap (λ c. y.history.items ++ entry c (Batch ops) (outcomes.Refused fault) ∷ []) mine) is,
  )
  appends caller ops Starved left mine a history is = missed left (history ∙ append-nil y.history.items) is

-- of a call by the pass p, which is q behind it
module _ {Op : Type 0} (floor_of : Op → Option ℕ) (o : LogView Op) (from : Origin (LogView Op)) (p q : PassValue (LogView Op) (Event Op) EventOutcome) (b : Belongs from p) where
  -- the pass is one of the same lock
  pub served_belongs : (spelling : Op → List ℕ) (message : Message Op) (r : Result (Message Op) ShareRefusal) → Served floor_of o spelling p message q r → Belongs from q
  served_belongs spelling message (Ok reply) s =
      let e = s.2.pass in (ap (λ (x : PassValue (LogView Op) (Event Op) EventOutcome). x.from) e ∙ b.0, ap (λ (x : PassValue (LogView Op) (Event Op) EventOutcome). x.within) e)
  served_belongs spelling message (Err PassSpent) s = subst (Belongs from) (sym s.1) b
  served_belongs spelling message (Err (Log fault)) s = absurd s
  served_belongs spelling message (Err OutOfMemory) s =
      (ap (λ (x : PassValue (LogView Op) (Event Op) EventOutcome). x.from) s.pass ∙ b.0, ap (λ (x : PassValue (LogView Op) (Event Op) EventOutcome). x.within) s.pass)

  -- the same of a batch
  pub appended_belongs : (ops : List Op) (r : Result ℕ ShareRefusal) → Appends floor_of o p ops q r → Belongs from q
  appended_belongs ops (Ok size) s = let e = s.3.pass in (ap (λ (x : PassValue (LogView Op) (Event Op) EventOutcome). x.from) e ∙ b.0, ap (λ (x : PassValue (LogView Op) (Event Op) EventOutcome). x.within) e)
  appended_belongs ops (Err PassSpent) s = subst (Belongs from) (sym s.1) b
  appended_belongs ops (Err (Log fault)) s = let e = s.2.pass in (ap (λ (x : PassValue (LogView Op) (Event Op) EventOutcome). x.from) e ∙ b.0, ap (λ (x : PassValue (LogView Op) (Event Op) EventOutcome). x.within) e)
  appended_belongs ops (Err OutOfMemory) s =
      (ap (λ (x : PassValue (LogView Op) (Event Op) EventOutcome). x.from) s.pass ∙ b.0, ap (λ (x : PassValue (LogView Op) (Event Op) EventOutcome). x.within) s.pass)
