-- One reply of a shared log after others.
use Rattle.std.proofs.Common.{◌≡◌, ℕ, ◌+◌, Bool, false, List, [], ◌∷◌, ◌++◌, length, map, Option, Ok, refl, sym, ap, subst, ◌∙◌, append_assoc, arith, length-append}
use Rattle.std.proofs.lemmas.List.{append-nil, map-append}
use Rattle.sha2.specs.Sha256.{sha256}
use Rattle.ledger_compact.specs.View.{CompactView}
use Rattle.ledger_log.specs.View.{LogView, log_size, log_floor}
use Rattle.sync_net.specs.Core.{core}
use Rattle.sync_net.specs.declared.message.Message.{Message}
use Rattle.turn_lock.specs.declared.entry.Entry.{Entry}
use Rattle.turn_lock.specs.History.{Legal, calls, entry, IsBeginning}
use Rattle.turn_lock.specs.Passes.{Origin, PassValue}
use Rattle.sync_compact.specs.Core.{compact_core}
use Rattle.sync_shared.specs.Calls.{after_call, Answers}
use Rattle.sync_shared.specs.declared.event.Event.{Event}
use Rattle.sync_shared.specs.declared.event.Event.TheVariants.{Request}
use Rattle.sync_shared.specs.declared.event.EventOutcome.{EventOutcome}
use Rattle.sync_shared.specs.declared.event.EventOutcome.TheVariants.{Replied}
use Rattle.sync_shared.specs.Replies.{log_after, later, Belongs, Served, Made}
use Rattle.sync_sessions.specs.Compact.{IsCompactReply, RepliesOf}
use Rattle.sync_sessions.specs.Replying.{RepliedIn}
use Rattle.sync_sessions.specs.Turns.{Replies, AnswersAll}

module _ {Op : Type 0} (floor_of : Op → Option ℕ) (opening : LogView Op) (spelling : Op → List ℕ) where
  -- a pass in no turn got no reply to no message
  pub answers_none : (p : PassValue (LogView Op) (Event Op) EventOutcome) → p.within ≡ false → AnswersAll floor_of opening spelling p [] [] p
  answers_none p idle =
      let here : p ≡ later p p.used p.seen = ap (λ (v : Bool). let x : PassValue (LogView Op) (Event Op) EventOutcome = record p { within = v } in x) idle in
      let none : p.used ≡ p.used + 0 = omega arith in
      record {
        pass = here ∙ ap (λ (u : ℕ). later p u p.seen) none;
        own = sym (append-nil (calls p.caller p.seen));
        legal = λ h. h;
        each = refl;
      }

  -- one reply more
  replies_then : (c : ℕ) (seen : List (Entry (Event Op) EventOutcome)) (ms rs : List (Message Op)) (mid : List (Entry (Event Op) EventOutcome)) (m r : Message Op) (last : List (Entry (Event Op) EventOutcome))
      → Replies floor_of opening spelling c seen ms rs mid → Replies floor_of opening spelling c mid (m ∷ []) (r ∷ []) last → Replies floor_of opening spelling c seen (ms ++ m ∷ []) (rs ++ r ∷ []) last
  replies_then c seen [] [] mid m r last h k = subst (λ (s : List (Entry (Event Op) EventOutcome)). Replies floor_of opening spelling c s (m ∷ []) (r ∷ []) last) h k
  replies_then c seen [] (s ∷ rs) mid m r last h k = absurd h
  replies_then c seen (n ∷ ms) [] mid m r last h k = absurd h
  replies_then c seen (n ∷ ms) (s ∷ rs) mid m r last h k = (h.0, h.1, h.2, replies_then c (h.0 ++ entry c (Request n) (Replied (log_size (log_after opening h.0))) ∷ []) ms rs mid m r last h.3 k)

  -- of a pass that has taken so many turns and has seen this
  next_at : (p n : PassValue (LogView Op) (Event Op) EventOutcome) (used : ℕ) (seen : List (Entry (Event Op) EventOutcome)) (m r : Message Op) (ms rs : List (Message Op))
      → used ≡ p.used + length ms
      → calls p.caller seen ≡ calls p.caller p.seen ++ map Request ms
      → (Legal after_call (Answers floor_of) opening p.seen → Legal after_call (Answers floor_of) opening seen)
      → Replies floor_of opening spelling p.caller p.seen ms rs seen
      → RepliedIn floor_of opening spelling (later p used seen) m r n
      → AnswersAll floor_of opening spelling p (ms ++ m ∷ []) (rs ++ r ∷ []) n
  next_at p n used seen m r ms rs count own legal replies s =
      let before = s.0 in
      let is = s.2.pass in
      let all : n.seen ≡ before ++ entry p.caller (Request m) (Replied (log_size (log_after opening before))) ∷ [] = ap (λ (x : PassValue (LogView Op) (Event Op) EventOutcome). x.seen) is in
      let more : length (ms ++ m ∷ []) ≡ length ms + 1 = length-append ms (m ∷ []) in
      let turns : used + 1 ≡ p.used + length (ms ++ m ∷ []) = omega (arith, count, more) in
      record {
        pass = is ∙ (ap (λ (u : ℕ). later p u (before ++ entry p.caller (Request m) (Replied (log_size (log_after opening before))) ∷ [])) turns
            ∙ ap (λ (x : List (Entry (Event Op) EventOutcome)). later p (p.used + length (ms ++ m ∷ [])) x) (sym all));
        own = ap (calls p.caller) all ∙ (s.2.own ∙ (ap (λ (x : List (Event Op)). x ++ Request m ∷ []) own
            ∙ (append_assoc (calls p.caller p.seen) (map Request ms) (Request m ∷ []) ∙ ap (λ (x : List (Event Op)). calls p.caller p.seen ++ x) (sym (map-append Request ms (m ∷ []))))));
        legal = λ h. subst (λ (x : List (Entry (Event Op) EventOutcome)). Legal after_call (Answers floor_of) opening x) (sym all) s.2.legal;
        each = replies_then p.caller p.seen ms rs seen m r n.seen replies (before, s.2.begins, s.1, all);
      }

  pub answers_then : (p q n : PassValue (LogView Op) (Event Op) EventOutcome) (m r : Message Op) (ms rs : List (Message Op)) → RepliedIn floor_of opening spelling q m r n → AnswersAll floor_of opening spelling p ms rs q
      → AnswersAll floor_of opening spelling p (ms ++ m ∷ []) (rs ++ r ∷ []) n
  answers_then p q n m r ms rs s h =
      next_at p n (p.used + length ms) q.seen m r ms rs refl h.own h.legal h.each (subst (λ (x : PassValue (LogView Op) (Event Op) EventOutcome). RepliedIn floor_of opening spelling x m r n) h.pass s)

-- one reply more of a log that never changes
pub compact_then : {Op : Type 0} (kept : Option (CompactView Op)) (q n : Unit {0}) (m r : Message Op) (ms rs : List (Message Op)) → IsCompactReply kept q m r n → RepliesOf kept tt ms rs q → RepliesOf kept tt (ms ++ m ∷ []) (rs ++ r ∷ []) n
compact_then {Op} kept q n m r ms rs is e =
    let f : Message Op → Message Op = compact_core sha256 kept in
    ap (λ (l : List (Message Op)). l ++ r ∷ []) e ∙ (ap (λ (x : Message Op). map f ms ++ x ∷ []) is ∙ sym (map-append f ms (m ∷ [])))
