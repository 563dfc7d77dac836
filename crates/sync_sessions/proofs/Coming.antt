-- How far a session came, message by message, and how it ends.
use Rattle.std.proofs.Common.{◌≡◌, ◌⊎◌, ℕ, ◌≤◌, Bool, true, false, List, [], ◌∷◌, ◌++◌, Option, Result, Ok, Err, refl, sym, ap, subst, ◌∙◌, append_assoc, inl, inr}
use Rattle.std.proofs.lemmas.List.{append-nil}
use Rattle.ledger_codec.specs.Causes.{Rose}
use Rattle.ledger_codec.specs.Frames.{Short, front}
use Rattle.sync_net.specs.Wire.{Wire}
use Rattle.sync_sessions.specs.declared.ending.SessionEnd.{SessionEnd}
use Rattle.sync_sessions.specs.declared.ending.SessionEnd.TheVariants.{Done, Network, BrokenFrame, PassSpent, OutOfMemory}
use Rattle.sync_sessions.specs.Hearing.{Heard, IsBroken, Stops}
use Rattle.sync_sessions.specs.Replying.{IsSent, Turns}
use Rattle.sync_sessions.specs.Sessions.{Came, RunsTo}
use Rattle.sync_sessions.proofs.Adding.{heard_none, heard_then, heard_sent, rose_since}

module _ {M S : Type 0} (spelled : List ℕ → Option M) (framed : M → List ℕ) (Answered : S → List M → List M → S → Type 0) where
  -- before anything came
  came_none : (p : S) (told : Option Wire) → Answered p [] [] p → Came spelled framed Answered p p told told false [] [] []
  came_none p told h = record { messages = []; sent = []; heard = heard_none spelled framed [] told; answered = h }

  pub came_first : (p : S) (told : Option Wire) (held : List ℕ) → held ≡ [] → Answered p [] [] p → Came spelled framed Answered p p told told false held [] []
  came_first p told held e h = subst (λ (b : List ℕ). Came spelled framed Answered p p told told false b [] []) (sym e) (came_none p told h)

  -- more was heard, with these messages in it
  came_heard : (p q : S) (a b c : Option Wire) (held rest : List ℕ) (ended : Bool) (more : List M) → Came spelled framed Answered p q a b false held [] [] → Heard spelled framed held rest b c ended more [] → Came spelled framed Answered p q a c ended rest more []
  came_heard p q a b c held rest ended more h k = record {
    messages = h.messages;
    sent = h.sent;
    heard =
        let both = heard_then spelled framed [] held rest a b c ended (h.messages ++ []) more h.sent [] h.heard k in
        subst (λ (s : List M). Heard spelled framed [] rest a c ended (h.messages ++ more) s) (append-nil h.sent)
        (subst (λ (ms : List M). Heard spelled framed [] rest a c ended (ms ++ more) (h.sent ++ [])) (append-nil h.messages) both);
    answered = h.answered;
  }

  -- a message came
  pub came_message : (p q : S) (a b c : Option Wire) (held rest : List ℕ) (m : M) → Came spelled framed Answered p q a b false held [] [] → Heard spelled framed held rest b c false (m ∷ []) [] → Came spelled framed Answered p q a c false rest (m ∷ []) []
  came_message p q a b c held rest m h k = came_heard p q a b c held rest false (m ∷ []) h k

  -- it was answered, and the reply wasn't sent
  came_answered : (p q n : S) (a b c : Option Wire) (rest : List ℕ) (m reply : M) → ((ms rs : List M) → Answered p ms rs q → Answered p (ms ++ m ∷ []) (rs ++ reply ∷ []) n)
      → Came spelled framed Answered p q a b false rest (m ∷ []) [] → c ≡ b → Came spelled framed Answered p n a c false rest [] (reply ∷ [])
  came_answered p q n a b c rest m reply next h same = record {
    messages = h.messages ++ m ∷ [];
    sent = h.sent;
    heard =
        subst (λ (w : Option Wire). Heard spelled framed [] rest a w false ((h.messages ++ m ∷ []) ++ []) h.sent) (sym same)
        (subst (λ (ms : List M). Heard spelled framed [] rest a b false ms h.sent) (sym (append-nil (h.messages ++ m ∷ []))) h.heard);
    answered = next h.messages h.sent (subst (λ (rs : List M). Answered p h.messages rs q) (append-nil h.sent) h.answered);
  }

  -- and it was sent
  pub came_sent : (p q n : S) (a b c : Option Wire) (rest : List ℕ) (m reply : M) → ((ms rs : List M) → Answered p ms rs q → Answered p (ms ++ m ∷ []) (rs ++ reply ∷ []) n)
      → Came spelled framed Answered p q a b false rest (m ∷ []) [] → IsSent framed reply b c → Came spelled framed Answered p n a c false rest [] []
  came_sent p q n a b c rest m reply next h is =
      let k = came_answered p q n a b b rest m reply next h refl in
      record {
        messages = k.messages;
        sent = k.sent ++ reply ∷ [];
        heard =
            let both = heard_then spelled framed [] rest rest a b c false (k.messages ++ []) [] k.sent (reply ∷ []) k.heard (heard_sent spelled framed rest b c reply is) in
            subst (λ (ms : List M). Heard spelled framed [] rest a c false ms (k.sent ++ reply ∷ [])) (append-nil (k.messages ++ [])) both;
        answered = subst (λ (rs : List M). Answered p k.messages rs n) (sym (append-nil (k.sent ++ reply ∷ []))) k.answered;
      }

  module _ (Missed : S → S → Type 0) (Spent : S → Type 0) where
    -- no message came any more
    pub runs_out : (end : SessionEnd) (p q : S) (a b c : Option Wire) (held : List ℕ) (first count risen : ℕ) → first ≤ count → Came spelled framed Answered p q a b false held [] [] → Stops spelled framed end held b c count risen
        → RunsTo spelled framed Answered Missed Spent end p q a c first risen
    runs_out Done p q a b c held first count risen le h s = came_heard p q a b c held [] true [] h s
    runs_out Network p q a b c held first count risen le h s = (rose_since first count risen le s.0, s.1, inl (came_heard p q a b c held s.1 false [] h s.2, s.3))
    runs_out BrokenFrame p q a b c held first count risen le h s = (s.0, s.1, came_heard p q a b c held s.0 s.1 [] h s.2, s.3)
    runs_out PassSpent p q a b c held first count risen le h s = absurd s
    runs_out OutOfMemory p q a b c held first count risen le h s = (s.0, inl (came_heard p q a b c held s.0 false [] h s.1))

    -- a message came that wasn't answered, or whose reply wasn't sent
    module _ (Replied : S → M → M → S → Type 0) (p : S) (next : (q n : S) (m reply : M) (ms rs : List M) → Replied q m reply n → Answered p ms rs q → Answered p (ms ++ m ∷ []) (rs ++ reply ∷ []) n) where
      pub runs_into : (end : SessionEnd) (q n : S) (a b c : Option Wire) (rest : List ℕ) (m : M) (first count risen : ℕ) → first ≤ count → Came spelled framed Answered p q a b false rest (m ∷ []) []
          → Turns framed Replied Missed Spent (Err end) q m n b c count risen → RunsTo spelled framed Answered Missed Spent end p n a c first risen
      runs_into Done q n a b c rest m first count risen le h t = absurd t
      runs_into Network q n a b c rest m first count risen le h t =
          (rose_since first count risen le t.3, rest, inr (t.0, came_answered p q n a b c rest m t.0 (λ ms rs x. next q n m t.0 ms rs t.1 x) h t.2))
      runs_into BrokenFrame q n a b c rest m first count risen le h t = absurd t
      runs_into PassSpent q n a b c rest m first count risen le h t =
          let here = subst (λ (w : Option Wire). Came spelled framed Answered p q a w false rest (m ∷ []) []) (sym t.0) h in
          (rest, m, subst (λ (s : S). Came spelled framed Answered p s a c false rest (m ∷ []) []) (sym t.1) here, subst Spent (sym t.1) t.2)
      runs_into OutOfMemory q n a b c rest m first count risen le h t = (
        rest,
        elim t.1 [
          | inl missed ↦ inr (inr (m, q, subst (λ (w : Option Wire). Came spelled framed Answered p q a w false rest (m ∷ []) []) (sym t.0) h, missed))
          | inr got ↦ inr (inl (got.0, came_answered p q n a b c rest m got.0 (λ ms rs x. next q n m got.0 ms rs got.1 x) h t.0))
        ],
      )

      -- a message was answered, and the reply was sent
      pub goes_on : (q n : S) (a b c : Option Wire) (rest : List ℕ) (m : M) (count risen : ℕ) → Came spelled framed Answered p q a b false rest (m ∷ []) [] → Turns framed Replied Missed Spent (Ok tt) q m n b c count risen
          → Came spelled framed Answered p n a c false rest [] []
      goes_on q n a b c rest m count risen h t = came_sent p q n a b c rest m t.0 (λ ms rs x. next q n m t.0 ms rs t.1 x) h t.2
