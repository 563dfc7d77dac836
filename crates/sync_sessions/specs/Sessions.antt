-- What a session does with a link, and how it ends.
use Rattle.std.specs.Prelude.{◌≡◌, ◌⊎◌, ℕ, Bool, true, false, List, [], ◌∷◌, ◌++◌, Option}
use Rattle.ledger_codec.specs.Causes.{Rose}
use Rattle.ledger_codec.specs.Frames.{Short, front}
use Rattle.sync_net.specs.Wire.{Wire}
use Rattle.sync_sessions.specs.declared.ending.SessionEnd.{SessionEnd}
use Rattle.sync_sessions.specs.declared.ending.SessionEnd.TheVariants.{Done, Network, BrokenFrame, PassSpent, OutOfMemory}
use Rattle.sync_sessions.specs.Hearing.{Heard, IsBroken}

-- Of a server in states of type S. `Answered p messages replies q` says that from p on these messages were answered,
-- one after the other, by these replies, which led to q.
module _ {M S : Type 0} (spelled : List ℕ → Option M) (framed : M → List ℕ) (Answered : S → List M → List M → S → Type 0) where
  -- How far a session came: the messages among the frames that were taken were answered, but for the unanswered ones
  -- at their end, and the frames of the replies were sent, but for the unsent ones at their end.
  pub record Came (p q : S) (before now : Option Wire) (ended : Bool) (rest : List ℕ) (unanswered unsent : List M) : Type 0 where
    pub messages : List M
    pub sent : List M
    pub heard : Heard spelled framed [] rest before now ended (messages ++ unanswered) sent
    pub answered : Answered p messages (sent ++ unsent) q

-- `Missed p q` says that from p on a message got no reply for want of memory, which led to q, and `Spent q` that no
-- message is answered any more.
module _ {M S : Type 0} (spelled : List ℕ → Option M) (framed : M → List ℕ) (Answered : S → List M → List M → S → Type 0) (Missed : S → S → Type 0) (Spent : S → Type 0) where
  -- How a session ends. Done: the link ended where all that was given is whole frames. Network: a recv failed, where
  -- no whole frame was left, or the send of the last reply. BrokenFrame: no frame will follow. PassSpent: one more
  -- message came, for which there is no turn. OutOfMemory: anywhere, and maybe a turn was taken for one more message.
  abbrev pub RunsTo : SessionEnd → S → S → Option Wire → Option Wire → ℕ → ℕ → Type 0
  RunsTo Done p q before now count risen = Came spelled framed Answered p q before now true [] [] []
  RunsTo Network p q before now count risen =
      Rose count risen × (rest : List ℕ)
      × ((Came spelled framed Answered p q before now false rest [] [] × (front 10485760 rest ≡ Short)) ⊎ ((reply : M) × Came spelled framed Answered p q before now false rest [] (reply ∷ [])))
  RunsTo BrokenFrame p q before now count risen = (rest : List ℕ) × (ended : Bool) × Came spelled framed Answered p q before now ended rest [] [] × IsBroken rest ended
  RunsTo PassSpent p q before now count risen = (rest : List ℕ) × (m : M) × Came spelled framed Answered p q before now false rest (m ∷ []) [] × Spent q
  RunsTo OutOfMemory p q before now count risen =
      (rest : List ℕ)
      × (Came spelled framed Answered p q before now false rest [] []
      ⊎ (((reply : M) × Came spelled framed Answered p q before now false rest [] (reply ∷ []))
      ⊎ ((m : M) × (between : S) × Came spelled framed Answered p between before now false rest (m ∷ []) [] × Missed between q)))
