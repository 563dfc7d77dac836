-- What went out of the lines of `serve`, and of a fault's line behind them.
use Rattle.std.proofs.Common.{◌≡◌, ℕ, zero, suc, ◌≤◌, inl, inr, Bool, List, [], ◌∷◌, ◌++◌, take, Option, Some, None, Result, Ok, Err, refl, sym, ap, subst, append-nil}
use Rattle.std.specs.Prelude.{IfErr, OnOk, IsOk}
use Rattle.std.proofs.KnownBytes.{Appends-trans}
use Rattle.std.specs.Io.KnownBytes.{Appends}
use Rattle.ledger_codec.specs.declared.sink.SinkError.{SinkError}
use Rattle.ledger_codec.specs.declared.sink.SinkError.TheVariants as sink
use Rattle.ledger_program.proofs.Pieces.{rose_before}
use Rattle.ledger_program.specs.ErrorLines.{line_of}
use Rattle.ledger_program.specs.Run.{LineWent}
use Rattle.ledger_program.specs.Writing.{AppendsFront, Writes}
use Rattle.ledger_program.specs.declared.outcome.RunFault.{RunFault}
use Rattle.ledger_program.specs.declared.outcome.RunFault.TheVariants.{Usage, BadJob, JobRead, JobTooLarge, Dial, Follow, Output, OutOfMemory}
use Rattle.ledger_serve.specs.Ending.{FinishFails}
use Rattle.ledger_serve.specs.Lines.{listening, sessions_line, both_lines, fault_of, WriteFails}
use Rattle.ledger_serve.specs.Links.{Took, StartFails}
use Rattle.ledger_serve.specs.Serving.{ReadFails, Served, Stops, Leaves, Wrote}

-- a front of a text is one of a longer text
front_at : (n : ℕ) (p q : List ℕ) → (m : ℕ) × (take m (p ++ q) ≡ take n p)
front_at zero p q = (0, refl)
front_at (suc n) [] q = (0, refl)
front_at (suc n) (x ∷ p) q = let rest = front_at n p q in (suc rest.0, ap (λ l. x ∷ l) rest.1)

-- so is a text with a front of what follows
past_at : (p q : List ℕ) (n : ℕ) → (m : ℕ) × (take m (p ++ q) ≡ p ++ take n q)
past_at [] q n = (n, refl)
past_at (x ∷ p) q n = let rest = past_at p q n in (suc rest.0, ap (λ l. x ∷ l) rest.1)

-- why a text wasn't written, as a fault of the run
pub write_fails : (grows : Bool) (a b : Option (List ℕ)) (x y : ℕ) (text : List ℕ) (e : SinkError) → Writes grows a b x y text (Err e) → WriteFails text a b x y (fault_of e)
write_fails grows a b x y text sink.Failed w = (w.front, w.failed cc)
write_fails grows a b x y text sink.OutOfMemory w = w.front

-- nothing went out
pub appends_none : (a : Option (List ℕ)) → Appends a a []
appends_none None = tt
appends_none (Some xs) = sym (append-nil xs)

-- memory was wanting before anything was written
pub unshared : (lines : List ℕ) (a : Option (List ℕ)) (fault : RunFault) → fault ≡ OutOfMemory → Leaves lines a a fault
unshared lines a fault e = subst (Leaves lines a a) (sym e) (record { text = []; before = (0, refl); went = appends_none a })

pub unshared_stops : (l w : ℕ) (fault : RunFault) → fault ≡ OutOfMemory → Stops l l w w fault
unshared_stops l w fault e = subst (Stops l l w w) (sym e) tt

-- so was there no job
pub unread : (lines : List ℕ) (a : Option (List ℕ)) (left : Option (List ℕ)) (r s : ℕ) (fault : RunFault) → ReadFails left r s fault → Leaves lines a a fault
unread lines a left r s Usage h = absurd h
unread lines a left r s (BadJob line) h = record { text = []; before = refl; went = appends_none a }
unread lines a left r s JobRead h = record { text = []; before = refl; went = appends_none a }
unread lines a left r s JobTooLarge h = record { text = []; before = refl; went = appends_none a }
unread lines a left r s Dial h = absurd h
unread lines a left r s (Follow fault) h = absurd h
unread lines a left r s Output h = absurd h
unread lines a left r s OutOfMemory h = unshared lines a OutOfMemory refl

-- or there was no form
pub unasked : (lines : List ℕ) (a : Option (List ℕ)) → Leaves lines a a Usage
unasked lines a = record { text = []; before = refl; went = appends_none a }

module _ (count : ℕ) (a b : Option (List ℕ)) where
  -- a front of the first line
  pub unannounced : (w v : ℕ) (fault : RunFault) → WriteFails listening a b w v fault → Leaves (both_lines count) a b fault
  unannounced w v Usage h = absurd h
  unannounced w v (BadJob line) h = absurd h
  unannounced w v JobRead h = absurd h
  unannounced w v JobTooLarge h = absurd h
  unannounced w v Dial h = absurd h
  unannounced w v (Follow fault) h = absurd h
  unannounced w v Output h = record { text = take h.0.0 listening; before = let m = front_at h.0.0 listening (sessions_line count) in (m.0, sym m.1); went = h.0.1 }
  unannounced w v OutOfMemory h = record { text = take h.0 listening; before = let m = front_at h.0 listening (sessions_line count) in (m.0, sym m.1); went = h.1 }

  pub unannounced_stops : (l w v : ℕ) (fault : RunFault) → WriteFails listening a b w v fault → Stops l l w v fault
  unannounced_stops l w v Usage h = h
  unannounced_stops l w v (BadJob line) h = h
  unannounced_stops l w v JobRead h = h
  unannounced_stops l w v JobTooLarge h = h
  unannounced_stops l w v Dial h = absurd h
  unannounced_stops l w v (Follow fault) h = h
  unannounced_stops l w v Output h = h.1
  unannounced_stops l w v OutOfMemory h = tt

  module _ (c : Option (List ℕ)) (announced : Appends a b listening) where
    -- the first line whole, and a front of the second
    unsaid : (w v : ℕ) (fault : RunFault) → WriteFails (sessions_line count) b c w v fault → Leaves (both_lines count) a c fault
    unsaid w v Usage h = absurd h
    unsaid w v (BadJob line) h = absurd h
    unsaid w v JobRead h = absurd h
    unsaid w v JobTooLarge h = absurd h
    unsaid w v Dial h = absurd h
    unsaid w v (Follow fault) h = absurd h
    unsaid w v Output h = record { text = listening ++ take h.0.0 (sessions_line count); before = let m = past_at listening (sessions_line count) h.0.0 in (m.0, sym m.1); went = Appends-trans a b c listening (take h.0.0 (sessions_line count)) announced h.0.1 }
    unsaid w v OutOfMemory h = record { text = listening ++ take h.0 (sessions_line count); before = let m = past_at listening (sessions_line count) h.0 in (m.0, sym m.1); went = Appends-trans a b c listening (take h.0 (sessions_line count)) announced h.1 }

    -- the first line alone
    unstarted : (l k : ℕ) (fault : RunFault) → StartFails l k fault → c ≡ b → Leaves (both_lines count) a c fault
    unstarted l k Usage h e = absurd h
    unstarted l k (BadJob line) h e = absurd h
    unstarted l k JobRead h e = absurd h
    unstarted l k JobTooLarge h e = absurd h
    unstarted l k Dial h e = record { text = listening; before = refl; went = subst (λ o. Appends a o listening) (sym e) announced }
    unstarted l k (Follow fault) h e = absurd h
    unstarted l k Output h e = absurd h
    unstarted l k OutOfMemory h e = record { text = listening; before = (10, refl); went = subst (λ o. Appends a o listening) (sym e) announced }

    -- what went out where serving didn't end with its last line
    pub unfinished : (started : Result (Unit {0}) RunFault) (l k w v : ℕ) (fault : RunFault) → IfErr started (StartFails l k) → FinishFails started count b c w v fault → Leaves (both_lines count) a c fault
    unfinished (Ok done) l k w v fault s f = unsaid w v fault f
    unfinished (Err cause) l k w v fault s f = subst (Leaves (both_lines count) a c) (sym f.0) (unstarted l k cause s f.1)

    unsaid_stops : (l k w x v : ℕ) (fault : RunFault) → w ≤ x → WriteFails (sessions_line count) b c x v fault → Stops l k w v fault
    unsaid_stops l k w x v Usage o h = h
    unsaid_stops l k w x v (BadJob line) o h = h
    unsaid_stops l k w x v JobRead o h = h
    unsaid_stops l k w x v JobTooLarge o h = h
    unsaid_stops l k w x v Dial o h = absurd h
    unsaid_stops l k w x v (Follow fault) o h = h
    unsaid_stops l k w x v Output o h = rose_before w x v o h.1
    unsaid_stops l k w x v OutOfMemory o h = tt

    unstarted_stops : (l k w v : ℕ) (fault : RunFault) → StartFails l k fault → Stops l k w v fault
    unstarted_stops l k w v Usage h = h
    unstarted_stops l k w v (BadJob line) h = h
    unstarted_stops l k w v JobRead h = h
    unstarted_stops l k w v JobTooLarge h = h
    unstarted_stops l k w v Dial h = h
    unstarted_stops l k w v (Follow fault) h = h
    unstarted_stops l k w v Output h = absurd h
    unstarted_stops l k w v OutOfMemory h = tt

    pub unfinished_stops : (started : Result (Unit {0}) RunFault) (l k w x v : ℕ) (fault : RunFault) → w ≤ x → IfErr started (StartFails l k) → FinishFails started count b c x v fault → Stops l k w v fault
    unfinished_stops (Ok done) l k w x v fault o s f = unsaid_stops l k w x v fault o f
    unfinished_stops (Err cause) l k w x v fault o s f = subst (Stops l k w v) (sym f.0) (unstarted_stops l k w v cause s)

-- both lines went out
pub both_went : (count : ℕ) (a b c : Option (List ℕ)) → Appends a b listening → Appends b c (sessions_line count) → Appends a c (both_lines count)
both_went count a b c p q = Appends-trans a b c listening (sessions_line count) p q

-- and all was served
pub served_all : {L : Type 0} (count : ℕ) (coming coming_now : Option (List L)) (started joined : ℕ) (a b c : Option (List ℕ)) (r : Result (Unit {0}) RunFault) → IsOk r → OnOk r (Took count coming coming_now) → started ≡ count → joined ≡ count → Appends a b listening → Appends b c (sessions_line count) → Served count coming coming_now started joined a c
served_all count coming coming_now started joined a b c (Ok done) o t s j p q = record { took = t; started_all = s; joined_all = j; wrote = both_went count a b c p q }
served_all count coming coming_now started joined a b c (Err fault) o t s j p q = absurd (let k = o in cc)

went_later : (grows : Bool) (x y z : ℕ) (P Q : Type 0) → x ≤ y → (P → Q) → LineWent grows y z P → LineWent grows x z Q
went_later grows x y z P Q o f (inl p) = inl (f p)
went_later grows x y z P Q o f (inr (inl r)) = inr (inl (rose_before x y z o r))
went_later grows x y z P Q o f (inr (inr g)) = inr (inr g)

-- the line of a fault went out behind what was before
pub wrote_behind : (grows : Bool) (lines : List ℕ) (a b c : Option (List ℕ)) (x y z : ℕ) (fault : RunFault) → Leaves lines a b fault → x ≤ y → AppendsFront b c (line_of fault) → LineWent grows y z (Appends b c (line_of fault)) → Wrote grows lines a c x z fault
wrote_behind grows lines a b c x y z fault h o f w = record {
  text = h.text;
  before = h.before;
  front = f.0;
  went = Appends-trans a b c h.text (take f.0 (line_of fault)) h.went f.1;
  whole = went_later grows x y z (Appends b c (line_of fault)) (Appends a c (h.text ++ line_of fault)) o (λ p. Appends-trans a b c h.text (line_of fault) h.went p) w;
}
