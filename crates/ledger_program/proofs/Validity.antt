-- Valid input over a link that serves it is followed, or memory is wanting.
use Rattle.std.proofs.Common.{◌≡◌, ℕ, zero, suc, ◌≤◌, ◌-◌, List, [], ◌∷◌, length, take, drop, Option, Some, Err, refl, sym, ap, subst, ◌∙◌, arith, true≢false}
use Rattle.std.specs.Prelude.{All, slice_get, is_some, unwrap_or}
use Rattle.std.specs.List.{AllByRecursion}
use Rattle.std.proofs.lemmas.List.Elements.{All-head, All-tail}
use Rattle.std.proofs.lemmas.List.{length-append}
use Rattle.ledger_codec.specs.Causes.{Rose}
use Rattle.ledger_job.specs.declared.block.Block.{Block}
use Rattle.ledger_job.specs.declared.block.BlockVerdicts.{BlockVerdicts}
use Rattle.ledger_log.specs.Any.{IsSoundAny}
use Rattle.ledger_log.specs.View.{LogView}
use Rattle.ledger_managed.specs.Values.{ValueLaws}
use Rattle.ledger_log.specs.declared.any.AnyOp.{AnyOp}
use Rattle.ledger_log.specs.declared.any.AnyOp.TheVariants.{Update, Delete, CommitFloor}
use Rattle.ledger_log.specs.declared.target.Target.{Target}
use Rattle.ledger_program.specs.Follow.{FollowFails, FollowsLog, IsValid, range_in}
use Rattle.ledger_program.specs.declared.fault.Fault.{Fault}
use Rattle.ledger_program.specs.declared.fault.Fault.TheVariants as faults
use Rattle.ledger_settling.proofs.CauseLemmas.{IsWritten, one_batch, never_rejected}
use Rattle.ledger_settling.specs.Blocks.{Meaning, IsReadable, Settles, RunsTo, batch_of, grown, appended}
use Rattle.ledger_settling.specs.Faults.{IsUnreadable}
use Rattle.ledger_transfers.specs.Touches.{touches}
use Rattle.sync_client.proofs.Insides.{All-at}
use Rattle.sync_client.specs.Ending.{Origin}
use Rattle.sync_net.specs.Wire.{Wire}

some_is : {X : Type 0} (x y : X) → Some x ≡ Some y → x ≡ y
some_is x y h = ap (λ o. unwrap_or o x) h

module _ {T A E : Type 0} (m : Meaning T A E) where
  -- ---- each value that the log holds has 32 bytes

  sound_written : (ops : List AnyOp) → All IsSoundAny ops → AllByRecursion (IsWritten m) ops
  sound_written [] h = tt
  sound_written (Update key value ∷ ops) h = ((All-head IsSoundAny (Update key value) ops h).1, sound_written ops (All-tail IsSoundAny (Update key value) ops h))
  sound_written (Delete key ∷ ops) h = (tt, sound_written ops (All-tail IsSoundAny (Delete key) ops h))
  sound_written (CommitFloor metadata floor ∷ ops) h = (tt, sound_written ops (All-tail IsSoundAny (CommitFloor metadata floor) ops h))

  dropped_written : (n : ℕ) (ops : List AnyOp) → AllByRecursion (IsWritten m) ops → AllByRecursion (IsWritten m) (drop n ops)
  dropped_written zero ops h = h
  dropped_written (suc n) [] h = tt
  dropped_written (suc n) (op ∷ ops) h = dropped_written n ops h.1

  taken_written : (n : ℕ) (ops : List AnyOp) → AllByRecursion (IsWritten m) ops → AllByRecursion (IsWritten m) (take n ops)
  taken_written zero ops h = tt
  taken_written (suc n) [] h = tt
  taken_written (suc n) (op ∷ ops) h = (h.0, taken_written n ops h.1)

  -- so has each value in the target's range
  pub range_written : (log : LogView AnyOp) (target : Target) → All IsSoundAny log.ops → AllByRecursion (IsWritten m) (range_in log target)
  range_written log target h = taken_written (target.end - target.start) (drop (target.start - log.front) log.ops) (dropped_written (target.start - log.front) log.ops (sound_written log.ops h))

  -- ---- no block makes the log too long

  grows : (start : ℕ) (ops : List AnyOp) (batch : List T) → length ops ≤ length (grown m start ops batch)
  grows start ops batch = let e = length-append ops (appended m.same m.rules m.values start ops (touches m.changes_of batch)) in omega arith

  runs_on : (start : ℕ) (bs : List (Block T)) (vs : List BlockVerdicts) (ops all : List AnyOp) → RunsTo m start ops bs vs all → length ops ≤ length all
  runs_on start [] [] ops all e = let n = ap length e in omega arith
  runs_on start [] (v ∷ vs) ops all e = absurd e
  runs_on start (b ∷ bs) [] ops all e = absurd e
  runs_on start (b ∷ bs) (v ∷ vs) ops all e = let n = grows start ops (batch_of b v) in let k = runs_on start bs vs (grown m start ops (batch_of b v)) all e.1 in omega arith

  none_long : (start : ℕ) (bs : List (Block T)) (vs : List BlockVerdicts) (ops all : List AnyOp) → RunsTo m start ops bs vs all
      → (i : ℕ) (ws : List BlockVerdicts) (there : List AnyOp) (block : Block T) (v : BlockVerdicts) → RunsTo m start ops (take i bs) ws there → slice_get bs i ≡ Some block → Settles m there block v → length (grown m start there (batch_of block v)) ≤ length all
  none_long start [] vs ops all runs i ws there block v before at s = absurd (true≢false (sym (ap is_some at)))
  none_long start (b ∷ bs) [] ops all runs i ws there block v before at s = absurd runs
  none_long start (b ∷ bs) (u ∷ vs) ops all runs zero [] there block v before at s =
      let is : b ≡ block = some_is b block at in
      let here : Settles m ops b v = subst (λ c. Settles m ops c v) (sym is) (subst (λ us. Settles m us block v) before s) in
      let same : batch_of b v ≡ batch_of b u = one_batch m ops b v u here runs.0 in
      let k = runs_on start bs vs (grown m start ops (batch_of b u)) all runs.1 in
      let e : length (grown m start there (batch_of block v)) ≡ length (grown m start ops (batch_of b u)) =
      ap (λ us. length (grown m start us (batch_of block v))) before ∙ (ap (λ c. length (grown m start ops (batch_of c v))) (sym is) ∙ ap (λ us. length (grown m start ops us)) same) in
      omega arith
  none_long start (b ∷ bs) (u ∷ vs) ops all runs zero (w ∷ ws) there block v before at s = absurd before
  none_long start (b ∷ bs) (u ∷ vs) ops all runs (suc i) [] there block v before at s = absurd before
  none_long start (b ∷ bs) (u ∷ vs) ops all runs (suc i) (w ∷ ws) there block v before at s =
      let same = one_batch m ops b w u before.0 runs.0 in
      none_long start bs vs (grown m start ops (batch_of b u)) all runs.1 i ws there block v (subst (λ us. RunsTo m start (grown m start ops us) (take i bs) ws there) same before.1) at s

  -- ---- each value is an account

  unread : (op : AnyOp) → IsReadable m.values op → IsUnreadable m.values op → ⊥
  unread op r u =
      let here : IsReadable m.values (Update u.key u.value) = subst (IsReadable m.values) u.is r in
      absurd (true≢false (sym here ∙ ap is_some u.unreadable))

  -- ---- the whole call

  -- a fault over valid input is want of memory
  pub only_memory : {IsSound : A → Type 0} (laws : ValueLaws m.same IsSound m.rules m.values) (log : LogView AnyOp) (target : Target) (blocks : List (Block T)) (o : Origin AnyOp) (now : List (Option Target)) (wire : Option Wire) (risen : ℕ) (fault : Fault) → AllByRecursion (IsWritten m) (range_in log target) → IsValid m log target blocks → (Rose o.count risen → ⊥)
      → FollowsLog m log target blocks (Err fault) → FollowFails m o now wire risen blocks fault → fault ≡ faults.OutOfMemory
  only_memory laws log target blocks o now wire risen faults.Network h valid still served fails = absurd (still (let lt = fails.stopped.0 in omega arith))
  only_memory laws log target blocks o now wire risen faults.RequestChannelClosed h valid still served fails = absurd served
  only_memory laws log target blocks o now wire risen faults.InvalidResponse h valid still served fails = absurd served
  only_memory laws log target blocks o now wire risen (faults.UnexpectedResponse number) h valid still served fails = absurd served
  only_memory laws log target blocks o now wire risen (faults.Server code text) h valid still served fails = absurd served
  only_memory laws log target blocks o now wire risen (faults.InvalidProof number) h valid still served fails = absurd served
  only_memory laws log target blocks o now wire risen faults.TooManyStrays h valid still served fails = absurd served
  only_memory laws log target blocks o now wire risen (faults.StaleUpdate start end) h valid still served fails = absurd served
  only_memory laws log target blocks o now wire risen (faults.WrongRoot found) h valid still served fails = absurd served
  only_memory laws log target blocks o now wire risen (faults.BadLog location) h valid still served fails = absurd (served.1 valid.whole)
  only_memory laws log target blocks o now wire risen (faults.BadValue location) h valid still served fails =
      let bad = served.1 in
      absurd (unread bad.op (All-at (IsReadable m.values) (range_in log target) bad.place bad.op bad.at valid.readable) bad.unreadable)
  only_memory laws log target blocks o now wire risen (faults.Rejected block rejection) h valid still served fails =
      let f = served.2 in
      absurd (never_rejected m laws target.start blocks valid.verdicts (range_in log target) valid.all h valid.runs block f.before.verdicts f.before.all f.batch rejection f.before.runs f.at f.offence)
  only_memory laws log target blocks o now wire risen (faults.Full block) h valid still served fails =
      let f = served.2 in
      let k = none_long target.start blocks valid.verdicts (range_in log target) valid.all valid.runs block f.before.verdicts f.before.all f.block f.verdict f.before.runs f.at f.settles in
      absurd (let l = f.long in let r = valid.room in omega arith)
  only_memory laws log target blocks o now wire risen faults.OutOfMemory h valid still served fails = refl
