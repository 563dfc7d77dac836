-- The log of four accounts, served over a link in memory.
use Rattle.std.proofs.Common.{◌≡◌, ℕ, zero, suc, ◌+◌, ◌-◌, ◌<◌, ◌≤◌, ◌^◌, Bool, false, List, [], ◌∷◌, length, map, All, Option, Some, None, Result, Ok, Err, refl, sym, ap, subst, ◌∙◌, arith, lit≤}
use Rattle.std.specs.Prelude.{get_or, replicate, IsOkUnless, IsSome, min}
use Rattle.std.proofs.lemmas.List.Elements.{All-cons, All-nil}
use Rattle.ledger_codec.specs.Causes.{Rose}
use Rattle.ledger_log.specs.Any.{any_floor, any_spelling, IsSoundAny}
use Rattle.ledger_log.specs.Spelling.{Is32Bytes}
use Rattle.ledger_log.specs.Spellings.{any_at}
use Rattle.ledger_log.specs.View.{LogView, log_size, log_floor}
use Rattle.ledger_log.specs.declared.any.AnyOp.{AnyOp}
use Rattle.ledger_log.specs.declared.any.AnyOp.TheVariants.{CommitFloor}
use Rattle.ledger_log.specs.declared.target.Target.{Target}
use Rattle.ledger_managed.specs.Spelled.{sequenced_value, read_sequenced, sequenced_values}
use Rattle.ledger_managed.specs.SpelledProofs.{sequenced_same, sequenced_value_laws}
use Rattle.ledger_program.proofs.Links.{range_whole}
use Rattle.ledger_program.proofs.Locals.{spans_log}
use Rattle.ledger_program.specs.Follow.{IsValid, IsSteady, range_in}
use Rattle.ledger_program.specs.Run.{SpansLog}
use Rattle.ledger_program.specs.declared.fault.Fault.{Fault}
use Rattle.ledger_program.specs.declared.fault.Fault.TheVariants as faults
use Rattle.ledger_settling.specs.Blocks.{Meaning, meaning, IsReadable}
use Rattle.ledger_settling.specs.Reports.{IsWhole}
use Rattle.ledger_transfers.specs.Rules.{Rules, SameOutcome}
use Rattle.ledger_transfers.specs.declared.change.Change.{Change}
use Rattle.ledger_transfers.specs.declared.sequenced.Sequenced.{Sequenced}
use Rattle.sync_client.specs.Owing.{Begins, OwesNothing}
use Rattle.sync_client.specs.Counts.{NeverNetwork}
use Rattle.sync_client.specs.declared.fault.SyncFault.{SyncFault}
use Rattle.sync_client.specs.declared.fault.SyncFault.TheVariants as sync
use Rattle.sync_fetch.specs.Served.{IsToldOf, IsTargetOf, FetchesTarget}
use Rattle.sync_fetch.specs.Told.{TargetFetched}
use Rattle.sync_net.specs.Core.{LogData, data_of}
use Rattle.sync_net.specs.Wire.{Wire}
use Rattle.sync_net.specs.Service.{Service}
use Rattle.sync_net.specs.View.{MachineView}
use Rattle.follow_promises.specs.Four.{update_of, four, four_log}

-- ---- the operations

-- a byte, repeated, is a key
repeated : (n b i : ℕ) → b < 256 → get_or (replicate n b) i 0 < 256
repeated zero b i lt = lit≤ tt
repeated (suc n) b zero lt = lt
repeated (suc n) b (suc i) lt = repeated n b i lt

key_bytes : (b : ℕ) → b < 256 → Is32Bytes (replicate 32 b)
key_bytes b lt = (refl, λ i. repeated 32 b i lt)

pub commit_sound : IsSoundAny (CommitFloor None 0)
commit_sound = (tt, lit≤ tt)

pub update_sound : (key balance nonce : ℕ) → key < 256 → IsSoundAny (update_of key balance nonce)
unfolding update_of
update_sound key balance nonce lt = (key_bytes key lt, sequenced_value_laws.is_value (record { balance = balance; nonce = nonce }))

all_four : (P : AnyOp → Type 0) → P (CommitFloor None 0) → P (update_of 1 10 1) → P (update_of 2 20 2) → P (update_of 3 30 3) → P (update_of 4 40 4) → All P four
unfolding four
all_four P c one two three four_is =
    let f : List AnyOp = CommitFloor None 0 ∷ [] in
    let e : List AnyOp = update_of 4 40 4 ∷ f in
    let d : List AnyOp = update_of 3 30 3 ∷ e in
    let b : List AnyOp = update_of 2 20 2 ∷ d in
    let a : List AnyOp = update_of 1 10 1 ∷ b in
    All-cons P (CommitFloor None 0) a c (All-cons P (update_of 1 10 1) b one (All-cons P (update_of 2 20 2) d two (All-cons P (update_of 3 30 3) e three (All-cons P (update_of 4 40 4) f four_is (All-cons P (CommitFloor None 0) [] c (All-nil P))))))

pub four_sound : All IsSoundAny four
four_sound = all_four IsSoundAny commit_sound (update_sound 1 10 1 (lit≤ tt)) (update_sound 2 20 2 (lit≤ tt)) (update_sound 3 30 3 (lit≤ tt)) (update_sound 4 40 4 (lit≤ tt))

pub four_short : log_size four_log ≤ 2 ^ 62
unfolding four
four_short = lit≤ tt

four_floor : log_floor any_floor four_log < log_size four_log
unfolding four
four_floor = lit≤ tt

four_begins : log_floor any_floor four_log ≡ 0
unfolding four
four_begins = refl

-- ---- following it

some_read : {A : Type 0} (same : A → A → Bool) (a : A) (o : Option A) → SameOutcome same (Some a) o → IsSome o
some_read same a (Some b) h = refl
some_read same a None h = absurd h

pub update_readable : (key balance nonce : ℕ) → balance < 2 ^ 64 → nonce < 2 ^ 64 → IsReadable sequenced_values (update_of key balance nonce)
unfolding update_of
update_readable key balance nonce b n = some_read sequenced_same (record { balance = balance; nonce = nonce }) (read_sequenced (sequenced_value (record { balance = balance; nonce = nonce }))) (sequenced_value_laws.reads_back (record { balance = balance; nonce = nonce }) (b, n))

pub four_readable : All (IsReadable sequenced_values) four
four_readable = all_four (IsReadable sequenced_values) tt (update_readable 1 10 1 (lit≤ tt) (lit≤ tt)) (update_readable 2 20 2 (lit≤ tt) (lit≤ tt)) (update_readable 3 30 3 (lit≤ tt) (lit≤ tt)) (update_readable 4 40 4 (lit≤ tt) (lit≤ tt))

pub four_whole : IsWhole 0 four
unfolding four
four_whole = record { floor = 0; commits = refl; least = lit≤ tt; most = lit≤ tt }

pub four_valid : {T E : Type 0} (changes_of : T → List (List ℕ × Change E)) (same : Sequenced → Sequenced → Bool) (rules : Rules Sequenced E) (target : Target) → SpansLog target four_log → IsValid (meaning changes_of same rules sequenced_values) four_log target []
four_valid changes_of same rules target is =
    let start : target.start ≡ 0 = is.start in
    let range : range_in four_log target ≡ four = range_whole four target is in
    let m : Meaning _ Sequenced _ = meaning changes_of same rules sequenced_values in
    record {
      whole = subst (λ (ops : List AnyOp). IsWhole target.start ops) (sym range) (subst (λ (n : ℕ). IsWhole n four) (sym start) four_whole);
      readable = subst (All (IsReadable sequenced_values)) (sym range) four_readable;
      verdicts = [];
      all = four;
      runs = sym range;
      room = subst (λ (n : ℕ). n + length four ≤ 2 ^ 62) (sym start) four_short;
    }

stays : {X : Type 0} (result : Result X Fault) (before now : ℕ) → IsSteady result before now → now ≡ before
stays (Ok x) before now h = h
stays (Err faults.Network) before now h = absurd h
stays (Err faults.RequestChannelClosed) before now h = h
stays (Err faults.InvalidResponse) before now h = h
stays (Err (faults.UnexpectedResponse number)) before now h = h
stays (Err (faults.Server code text)) before now h = h
stays (Err (faults.InvalidProof number)) before now h = h
stays (Err faults.TooManyStrays) before now h = h
stays (Err (faults.StaleUpdate start end)) before now h = h
stays (Err (faults.WrongRoot found)) before now h = h
stays (Err (faults.BadLog location)) before now h = h
stays (Err (faults.BadValue location)) before now h = h
stays (Err (faults.Rejected block rejection)) before now h = h
stays (Err (faults.Full block)) before now h = h
stays (Err faults.OutOfMemory) before now h = h

-- no call failed
pub never_rose : {X : Type 0} (result : Result X Fault) (before now : ℕ) → before ≡ 0 → IsSteady result before now → Rose before now → ⊥
never_rose result before now none h r = let e = stays result before now h in let k : min (before + 1) (2 ^ 64 - 1) ≤ now = r in omega (arith, none, e, k)

-- ---- its target

pub told_is : (l : LogView AnyOp) → l ≡ four_log → (data_of any_spelling any_floor l).log ≡ record { front = four_log.front; pinned = four_log.pinned; ops = map any_spelling four_log.ops }
told_is l e = ap (λ (x : LogView AnyOp). (data_of any_spelling any_floor x).log) e

pub told_floor : (l : LogView AnyOp) → l ≡ four_log → (data_of any_spelling any_floor l).floor < log_size four_log
told_floor l e = subst (λ (x : LogView AnyOp). (data_of any_spelling any_floor x).floor < log_size four_log) (sym e) four_floor

abbrev pub told_four : (l : LogView AnyOp) → l ≡ four_log → IsToldOf any_spelling (data_of any_spelling any_floor l)
told_four l e = record { log = four_log; is = told_is l e; most = four_short; floor = told_floor l e }

pub begins_new : (l : LogView AnyOp) (m : MachineView) (now : Option Service) → m ≡ record { next = Some 1; pending = []; held = []; closed = false } → OwesNothing (data_of any_spelling any_floor l) now → Begins (data_of any_spelling any_floor l) m now
begins_new l m now e told = subst (λ (x : MachineView). Begins (data_of any_spelling any_floor l) x now) (sym e) (record { live = refl; empty = refl; small = λ n h. (let one : 1 ≡ n = cc h in omega arith); told = told })

pub spans_four : (target : Target) → IsTargetOf any_spelling (data_of any_spelling any_floor four_log) four_log target → SpansLog target four_log
spans_four target is = spans_log target four_log refl refl is.root (is.start ∙ four_begins) is.end

-- a new machine's fetch over a link whose calls don't fail gives the target, or memory was wanting
pub fetch_may : (held : LogData) (log : LogView AnyOp) (m n : MachineView) (now : Option Service) (result : Result Target SyncFault) (before told : Option Wire) (count risen : ℕ) → m ≡ record { next = Some 1; pending = []; held = []; closed = false }
    → FetchesTarget any_spelling held log result n now → NeverNetwork result count risen → TargetFetched result any_at any_spelling m n before told count risen → IsOkUnless result sync.OutOfMemory
fetch_may held log m n now (Ok target) before told count risen e f s t = tt
fetch_may held log m n now (Err sync.OutOfMemory) before told count risen e f s t = refl
fetch_may held log m n now (Err sync.Network) before told count risen e f s t = absurd s
fetch_may held log m n now (Err sync.Exhausted) before told count risen e f s t = absurd (let x : None ≡ Some 1 = sym t.1 ∙ ap (λ (v : MachineView). v.next) e in cc)
fetch_may held log m n now (Err sync.RequestChannelClosed) before told count risen e f s t = absurd f
fetch_may held log m n now (Err sync.InvalidResponse) before told count risen e f s t = absurd f
fetch_may held log m n now (Err (sync.UnexpectedResponse number)) before told count risen e f s t = absurd f
fetch_may held log m n now (Err (sync.Server code text)) before told count risen e f s t = absurd f
fetch_may held log m n now (Err (sync.InvalidProof number)) before told count risen e f s t = absurd f
fetch_may held log m n now (Err sync.TooManyStrays) before told count risen e f s t = absurd f
fetch_may held log m n now (Err (sync.StaleUpdate start end)) before told count risen e f s t = absurd f
fetch_may held log m n now (Err (sync.WrongRoot found)) before told count risen e f s t = absurd f
fetch_may held log m n now (Err sync.Closed) before told count risen e f s t = absurd f

pub fetch_spans : (l : LogView AnyOp) (e : l ≡ four_log) (m : MachineView) (now : Option Service) (target : Target) → FetchesTarget any_spelling (data_of any_spelling any_floor l) (told_four l e).log (Ok target) m now → SpansLog target four_log
fetch_spans l e m now target f = spans_four target (subst (λ (x : LogView AnyOp). IsTargetOf any_spelling (data_of any_spelling any_floor x) four_log target) e f.0)
