-- Blocks over one list of operations run in one way, and have one cause to have no report.
use Rattle.std.proofs.Common.{◌≡◌, ℕ, zero, suc, ◌+◌, ◌^◌, ◌<◌, ◌≤◌, Bool, List, [], ◌∷◌, ◌++◌, length, take, drop, map, Some, refl, sym, ap, subst, ◌∙◌, arith, true≢false, inl, inr}
use Rattle.std.specs.Prelude.{All, slice_get, is_some, unwrap_or, get_or}
use Rattle.std.specs.List.{AllByRecursion}
use Rattle.std.proofs.lemmas.Bool.{cases_lt}
use Rattle.std.proofs.lemmas.List.{length-append, take_at, drop_at}
use Rattle.ledger_job.specs.declared.block.Block.{Block}
use Rattle.ledger_job.specs.declared.block.Block.TheVariants.{Body, Rounds}
use Rattle.ledger_job.specs.declared.block.BlockVerdicts.{BlockVerdicts}
use Rattle.ledger_job.specs.declared.block.BlockVerdicts.TheVariants.{Body as NoVerdicts, Rounds as Verdicts}
use Rattle.ledger_log.specs.declared.any.AnyOp.{AnyOp}
use Rattle.ledger_log.specs.declared.any.AnyOp.TheVariants.{Update}
use Rattle.ledger_log.specs.declared.target.Target.{Target}
use Rattle.ledger_managed.specs.Values.{ValueLaws}
use Rattle.ledger_settling.proofs.CauseLemmas.{IsWritten, greedy_once, one_batch, never_rejected}
use Rattle.ledger_settling.proofs.RunLemmas.{RunsTo-push}
use Rattle.ledger_settling.specs.Blocks.{Meaning, IsReadable, IsSettled, Settles, RunsTo, IsRejected, IsFull, batch_of, grown, appended, joined}
use Rattle.ledger_settling.specs.Faults.{RunFails, IsUnreadable, IsBadValue}
use Rattle.ledger_settling.specs.Reports.{IsWhole}
use Rattle.ledger_settling.specs.declared.fault.ReportFault.{ReportFault}
use Rattle.ledger_settling.specs.declared.fault.ReportFault.TheVariants.{BadLog, BadValue, Rejected, Full, OutOfMemory}
use Rattle.ledger_transfers.specs.Touches.{touches}
use Rattle.ledger_transfers.specs.declared.fault.Rejection.{Rejection}
use Rattle.ledger_transfers.specs.declared.fault.Rejection.TheVariants.{Refused}
use Rattle.ledger_program.specs.Faults.{fault_of}
use Rattle.ledger_program.specs.declared.fault.Fault.TheVariants as faults
use Rattle.sync_client.proofs.Insides.{All-at}
use Rattle.follow_laws.specs.Alike.{IsFree, AreOne}

some_is : {X : Type 0} (x y : X) → Some x ≡ Some y → x ≡ y
some_is x y h = ap (λ o. unwrap_or o x) h

-- ---- fronts of lists

take_less : {X : Type 0} (xs : List X) (i j : ℕ) → i ≤ j → take i (take j xs) ≡ take i xs
take_less xs zero j le = refl
take_less xs (suc i) zero le = absurd (omega arith)
take_less [] (suc i) (suc j) le = refl
take_less (x ∷ xs) (suc i) (suc j) le = ap (λ ys. x ∷ ys) (take_less xs i j (omega arith))

get_less : {X : Type 0} (xs : List X) (i j : ℕ) → i < j → slice_get (take j xs) i ≡ slice_get xs i
get_less xs i zero lt = absurd (omega arith)
get_less [] i (suc j) lt = refl
get_less (x ∷ xs) zero (suc j) lt = refl
get_less (x ∷ xs) (suc i) (suc j) lt = get_less xs i j (omega arith)

take_next : {X : Type 0} (xs : List X) (i : ℕ) (x : X) → slice_get xs i ≡ Some x → take (suc i) xs ≡ take i xs ++ x ∷ []
take_next [] i x at = absurd (true≢false (sym (ap is_some at)))
take_next (y ∷ ys) zero x at = ap (λ z. z ∷ []) (some_is y x at)
take_next (y ∷ ys) (suc i) x at = ap (λ zs. y ∷ zs) (take_next ys i x at)

-- ---- verdicts

one_cut : (vs ws : List (List Bool)) → joined vs ≡ joined ws → map length vs ≡ map length ws → vs ≡ ws
one_cut [] [] e l = refl
one_cut [] (w ∷ ws) e l = absurd (let n : 0 ≡ suc (length (map length ws)) = ap length l in omega arith)
one_cut (v ∷ vs) [] e l = absurd (let n : suc (length (map length vs)) ≡ 0 = ap length l in omega arith)
one_cut (v ∷ vs) (w ∷ ws) e l =
    let first : length v ≡ length w = ap (λ (ns : List ℕ). get_or ns 0 0) l in
    let others : map length vs ≡ map length ws = ap (drop 1) l in
    let same : v ≡ w = sym (take_at v (joined vs) (length v) refl) ∙ (ap (take (length v)) e ∙ take_at w (joined ws) (length v) (sym first)) in
    let rest : joined vs ≡ joined ws = sym (drop_at v (joined vs) (length v) refl) ∙ (ap (drop (length v)) e ∙ drop_at w (joined ws) (length v) (sym first)) in
    ap (λ x. x ∷ vs) same ∙ ap (λ xs. w ∷ xs) (one_cut vs ws rest others)

module _ {T A E : Type 0} (m : Meaning T A E) where
  one_verdict : (ops : List AnyOp) (b : Block T) (v w : BlockVerdicts) → Settles m ops b v → Settles m ops b w → v ≡ w
  one_verdict ops (Body batch) NoVerdicts NoVerdicts s t = refl
  one_verdict ops (Body batch) NoVerdicts (Verdicts ws) s t = absurd t
  one_verdict ops (Body batch) (Verdicts vs) w s t = absurd s
  one_verdict ops (Rounds rounds) NoVerdicts w s t = absurd s
  one_verdict ops (Rounds rounds) (Verdicts vs) NoVerdicts s t = absurd t
  one_verdict ops (Rounds rounds) (Verdicts vs) (Verdicts ws) s t =
      ap Verdicts (one_cut vs ws (greedy_once (IsSettled m ops) [] (joined rounds) (joined vs) (joined ws) s.0 t.0) (s.1 ∙ sym t.1))

  -- blocks run in one way
  pub one_run : (start : ℕ) (bs : List (Block T)) (vs ws : List BlockVerdicts) (ops all other : List AnyOp) → RunsTo m start ops bs vs all → RunsTo m start ops bs ws other → (vs ≡ ws) × (all ≡ other)
  one_run start [] [] [] ops all other h k = (refl, h ∙ sym k)
  one_run start [] [] (w ∷ ws) ops all other h k = absurd k
  one_run start [] (v ∷ vs) ws ops all other h k = absurd h
  one_run start (b ∷ bs) [] ws ops all other h k = absurd h
  one_run start (b ∷ bs) (v ∷ vs) [] ops all other h k = absurd k
  one_run start (b ∷ bs) (v ∷ vs) (w ∷ ws) ops all other h k =
      let same : v ≡ w = one_verdict ops b v w h.0 k.0 in
      let r = one_run start bs vs ws (grown m start ops (batch_of b v)) all other h.1 (subst (λ (u : BlockVerdicts). RunsTo m start (grown m start ops (batch_of b u)) bs ws other) (sym same) k.1) in
      (ap (λ x. x ∷ vs) same ∙ ap (λ xs. w ∷ xs) r.0, r.1)

  grows : (start : ℕ) (ops : List AnyOp) (batch : List T) → length ops ≤ length (grown m start ops batch)
  grows start ops batch = let e = length-append ops (appended m.same m.rules m.values start ops (touches m.changes_of batch)) in omega arith

  runs_on : (start : ℕ) (bs : List (Block T)) (vs : List BlockVerdicts) (ops all : List AnyOp) → RunsTo m start ops bs vs all → length ops ≤ length all
  runs_on start [] [] ops all e = let n = ap length e in omega arith
  runs_on start [] (v ∷ vs) ops all e = absurd e
  runs_on start (b ∷ bs) [] ops all e = absurd e
  runs_on start (b ∷ bs) (v ∷ vs) ops all e = let n = grows start ops (batch_of b v) in let k = runs_on start bs vs (grown m start ops (batch_of b v)) all e.1 in omega arith

  -- a block's operations are among those to which all blocks grow
  none_long : (start : ℕ) (bs : List (Block T)) (vs : List BlockVerdicts) (ops all : List AnyOp) → RunsTo m start ops bs vs all
      → (i : ℕ) (ws : List BlockVerdicts) (there : List AnyOp) (block : Block T) (v : BlockVerdicts) → RunsTo m start ops (take i bs) ws there → slice_get bs i ≡ Some block → Settles m there block v → length (grown m start there (batch_of block v)) ≤ length all
  none_long start [] vs ops all runs i ws there block v before at s = absurd (true≢false (sym (ap is_some at)))
  none_long start (b ∷ bs) [] ops all runs i ws there block v before at s = absurd runs
  none_long start (b ∷ bs) (u ∷ vs) ops all runs zero [] there block v before at s =
      let is : b ≡ block = some_is b block at in
      let here : Settles m ops b v = subst (λ c. Settles m ops c v) (sym is) (subst (λ us. Settles m us block v) before s) in
      let same : batch_of b v ≡ batch_of b u = one_batch m ops b v u here runs.0 in
      let k = runs_on start bs vs (grown m start ops (batch_of b u)) all runs.1 in
      let e : length (grown m start there (batch_of block v)) ≡ length (grown m start ops (batch_of b u)) =
      ap (λ us. length (grown m start us (batch_of block v))) before ∙ (ap (λ c. length (grown m start ops (batch_of c v))) (sym is) ∙ ap (λ us. length (grown m start ops us)) same) in
      omega arith
  none_long start (b ∷ bs) (u ∷ vs) ops all runs zero (w ∷ ws) there block v before at s = absurd before
  none_long start (b ∷ bs) (u ∷ vs) ops all runs (suc i) [] there block v before at s = absurd before
  none_long start (b ∷ bs) (u ∷ vs) ops all runs (suc i) (w ∷ ws) there block v before at s =
      let same = one_batch m ops b w u before.0 runs.0 in
      none_long start bs vs (grown m start ops (batch_of b u)) all runs.1 i ws there block v (subst (λ us. RunsTo m start (grown m start ops us) (take i bs) ws there) same before.1) at s

  -- ---- values that are no accounts

  unread : (op : AnyOp) → IsReadable m.values op → IsUnreadable m.values op → ⊥
  unread op r u =
      let here : IsReadable m.values (Update u.key u.value) = subst (IsReadable m.values) u.is r in
      absurd (true≢false (sym here ∙ ap is_some u.unreadable))

  all_read : (start : ℕ) (ops : List AnyOp) (location : ℕ) → All (IsReadable m.values) ops → IsBadValue m.values start ops location → ⊥
  all_read start ops location h bad = unread bad.op (All-at (IsReadable m.values) ops bad.place bad.op bad.at h) bad.unreadable

  read_before : (start : ℕ) (ops : List AnyOp) (one other : ℕ) (a : IsBadValue m.values start ops one) (b : IsBadValue m.values start ops other) → a.place < b.place → ⊥
  read_before start ops one other a b lt =
      unread a.op (All-at (IsReadable m.values) (take b.place ops) a.place a.op (get_less ops a.place b.place lt ∙ a.at) b.before) a.unreadable

  one_place : (start : ℕ) (ops : List AnyOp) (one other : ℕ) → IsBadValue m.values start ops one → IsBadValue m.values start ops other → one ≡ other
  one_place start ops one other a b = elim (cases_lt a.place b.place) [
    | inl lt ↦ absurd (read_before start ops one other a b lt)
    | inr ge ↦ elim (cases_lt b.place a.place) [
      | inl lt ↦ absurd (read_before start ops other one b a lt)
      | inr le ↦ let x = a.location_is in let y = b.location_is in omega arith
    ]
  ]

  module _ {IsSound : A → Type 0} (laws : ValueLaws m.same IsSound m.rules m.values) (target : Target) (kept : List AnyOp) (blocks : List (Block T)) (written : AllByRecursion (IsWritten m) kept) where
    abbrev start : ℕ
    start = target.start

    -- ---- blocks before which others ran

    unrejected : (i j : ℕ) (r : Rejection (List ℕ)) (vs : List BlockVerdicts) (all : List AnyOp) → i < j → IsRejected m start kept blocks i r → RunsTo m start kept (take j blocks) vs all → ⊥
    unrejected i j r vs all lt h runs =
        never_rejected m laws start (take j blocks) vs kept all written runs i h.before.verdicts h.before.all h.batch r
        (subst (λ (bs : List (Block T)). RunsTo m start kept bs h.before.verdicts h.before.all) (sym (take_less blocks i j (omega arith))) h.before.runs) (get_less blocks i j lt ∙ h.at) h.offence

    unfilled : (i j : ℕ) (vs : List BlockVerdicts) (all : List AnyOp) → i < j → IsFull m start kept blocks i → RunsTo m start kept (take j blocks) vs all → start + length all ≤ 2 ^ 62 → ⊥
    unfilled i j vs all lt h runs short =
        let k = none_long start (take j blocks) vs kept all runs i h.before.verdicts h.before.all h.block h.verdict
        (subst (λ (bs : List (Block T)). RunsTo m start kept bs h.before.verdicts h.before.all) (sym (take_less blocks i j (omega arith))) h.before.runs) (get_less blocks i j lt ∙ h.at) h.settles in
        let l = h.long in
        omega arith

    full_runs : (j : ℕ) (h : IsFull m start kept blocks j) → RunsTo m start kept (take (suc j) blocks) (h.before.verdicts ++ h.verdict ∷ []) (grown m start h.before.all (batch_of h.block h.verdict))
    full_runs j h =
        subst (λ (bs : List (Block T)). RunsTo m start kept bs (h.before.verdicts ++ h.verdict ∷ []) (grown m start h.before.all (batch_of h.block h.verdict))) (sym (take_next blocks j h.block h.at))
        (RunsTo-push m start (take j blocks) h.before.verdicts kept h.before.all h.block h.verdict h.before.runs h.settles)

    one_rejected : (i j : ℕ) (r s : Rejection (List ℕ)) → IsRejected m start kept blocks i r → IsRejected m start kept blocks j s → i ≡ j
    one_rejected i j r s h k = elim (cases_lt i j) [
      | inl lt ↦ absurd (unrejected i j r k.before.verdicts k.before.all lt h k.before.runs)
      | inr ge ↦ elim (cases_lt j i) [
        | inl lt ↦ absurd (unrejected j i s h.before.verdicts h.before.all lt k h.before.runs)
        | inr le ↦ omega arith
      ]
    ]

    one_full : (i j : ℕ) → IsFull m start kept blocks i → IsFull m start kept blocks j → i ≡ j
    one_full i j h k = elim (cases_lt i j) [
      | inl lt ↦ absurd (unfilled i j k.before.verdicts k.before.all lt h k.before.runs k.before.short)
      | inr ge ↦ elim (cases_lt j i) [
        | inl lt ↦ absurd (unfilled j i h.before.verdicts h.before.all lt k h.before.runs h.before.short)
        | inr le ↦ omega arith
      ]
    ]

    not_either : (i j : ℕ) (r : Rejection (List ℕ)) → IsRejected m start kept blocks i r → IsFull m start kept blocks j → ⊥
    not_either i j r h k = elim (cases_lt i (suc j)) [
      | inl lt ↦ unrejected i (suc j) r (k.before.verdicts ++ k.verdict ∷ []) (grown m start k.before.all (batch_of k.block k.verdict)) lt h (full_runs j k)
      | inr ge ↦ unfilled j i h.before.verdicts h.before.all (omega arith) k h.before.runs h.before.short
    ]

    -- ---- one cause

    pub one_cause : (c d : ReportFault) → RunFails m target kept blocks c → RunFails m target kept blocks d → AreOne (fault_of c) (fault_of d)
    one_cause OutOfMemory d h k = inl tt
    one_cause (BadLog a) OutOfMemory h k = inr (inl tt)
    one_cause (BadLog a) (BadLog b) h k = let x = h.0 in let y = k.0 in let e : a ≡ b = omega arith in inr (inr (ap faults.BadLog e))
    one_cause (BadLog a) (BadValue b) h k = absurd (h.1 k.0)
    one_cause (BadLog a) (Rejected b r) h k = absurd (h.1 k.0)
    one_cause (BadLog a) (Full b) h k = absurd (h.1 k.0)
    one_cause (BadValue a) OutOfMemory h k = inr (inl tt)
    one_cause (BadValue a) (BadLog b) h k = absurd (k.1 h.0)
    one_cause (BadValue a) (BadValue b) h k = inr (inr (ap faults.BadValue (one_place start kept a b h.1 k.1)))
    one_cause (BadValue a) (Rejected b r) h k = absurd (all_read start kept a k.1 h.1)
    one_cause (BadValue a) (Full b) h k = absurd (all_read start kept a k.1 h.1)
    one_cause (Rejected a r) OutOfMemory h k = inr (inl tt)
    one_cause (Rejected a r) (BadLog b) h k = absurd (k.1 h.0)
    one_cause (Rejected a r) (BadValue b) h k = absurd (all_read start kept b h.1 k.1)
    one_cause (Rejected a r) (Rejected b s) h k = inr (inr (ap (λ (n : ℕ). faults.Rejected n (Refused [])) (one_rejected a b r s h.2 k.2)))
    one_cause (Rejected a r) (Full b) h k = absurd (not_either a b r h.2 k.2)
    one_cause (Full a) OutOfMemory h k = inr (inl tt)
    one_cause (Full a) (BadLog b) h k = absurd (k.1 h.0)
    one_cause (Full a) (BadValue b) h k = absurd (all_read start kept b h.1 k.1)
    one_cause (Full a) (Rejected b r) h k = absurd (not_either b a r k.2 h.2)
    one_cause (Full a) (Full b) h k = inr (inr (ap faults.Full (one_full a b h.2 k.2)))

    -- blocks that ran have no cause but want of memory
    pub no_cause : (c : ReportFault) (vs : List BlockVerdicts) (all : List AnyOp) → (IsWhole target.start kept) → All (IsReadable m.values) kept → RunsTo m start kept blocks vs all → start + length all ≤ 2 ^ 62 → RunFails m target kept blocks c → IsFree (fault_of c)
    no_cause OutOfMemory vs all whole read runs short h = tt
    no_cause (BadLog a) vs all whole read runs short h = absurd (h.1 whole)
    no_cause (BadValue a) vs all whole read runs short h = absurd (all_read start kept a read h.1)
    no_cause (Rejected i r) vs all whole read runs short h =
        let f = h.2 in
        absurd (never_rejected m laws start blocks vs kept all written runs i f.before.verdicts f.before.all f.batch r f.before.runs f.at f.offence)
    no_cause (Full i) vs all whole read runs short h =
        let f = h.2 in
        let k = none_long start blocks vs kept all runs i f.before.verdicts f.before.all f.block f.verdict f.before.runs f.at f.settles in
        let l = f.long in
        absurd (omega arith)
