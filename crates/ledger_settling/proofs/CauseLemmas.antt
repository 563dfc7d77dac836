-- That a run which has a report has no cause for a fault.
use Rattle.std.proofs.Common.{◌≡◌, ℕ, zero, suc, ◌+◌, ◌*◌, ◌^◌, ◌<◌, ◌≤◌, ◌⊎◌, inl, inr, Bool, true, false, cond, not, List, [], ◌∷◌, ◌++◌, length, map, filter, take, slice_get, Option, None, Some, refl, sym, ap, subst, bytes_eq, arith, length-append, true≢false}
use Rattle.std.specs.Prelude.{MatchBool, is_some, option_and_then, unwrap_or, ⊤}
use Rattle.std.specs.List.{AllByRecursion, list_any, filter_map, cons_option, last_or, flat_map}
use Rattle.std.specs.Cmp.Lexicographic.{nat_list_eq_equiv, bytes_decides}
use Rattle.std.proofs.lemmas.List.{length-map}
use Rattle.ledger_log.specs.Any.{any_write}
use Rattle.ledger_log.specs.View.{written_at, value_or_none, value_at}
use Rattle.ledger_log.specs.declared.any.AnyOp.{AnyOp}
use Rattle.ledger_log.specs.declared.any.AnyOp.TheVariants.{Update, Delete, CommitFloor}
use Rattle.ledger_managed.specs.Values.{ValueLaws}
use Rattle.ledger_log.specs.Spelling.{Is32Bytes}
use Rattle.ledger_job.specs.declared.block.Block.{Block}
use Rattle.ledger_job.specs.declared.block.Block.TheVariants.{Body, Rounds}
use Rattle.ledger_job.specs.declared.block.BlockVerdicts.{BlockVerdicts}
use Rattle.ledger_job.specs.declared.block.BlockVerdicts.TheVariants.{Body as NoVerdicts, Rounds as Verdicts}
use Rattle.ledger_transfers.specs.Greedy.{AreGreedy, taken}
use Rattle.ledger_transfers.specs.Touches.{touches, total_of, max_amount, IsSumOffence}
use Rattle.ledger_transfers.specs.Settling.{opened}
use Rattle.ledger_transfers.specs.declared.change.Change.{Change}
use Rattle.ledger_transfers.specs.declared.fault.Rejection.{Rejection}
use Rattle.ledger_transfers.specs.declared.fault.Rejection.TheVariants.{Refused, Insufficient, Overflow}
use Rattle.ledger_transfers.specs.declared.slot.Slot.{Slot}
use Rattle.ledger_transfers.specs.declared.slot.Slot.TheVariants.{Keep, Put, Delete as Remove}
use Rattle.ledger_transfers.specs.declared.totals.Totals.{Totals}
use Rattle.ledger_transfers.proofs.TotalLemmas.{total_by-none}
use Rattle.ledger_transfers.proofs.BatchLemmas.{no_offence, settles_key}
use Rattle.ledger_settling.specs.Blocks.{Meaning, firsts, joined, written, slot_at, changed, log_from, opening, IsSettled, IsOffence, grown, batch_of, Settles, RunsTo, IsFull}
use Rattle.ledger_settling.proofs.RaisedLemmas.{raised_all, appended_short}

module _ {T : Type 0} (P : List T → Type 0) where
  -- greedy has one list of verdicts
  pub greedy_once : (before cs : List T) (vs ws : List Bool) → AreGreedy P before cs vs → AreGreedy P before cs ws → vs ≡ ws
  greedy_once before [] [] [] h k = refl
  greedy_once before [] [] (w ∷ ws) h k = absurd k
  greedy_once before [] (v ∷ vs) ws h k = absurd h
  greedy_once before (c ∷ cs) [] ws h k = absurd h
  greedy_once before (c ∷ cs) (v ∷ vs) [] h k = absurd k
  greedy_once before (c ∷ cs) (v ∷ vs) (w ∷ ws) h k = by v w h.0 k.0 h.1 k.1 (λ b. greedy_once b cs vs ws)
    where
      by : (v w : Bool) → MatchBool v (P (before ++ c ∷ [])) (P (before ++ c ∷ []) → ⊥) → MatchBool w (P (before ++ c ∷ [])) (P (before ++ c ∷ []) → ⊥)
          → AreGreedy P (cond v (before ++ c ∷ []) before) cs vs → AreGreedy P (cond w (before ++ c ∷ []) before) cs ws → ((b : List T) → AreGreedy P b cs vs → AreGreedy P b cs ws → vs ≡ ws) → (v ∷ vs) ≡ (w ∷ ws)
      by true true p q r s rest = ap (λ us. true ∷ us) (rest (before ++ c ∷ []) r s)
      by true false p q r s rest = absurd (q p)
      by false true p q r s rest = absurd (p q)
      by false false p q r s rest = ap (λ us. false ∷ us) (rest before r s)

module _ {T A E : Type 0} (m : Meaning T A E) where
  -- a block settles one batch
  pub one_batch : (ops : List AnyOp) (b : Block T) (v w : BlockVerdicts) → Settles m ops b v → Settles m ops b w → batch_of b v ≡ batch_of b w
  one_batch ops (Body batch) v w s t = refl
  one_batch ops (Rounds rounds) NoVerdicts w s t = absurd s
  one_batch ops (Rounds rounds) (Verdicts vs) NoVerdicts s t = absurd t
  one_batch ops (Rounds rounds) (Verdicts vs) (Verdicts ws) s t = ap (taken (joined rounds)) (greedy_once (IsSettled m ops) [] (joined rounds) (joined vs) (joined ws) s.0 t.0)

  body_settled : (ops : List AnyOp) (batch : List T) (v : BlockVerdicts) → Settles m ops (Body batch) v → IsSettled m ops batch
  body_settled ops batch NoVerdicts s = s
  body_settled ops batch (Verdicts vs) s = absurd s

  opening_equal : (ops : List AnyOp) (k q : List ℕ) → bytes_eq k q ≡ true → opening m ops k ≡ opening m ops q
  opening_equal ops k q h = ap (opening m ops) ((bytes_decides k q).0 h)

  -- a sum that is above an amount isn't one of a settled batch
  no_sum_offence : (ops : List AnyOp) (batch : List T) (r : Rejection (List ℕ)) → ((k : List ℕ) → m.rules.balance_of (opening m ops k) ≤ max_amount) → IsSettled m ops batch
      → IsSumOffence bytes_eq (touches m.changes_of batch) r → ⊥
  no_sum_offence ops batch (Refused k) amounts s h = h
  no_sum_offence ops batch (Insufficient k) amounts s h = by (list_any (λ t. bytes_eq k t.0) (touches m.changes_of batch)) refl
    where
      by : (b : Bool) → list_any (λ t. bytes_eq k t.0) (touches m.changes_of batch) ≡ b → ⊥
      by true e =
          let there = settles_key bytes_eq nat_list_eq_equiv m.same m.rules (opening m ops) (opening_equal ops) (touches m.changes_of batch) k s e in
          omega (arith, h, there.funded, amounts k)
      by false e = omega (arith, h, ap (λ (t : Totals E). t.debits) (total_by-none (λ t. bytes_eq k t.0) (touches m.changes_of batch) e))
  no_sum_offence ops batch (Overflow k) amounts s h = by (list_any (λ t. bytes_eq k t.0) (touches m.changes_of batch)) refl
    where
      by : (b : Bool) → list_any (λ t. bytes_eq k t.0) (touches m.changes_of batch) ≡ b → ⊥
      by true e =
          let there = settles_key bytes_eq nat_list_eq_equiv m.same m.rules (opening m ops) (opening_equal ops) (touches m.changes_of batch) k s e in
          omega (arith, h, there.fits)
      by false e = omega (arith, h, ap (λ (t : Totals E). t.credits) (total_by-none (λ t. bytes_eq k t.0) (touches m.changes_of batch) e))

  -- a settled batch has no offence
  pub settled_or_offends : (ops : List AnyOp) (batch : List T) (r : Rejection (List ℕ)) → ((k : List ℕ) → m.rules.balance_of (opening m ops k) ≤ max_amount) → IsSettled m ops batch → IsOffence m ops batch r → ⊥
  settled_or_offends ops batch r amounts s (inl h) = no_sum_offence ops batch r amounts s h
  settled_or_offends ops batch r amounts s (inr (w, (k, t, first))) =
      no_offence m.rules (opening m ops k) (total_of bytes_eq (touches m.changes_of batch) k) k r
      (settles_key bytes_eq nat_list_eq_equiv m.same m.rules (opening m ops) (opening_equal ops) (touches m.changes_of batch) k s t) first

  -- an Update writes 32 bytes
  abbrev pub IsWritten : AnyOp → Type 0
  IsWritten (Update key value) = Is32Bytes value
  IsWritten (Delete key) = ⊤
  IsWritten (CommitFloor metadata floor) = ⊤

  -- there was such a value before, or it has 32 bytes
  abbrev Known : Option (Option (List ℕ)) → List ℕ → Type 0
  Known o v = (value_or_none o ≡ Some v) ⊎ Is32Bytes v

  after_update : (o : Option (Option (List ℕ))) (value v : List ℕ) → Is32Bytes value → Known (Some (Some value)) v → Known o v
  after_update o value v s (inl q) = let is : value ≡ v = ap (λ x. unwrap_or x v) q in inr (subst Is32Bytes is s)
  after_update o value v s (inr q) = inr q

  after_delete : (o : Option (Option (List ℕ))) (v : List ℕ) → Known (Some None) v → Known o v
  after_delete o v (inl q) = absurd (true≢false (sym (ap is_some q)))
  after_delete o v (inr q) = inr q

  written_or_not : (b : Bool) (o : Option (Option (List ℕ))) (w : Option (List ℕ)) (rest : List (Option (List ℕ))) (v : List ℕ) → value_or_none (last_or o (cons_option (cond b (Some w) None) rest)) ≡ Some v
      → ((p : Option (Option (List ℕ))) → value_or_none (last_or p rest) ≡ Some v → Known p v) → (Known (Some w) v → Known o v) → Known o v
  written_or_not true o w rest v e more back = back (more (Some w) e)
  written_or_not false o w rest v e more back = more o e

  value_written : (key : List ℕ) (o : Option (Option (List ℕ))) (ops : List AnyOp) (v : List ℕ) → AllByRecursion IsWritten ops → value_or_none (last_or o (filter_map (λ op. written_at key (any_write op)) ops)) ≡ Some v
      → Known o v
  value_written key o [] v h e = inl e
  value_written key o (Update k value ∷ ops) v h e =
      written_or_not (bytes_eq k key) o (Some value) (filter_map (λ op. written_at key (any_write op)) ops) v e (λ p. value_written key p ops v h.1) (after_update o value v h.0)
  value_written key o (Delete k ∷ ops) v h e =
      written_or_not (bytes_eq k key) o None (filter_map (λ op. written_at key (any_write op)) ops) v e (λ p. value_written key p ops v h.1) (after_delete o v)
  value_written key o (CommitFloor metadata floor ∷ ops) v h e = value_written key o ops v h.1 e

  module _ {IsSound : A → Type 0} (laws : ValueLaws m.same IsSound m.rules m.values) where
    slot_written : (key : List ℕ) (s : Slot A) (rest : List AnyOp) → AllByRecursion IsWritten rest → AllByRecursion IsWritten (cons_option (written m.values key s) rest)
    slot_written key Keep rest r = r
    slot_written key Remove rest r = (tt, r)
    slot_written key (Put a) rest r = (laws.is_value a, r)

    slots_written : (ops : List AnyOp) (ts : List (List ℕ × Change E)) (ks : List (List ℕ)) → AllByRecursion IsWritten (filter_map (λ key. written m.values key (slot_at m.same m.rules m.values ops ts key)) ks)
    slots_written ops ts [] = tt
    slots_written ops ts (k ∷ ks) = slot_written k (slot_at m.same m.rules m.values ops ts k) _ (slots_written ops ts ks)

    grown_written : (start : ℕ) (ops : List AnyOp) (batch : List T) → AllByRecursion IsWritten ops → AllByRecursion IsWritten (grown m start ops batch)
    grown_written start ops batch h =
        raised_all IsWritten (log_from start ops) (changed m.same m.rules m.values ops (touches m.changes_of batch)) h
        (slots_written ops (touches m.changes_of batch) (firsts bytes_eq (map (λ t. t.0) (touches m.changes_of batch)))) (λ floor. tt)

    amounts_of : (ops : List AnyOp) → AllByRecursion IsWritten ops → (k : List ℕ) → m.rules.balance_of (opening m ops k) ≤ max_amount
    amounts_of ops h k = by (value_at any_write k ops) refl
      where
        read_of : (v : List ℕ) → Is32Bytes v → (r : Option A) → m.values.read v ≡ r → m.rules.balance_of (opened m.rules r) ≤ max_amount
        read_of v s None e = laws.first_amount
        read_of v s (Some b) e = laws.amount v b s e

        found : (v : List ℕ) → Known None v → Is32Bytes v
        found v (inl q) = absurd (true≢false (sym (ap is_some q)))
        found v (inr q) = q

        by : (o : Option (List ℕ)) → value_at any_write k ops ≡ o → m.rules.balance_of (opened m.rules (option_and_then m.values.read o)) ≤ max_amount
        by None e = laws.first_amount
        by (Some v) e = read_of v (found v (value_written k None ops v h e)) (m.values.read v) refl

    some_is : {X : Type 0} (x y : X) → Some x ≡ Some y → x ≡ y
    some_is x y h = ap (λ o. unwrap_or o x) h

    -- where all blocks settle, none is rejected
    pub never_rejected : (start : ℕ) (bs : List (Block T)) (vs : List BlockVerdicts) (ops all : List AnyOp) → AllByRecursion IsWritten ops → RunsTo m start ops bs vs all
        → (i : ℕ) (ws : List BlockVerdicts) (there : List AnyOp) (batch : List T) (r : Rejection (List ℕ)) → RunsTo m start ops (take i bs) ws there → slice_get bs i ≡ Some (Body batch) → IsOffence m there batch r → ⊥
    never_rejected start [] vs ops all h runs i ws there batch r before at o = absurd (true≢false (sym (ap is_some at)))
    never_rejected start (b ∷ bs) [] ops all h runs i ws there batch r before at o = absurd runs
    never_rejected start (b ∷ bs) (v ∷ vs) ops all h runs zero [] there batch r before at o =
        let is : b ≡ Body batch = some_is b (Body batch) at in
        settled_or_offends ops batch r (amounts_of ops h) (body_settled ops batch v (subst (λ c. Settles m ops c v) is runs.0)) (subst (λ us. IsOffence m us batch r) before o)
    never_rejected start (b ∷ bs) (v ∷ vs) ops all h runs zero (w ∷ ws) there batch r before at o = absurd before
    never_rejected start (b ∷ bs) (v ∷ vs) ops all h runs (suc i) [] there batch r before at o = absurd before
    never_rejected start (b ∷ bs) (v ∷ vs) ops all h runs (suc i) (w ∷ ws) there batch r before at o =
        let same = one_batch ops b w v before.0 runs.0 in
        never_rejected start bs vs (grown m start ops (batch_of b v)) all (grown_written start ops (batch_of b v) h) runs.1 i ws there batch r
        (subst (λ us. RunsTo m start (grown m start ops us) (take i bs) ws there) same before.1) at o

filter_short : {X : Type 0} (p : X → Bool) (xs : List X) → length (filter p xs) ≤ length xs
filter_short p [] = omega arith
filter_short p (x ∷ xs) = by (p x) (filter_short p xs)
  where
    by : (b : Bool) → length (filter p xs) ≤ length xs → length (cond b (x ∷ filter p xs) (filter p xs)) ≤ suc (length xs)
    by true h = omega (arith, h)
    by false h = omega (arith, h)

firsts_short : {K : Type 0} (eq : K → K → Bool) (ks : List K) → length (firsts eq ks) ≤ length ks
firsts_short eq [] = omega arith
firsts_short eq (k ∷ ks) = omega (arith, filter_short (λ q. not (eq k q)) (firsts eq ks), firsts_short eq ks)

option_short : {Y : Type 0} (o : Option Y) (ys : List Y) (n : ℕ) → length ys ≤ n → length (cons_option o ys) ≤ suc n
option_short None ys n h = omega (arith, h)
option_short (Some y) ys n h = omega (arith, h)

pub map_short : {X Y : Type 0} (f : X → Option Y) (xs : List X) → length (filter_map f xs) ≤ length xs
map_short f [] = omega arith
map_short f (x ∷ xs) = option_short (f x) (filter_map f xs) (length xs) (map_short f xs)

taken_short : {T : Type 0} (cs : List T) (vs : List Bool) → length (taken cs vs) ≤ length cs
taken_short [] vs = omega arith
taken_short (c ∷ cs) [] = omega arith
taken_short (c ∷ cs) (v ∷ vs) = by v (taken_short cs vs)
  where
    by : (v : Bool) → length (taken cs vs) ≤ length cs → length (cond v (c ∷ taken cs vs) (taken cs vs)) ≤ suc (length cs)
    by true h = omega (arith, h)
    by false h = omega (arith, h)

-- how many transfers a block has
abbrev pub transfers_in : {T : Type 0} → Block T → ℕ
transfers_in (Body batch) = length batch
transfers_in (Rounds rounds) = length (joined rounds)

-- the greatest number of operations that blocks append, where each transfer has two changes, and each of these a copy
abbrev pub room_for : {T : Type 0} → List (Block T) → ℕ
room_for [] = 0
room_for (b ∷ bs) = (1 + 4 * transfers_in b) + room_for bs

batch_short : {T : Type 0} (b : Block T) (v : BlockVerdicts) → length (batch_of b v) ≤ transfers_in b
batch_short (Body batch) v = omega arith
batch_short (Rounds rounds) NoVerdicts = omega arith
batch_short (Rounds rounds) (Verdicts vs) = taken_short (joined rounds) (joined vs)

room_at : {T : Type 0} (bs : List (Block T)) (i : ℕ) (b : Block T) → slice_get bs i ≡ Some b → room_for (take i bs) + (1 + 4 * transfers_in b) ≤ room_for bs
room_at [] i b h = absurd (true≢false (sym (ap is_some h)))
room_at (c ∷ bs) zero b h =
    let is : c ≡ b = ap (λ o. unwrap_or o c) h in
    subst (λ d. 0 + (1 + 4 * transfers_in d) ≤ (1 + 4 * transfers_in c) + room_for bs) is (omega arith)
room_at (c ∷ bs) (suc i) b h = omega (arith, room_at bs i b h)

module _ {T A E : Type 0} (m : Meaning T A E) (two : (t : T) → length (m.changes_of t) ≤ 2) where
  touches_short : (batch : List T) → length (flat_map m.changes_of batch) ≤ 2 * length batch
  touches_short [] = omega arith
  touches_short (t ∷ batch) = omega (arith, two t, touches_short batch, length-append (m.changes_of t) (flat_map m.changes_of batch))

  changed_short : (ops : List AnyOp) (batch : List T) → length (changed m.same m.rules m.values ops (touches m.changes_of batch)) ≤ 2 * length batch
  changed_short ops batch =
      let ts = touches m.changes_of batch in
      let keys = map (λ (t : List ℕ × Change E). t.0) ts in
      let made = changed m.same m.rules m.values ops ts in
      let first : length made ≤ length (firsts bytes_eq keys) = map_short (λ key. written m.values key (slot_at m.same m.rules m.values ops ts key)) (firsts bytes_eq keys) in
      let second : length (firsts bytes_eq keys) ≤ length keys = firsts_short bytes_eq keys in
      let third : length keys ≡ length ts = length-map ts (λ t. t.0) in
      let fourth : length ts ≤ length (flat_map m.changes_of batch) = filter_short _ (flat_map m.changes_of batch) in
      few (length made) (length (firsts bytes_eq keys)) (length keys) (length ts) (length (flat_map m.changes_of batch)) (length batch) first second third fourth (touches_short batch)
    where
      few : (a b c d e k : ℕ) → a ≤ b → b ≤ c → c ≡ d → d ≤ e → e ≤ 2 * k → a ≤ 2 * k
      few a b c d e k p q r s t = omega (arith, p, q, r, s, t)

  grown_short : (start : ℕ) (ops : List AnyOp) (batch : List T) → length (grown m start ops batch) ≤ length ops + (1 + 4 * length batch)
  grown_short start ops batch =
      let made = changed m.same m.rules m.values ops (touches m.changes_of batch) in
      added (length (grown m start ops batch)) (length ops) (length made) (length batch) (appended_short (log_from start ops) made) (changed_short ops batch)
    where
      added : (g n a k : ℕ) → g ≤ n + (1 + 2 * a) → a ≤ 2 * k → g ≤ n + (1 + 4 * k)
      added g n a k p q = omega (arith, p, q)

  run_short : (start : ℕ) (bs : List (Block T)) (vs : List BlockVerdicts) (ops all : List AnyOp) → RunsTo m start ops bs vs all → length all ≤ length ops + room_for bs
  run_short start [] [] ops all r = omega (arith, ap length r)
  run_short start [] (v ∷ vs) ops all r = absurd r
  run_short start (b ∷ bs) [] ops all r = absurd r
  run_short start (b ∷ bs) (v ∷ vs) ops all r =
      let rest = run_short start bs vs (grown m start ops (batch_of b v)) all r.1 in
      let one = grown_short start ops (batch_of b v) in
      let few = batch_short b v in
      added (length all) (length (grown m start ops (batch_of b v))) (length ops) (length (batch_of b v)) (transfers_in b) (room_for bs) rest one few
    where
      added : (a g n k t r : ℕ) → a ≤ g + r → g ≤ n + (1 + 4 * k) → k ≤ t → a ≤ n + ((1 + 4 * t) + r)
      added a g n k t r p q s = omega (arith, p, q, s)

  -- where there is room for all blocks, none makes the log too long
  pub never_full : (start : ℕ) (ops : List AnyOp) (bs : List (Block T)) (i : ℕ) → (start + length ops) + room_for bs ≤ 2 ^ 62 → IsFull m start ops bs i → ⊥
  never_full start ops bs i room f =
      let before = run_short start (take i bs) f.before.verdicts ops f.before.all f.before.runs in
      let one = grown_short start f.before.all (batch_of f.block f.verdict) in
      let few = batch_short f.block f.verdict in
      let at = room_at bs i f.block f.at in
      too_long start (length ops) (length f.before.all) (length (grown m start f.before.all (batch_of f.block f.verdict))) (length (batch_of f.block f.verdict)) (transfers_in f.block) (room_for (take i bs)) (room_for bs) before one few at room f.long
    where
      too_long : (s n a g k t r whole : ℕ) → a ≤ n + r → g ≤ a + (1 + 4 * k) → k ≤ t → r + (1 + 4 * t) ≤ whole → (s + n) + whole ≤ 2 ^ 62 → 2 ^ 62 < s + g → ⊥
      too_long s n a g k t r whole p q u v w x = omega (arith, p, q, u, v, w, x)
