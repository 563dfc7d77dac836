-- Blocks that settle leave a log that can be followed: each value in it is an account.
use Rattle.std.proofs.Common.{◌≡◌, ℕ, ◌+◌, ◌-◌, Bool, true, false, cond, List, [], ◌∷◌, ◌++◌, map, Option, Some, None, refl, sym, ap, subst, true≢false, append_assoc, bytes_eq, inl, inr, ◌⊎◌}
use Rattle.std.specs.Prelude.{All, is_some, unwrap_or, option_map, option_and_then, MatchBool, ⊤}
use Rattle.std.specs.List.{AllByRecursion, list_any, last_or, cons_option, filter_map}
use Rattle.std.proofs.lemmas.List.{append-nil}
use Rattle.std.proofs.lemmas.List.Elements.{All-nil, All-cons, All-head, All-tail}
use Rattle.std.specs.Cmp.Lexicographic.{nat_list_eq_equiv, bytes_decides}
use Rattle.ledger_job.specs.declared.block.Block.{Block}
use Rattle.ledger_job.specs.declared.block.Block.TheVariants.{Body, Rounds}
use Rattle.ledger_job.specs.declared.block.BlockVerdicts.{BlockVerdicts}
use Rattle.ledger_job.specs.declared.block.BlockVerdicts.TheVariants.{Body as NoVerdicts, Rounds as Verdicts}
use Rattle.ledger_log.specs.Any.{any_write}
use Rattle.ledger_log.specs.Spelling.{Is32Bytes}
use Rattle.ledger_log.specs.View.{value_at, value_or_none, written_at}
use Rattle.ledger_log.specs.declared.any.AnyOp.{AnyOp}
use Rattle.ledger_log.specs.declared.any.AnyOp.TheVariants.{Update, Delete, CommitFloor}
use Rattle.ledger_managed.specs.Values.{ValueLaws}
use Rattle.ledger_settling.proofs.ApplyLemmas.{firsts_all, touched_all}
use Rattle.ledger_settling.proofs.CauseLemmas.{IsWritten}
use Rattle.ledger_settling.proofs.RaisedLemmas.{raised_all}
use Rattle.ledger_settling.proofs.ReplayLemmas.{some_read}
use Rattle.ledger_settling.specs.Blocks.{Meaning, IsReadable, IsSettled, Settles, RunsTo, batch_of, grown, appended, changed, firsts, joined, log_from, opening, slot_at, written}
use Rattle.ledger_transfers.proofs.BatchLemmas.{settles_key}
use Rattle.ledger_transfers.specs.Greedy.{AreGreedy, taken}
use Rattle.ledger_transfers.specs.Settling.{Settles as SettlesOne, folded, opened, after, final_balance, slot_of}
use Rattle.ledger_transfers.specs.Touches.{touches, total_of}
use Rattle.ledger_transfers.specs.declared.change.Change.{Change}
use Rattle.ledger_transfers.specs.declared.slot.Slot.TheVariants.{Keep, Put, Delete as Remove}
use Rattle.ledger_transfers.specs.declared.totals.Totals.{Totals}
use Rattle.follow_laws.specs.Chained.{KeepSound}

-- ---- lists

pub by_place : {X : Type 0} (P : X → Type 0) (xs : List X) → All P xs → AllByRecursion P xs
by_place P [] h = tt
by_place P (x ∷ xs) h = (All-head P x xs h, by_place P xs (All-tail P x xs h))

pub all_of : {X : Type 0} (P : X → Type 0) (xs : List X) → AllByRecursion P xs → All P xs
all_of P [] h = All-nil P
all_of P (x ∷ xs) h = All-cons P x xs h.0 (all_of P xs h.1)

front_of : {X : Type 0} (P : X → Type 0) (xs ys : List X) → AllByRecursion P (xs ++ ys) → AllByRecursion P xs
front_of P [] ys h = tt
front_of P (x ∷ xs) ys h = (h.0, front_of P xs ys h.1)

pub map_all : {X : Type 0} (P Q : X → Type 0) → ((x : X) → P x → Q x) → (xs : List X) → AllByRecursion P xs → AllByRecursion Q xs
map_all P Q f [] h = tt
map_all P Q f (x ∷ xs) h = (f x h.0, map_all P Q f xs h.1)

pub zip_all : {X : Type 0} (P Q : X → Type 0) (xs : List X) → AllByRecursion P xs → AllByRecursion Q xs → AllByRecursion (λ x. P x × Q x) xs
zip_all P Q [] h k = tt
zip_all P Q (x ∷ xs) h k = ((h.0, k.0), zip_all P Q xs h.1 k.1)

module _ {T A E : Type 0} (m : Meaning T A E) where
  -- what holds of what blocks leave holds of what they begin with
  pub runs_front : (P : AnyOp → Type 0) (start : ℕ) (bs : List (Block T)) (vs : List BlockVerdicts) (ops all : List AnyOp) → RunsTo m start ops bs vs all → AllByRecursion P all → AllByRecursion P ops
  runs_front P start [] [] ops all e h = subst (AllByRecursion P) e h
  runs_front P start [] (v ∷ vs) ops all e h = absurd e
  runs_front P start (b ∷ bs) [] ops all e h = absurd e
  runs_front P start (b ∷ bs) (v ∷ vs) ops all e h =
      front_of P ops (appended m.same m.rules m.values start ops (touches m.changes_of (batch_of b v))) (runs_front P start bs vs (grown m start ops (batch_of b v)) all e.1 h)

  -- without blocks nothing is appended
  pub no_blocks : (start : ℕ) (vs : List BlockVerdicts) (ops all : List AnyOp) → RunsTo m start ops [] vs all → all ≡ ops
  no_blocks start [] ops all e = e
  no_blocks start (v ∷ vs) ops all e = absurd e

  -- ---- the batch of a block is settled

  greedy_taken : (P : List T → Type 0) (before cs : List T) (vs : List Bool) → P before → AreGreedy P before cs vs → P (before ++ taken cs vs)
  greedy_taken P before [] [] p h = subst P (sym (append-nil before)) p
  greedy_taken P before [] (v ∷ vs) p h = absurd h
  greedy_taken P before (c ∷ cs) [] p h = absurd h
  greedy_taken P before (c ∷ cs) (v ∷ vs) p h = by v h.0 h.1 (λ b q r. greedy_taken P b cs vs q r)
    where
      by : (v : Bool) → MatchBool v (P (before ++ c ∷ [])) (P (before ++ c ∷ []) → ⊥) → AreGreedy P (cond v (before ++ c ∷ []) before) cs vs → ((b : List T) → P b → AreGreedy P b cs vs → P (b ++ taken cs vs)) → P (before ++ cond v (c ∷ taken cs vs) (taken cs vs))
      by true q r rest = subst P (append_assoc before (c ∷ []) (taken cs vs)) (rest (before ++ c ∷ []) q r)
      by false q r rest = rest before p r

  batch_settled : (ops : List AnyOp) (b : Block T) (v : BlockVerdicts) → Settles m ops b v → IsSettled m ops (batch_of b v)
  batch_settled ops (Body batch) NoVerdicts s = s
  batch_settled ops (Body batch) (Verdicts vs) s = absurd s
  batch_settled ops (Rounds rounds) NoVerdicts s = absurd s
  batch_settled ops (Rounds rounds) (Verdicts vs) s = greedy_taken (IsSettled m ops) [] (joined rounds) (joined vs) (All-nil _) s.0

  -- ---- each value is an account

  -- an operation whose value is an account of 32 bytes
  abbrev pub Fine : AnyOp → Type 0
  Fine op = IsReadable m.values op × IsWritten m op

  -- so is the operation, where there is one
  abbrev FineIf : Option AnyOp → Type 0
  FineIf None = ⊤
  FineIf (Some op) = Fine op

  fine_map : (f : List ℕ → Option AnyOp) (ks : List (List ℕ)) → AllByRecursion (λ k. FineIf (f k)) ks → AllByRecursion Fine (filter_map f ks)
  fine_map f [] h = tt
  fine_map f (k ∷ ks) h = by (f k) h.0 (fine_map f ks h.1)
    where
      by : (o : Option AnyOp) → FineIf o → AllByRecursion Fine (filter_map f ks) → AllByRecursion Fine (cons_option o (filter_map f ks))
      by None q r = r
      by (Some op) q r = (q, r)

  -- what a key had, or 32 bytes
  abbrev Known : Option (Option (List ℕ)) → List ℕ → Type 0
  Known o v = (value_or_none o ≡ Some v) ⊎ Is32Bytes v

  known_update : (o : Option (Option (List ℕ))) (value v : List ℕ) → Is32Bytes value → Known (Some (Some value)) v → Known o v
  known_update o value v s (inl q) = let is : value ≡ v = ap (λ x. unwrap_or x v) q in inr (subst Is32Bytes is s)
  known_update o value v s (inr q) = inr q

  known_delete : (o : Option (Option (List ℕ))) (v : List ℕ) → Known (Some None) v → Known o v
  known_delete o v (inl q) = absurd (true≢false (sym (ap is_some q)))
  known_delete o v (inr q) = inr q

  known_or : (b : Bool) (o : Option (Option (List ℕ))) (w : Option (List ℕ)) (rest : List (Option (List ℕ))) (v : List ℕ) → value_or_none (last_or o (cons_option (cond b (Some w) None) rest)) ≡ Some v
      → ((p : Option (Option (List ℕ))) → value_or_none (last_or p rest) ≡ Some v → Known p v) → (Known (Some w) v → Known o v) → Known o v
  known_or true o w rest v e more back = back (more (Some w) e)
  known_or false o w rest v e more back = more o e

  known_value : (key : List ℕ) (o : Option (Option (List ℕ))) (ops : List AnyOp) (v : List ℕ) → AllByRecursion (IsWritten m) ops → value_or_none (last_or o (filter_map (λ op. written_at key (any_write op)) ops)) ≡ Some v → Known o v
  known_value key o [] v h e = inl e
  known_value key o (Update k value ∷ ops) v h e =
      known_or (bytes_eq k key) o (Some value) (filter_map (λ op. written_at key (any_write op)) ops) v e (λ p. known_value key p ops v h.1) (known_update o value v h.0)
  known_value key o (Delete k ∷ ops) v h e =
      known_or (bytes_eq k key) o None (filter_map (λ op. written_at key (any_write op)) ops) v e (λ p. known_value key p ops v h.1) (known_delete o v)
  known_value key o (CommitFloor metadata floor ∷ ops) v h e = known_value key o ops v h.1 e

  from_none : (v : List ℕ) → Known None v → Is32Bytes v
  from_none v (inl q) = absurd (true≢false (sym (ap is_some q)))
  from_none v (inr q) = q

  module _ {IsSound : A → Type 0} (laws : ValueLaws m.same IsSound m.rules m.values) (keep : KeepSound IsSound m.rules m.values) where
    read_sound : (v : List ℕ) → Is32Bytes v → (r : Option A) → m.values.read v ≡ r → IsSound (opened m.rules r)
    read_sound v s None e = keep.initial
    read_sound v s (Some a) e = keep.read v a s e

    opening_sound : (ops : List AnyOp) → AllByRecursion (IsWritten m) ops → (k : List ℕ) → IsSound (opening m ops k)
    opening_sound ops h k = by (value_at any_write k ops) refl
      where
        by : (o : Option (List ℕ)) → value_at any_write k ops ≡ o → IsSound (opened m.rules (option_and_then m.values.read o))
        by None e = keep.initial
        by (Some v) e = read_sound v (from_none v (known_value k None ops v h e)) (m.values.read v) refl

    folded_sound : (es : List E) (a b : A) → IsSound a → folded m.rules a es ≡ Some b → IsSound b
    folded_sound [] a b s e = let is : a ≡ b = ap (λ o. unwrap_or o a) e in subst IsSound is s
    folded_sound (x ∷ es) a b s e = by (m.rules.applied a x) refl e (λ c t g. folded_sound es c b t g)
      where
        by : (o : Option A) → m.rules.applied a x ≡ o → option_and_then (λ c. folded m.rules c es) o ≡ Some b → ((c : A) → IsSound c → folded m.rules c es ≡ Some b → IsSound b) → IsSound b
        by None f g rest = absurd (true≢false (sym (ap is_some g)))
        by (Some c) f g rest = rest c (keep.applied a c x s f) g

    after_sound : (a e : A) (total : Totals E) → IsSound a → SettlesOne m.rules a total → after m.rules a total ≡ Some e → IsSound e
    after_sound a e total s k h = by (folded m.rules a total.effects) refl h
      where
        by : (o : Option A) → folded m.rules a total.effects ≡ o → option_map (λ b. m.rules.with_balance b (final_balance m.rules a total)) o ≡ Some e → IsSound e
        by None f g = absurd (true≢false (sym (ap is_some g)))
        by (Some b) f g =
            let is : m.rules.with_balance b (final_balance m.rules a total) ≡ e = ap (λ o. unwrap_or o e) g in
            subst IsSound is (keep.balanced b (final_balance m.rules a total) (folded_sound total.effects a b s f) k.fits)

    slot_fine : (key : List ℕ) (a : A) (total : Totals E) → IsSound a → SettlesOne m.rules a total → FineIf (written m.values key (unwrap_or (option_map (slot_of m.same m.rules a) (after m.rules a total)) Keep))
    slot_fine key a total s k = by (after m.rules a total) refl
      where
        put : (e : A) (b c : Bool) → IsSound e → FineIf (written m.values key (cond b Keep (cond c Remove (Put e))))
        put e true c q = tt
        put e false true q = (tt, tt)
        put e false false q = (some_read m.same e (m.values.read (m.values.value_of e)) (laws.reads_back e q), laws.is_value e)

        by : (o : Option A) → after m.rules a total ≡ o → FineIf (written m.values key (unwrap_or (option_map (slot_of m.same m.rules a) o) Keep))
        by None e = tt
        by (Some x) e = put x (m.same x a) (m.same x m.rules.initial) (after_sound a x total s k e)

    grown_fine : (start : ℕ) (ops : List AnyOp) (batch : List T) → AllByRecursion Fine ops → IsSettled m ops batch → AllByRecursion Fine (grown m start ops batch)
    grown_fine start ops batch h s =
        let ts : List (List ℕ × Change E) = touches m.changes_of batch in
        let wrote : AllByRecursion (IsWritten m) ops = map_all Fine (IsWritten m) (λ op f. f.1) ops h in
        let each : (k : List ℕ) → list_any (λ t. bytes_eq k t.0) ts ≡ true → FineIf (written m.values k (slot_at m.same m.rules m.values ops ts k)) =
        λ k t. slot_fine k (opening m ops k) (total_of bytes_eq ts k) (opening_sound ops wrote k)
        (settles_key bytes_eq nat_list_eq_equiv m.same m.rules (opening m ops) (λ a b e. ap (opening m ops) ((bytes_decides a b).0 e)) ts k s t) in
        let keys = firsts_all bytes_eq (λ k. FineIf (written m.values k (slot_at m.same m.rules m.values ops ts k))) (map (λ t. t.0) ts) (touched_all (λ k. FineIf (written m.values k (slot_at m.same m.rules m.values ops ts k))) ts each) in
        raised_all Fine (log_from start ops) (changed m.same m.rules m.values ops ts) h
        (fine_map (λ k. written m.values k (slot_at m.same m.rules m.values ops ts k)) (firsts bytes_eq (map (λ t. t.0) ts)) keys) (λ floor. (tt, tt))

    -- each value in what blocks leave is an account
    pub runs_fine : (start : ℕ) (bs : List (Block T)) (vs : List BlockVerdicts) (ops all : List AnyOp) → AllByRecursion Fine ops → RunsTo m start ops bs vs all → AllByRecursion Fine all
    runs_fine start [] [] ops all h e = subst (AllByRecursion Fine) (sym e) h
    runs_fine start [] (v ∷ vs) ops all h e = absurd e
    runs_fine start (b ∷ bs) [] ops all h e = absurd e
    runs_fine start (b ∷ bs) (v ∷ vs) ops all h e = runs_fine start bs vs (grown m start ops (batch_of b v)) all (grown_fine start ops (batch_of b v) h (batch_settled ops b v e.0)) e.1
