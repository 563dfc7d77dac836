-- Rounds chosen by a selection, against the accounts that a block opens with.
use Rattle.std.proofs.Common.{◌≡◌, ℕ, zero, suc, ◌<◌, Bool, true, List, [], ◌∷◌, ◌++◌, length, map, get_or, slice_get, Option, None, Some, refl, sym, ap, subst, ◌∙◌, bytes_eq, inl, inr, arith, append_assoc, true≢false}
use Rattle.std.specs.Prelude.{IsSome, is_some, position, option_and_then, unwrap_or, ⊤}
use Rattle.std.specs.List.{All, AllByRecursion}
use Rattle.std.specs.Map.{lookup}
use Rattle.std.specs.Cmp.{IsEquivalence}
use Rattle.std.specs.Cmp.Lexicographic.{nat_list_eq_equiv, bytes_decides}
use Rattle.std.specs.BTreeMap.{BTreeMap}
use Rattle.std.proofs.lemmas.List.{append-nil}
use Rattle.std.proofs.lemmas.List.Elements.{All-append, All-from_recursion}
use Rattle.std.proofs.lemmas.List.Quantifiers.{position-Some}
use Rattle.std.proofs.lemmas.List.{length-map}
use Rattle.std.proofs.lemmas.Option.{slice_get-get_or, slice_get-map}
use Rattle.ledger_strategy.proofs.PartsLemmas.{slice_get_push_cases}
use Rattle.std.specs.Option.{option_map}
use Rattle.indexmap.proofs.MapLemmas.{some_index}
use Rattle.ledger_log.specs.View.{LogView}
use Rattle.ledger_log.specs.declared.any.AnyOp.{AnyOp}
use Rattle.ledger_job.specs.declared.block.Block.TheVariants.{Rounds}
use Rattle.ledger_job.specs.declared.block.BlockVerdicts.TheVariants.{Rounds as Verdicts}
use Rattle.ledger_transfers.specs.Rules.{Rules, AccountLaws}
use Rattle.ledger_transfers.specs.Touches.{touches, total_of}
use Rattle.ledger_transfers.specs.Settling.{opened, SettlesTo, SameSlot}
use Rattle.ledger_transfers.specs.Selecting.{StandsFor, SettledBy, opened_at}
use Rattle.ledger_transfers.specs.Registering.{AreSettled}
use Rattle.ledger_transfers.specs.Greedy.{AreGreedy, taken, IsChosen}
use Rattle.ledger_transfers.specs.declared.change.Change.{Change}
use Rattle.ledger_transfers.specs.declared.held.Held.{Held}
use Rattle.ledger_transfers.specs.declared.slot.Slot.{Slot}
use Rattle.ledger_transfers.specs.declared.slot.Slot.TheVariants.{Keep}
use Rattle.ledger_transfers.proofs.TouchesLemmas.{touches_cons, touches_append}
use Rattle.ledger_transfers.proofs.VerdictLemmas.{all_left, all_right}
use Rattle.ledger_transfers.proofs.SettleLemmas.{settles_same}
use Rattle.ledger_transfers.proofs.DecideLemmas.{registered_at}
use Rattle.ledger_settling.specs.Blocks.{Meaning, grown, IsSettled, Settles as BlockSettles, joined, account_at}
use Rattle.ledger_settling.specs.Reports.{held, IsReplay}
use Rattle.ledger_settling.specs.Rounds.{AreOpened, AreChosen, SettlesOn}
use Rattle.ledger_settling.specs.Slots.{AreFound, opening_of, touched_first, AppendFails, BlockFails}
use Rattle.ledger_settling.specs.declared.fault.ReportFault.{ReportFault}
use Rattle.ledger_settling.specs.declared.fault.ReportFault.TheVariants.{BadLog, BadValue, Rejected, Full, OutOfMemory}
use Rattle.ledger_settling.proofs.ChoiceLemmas.{taken_append, greedy_append, greedy_alike}
use Rattle.ledger_settling.proofs.ApplyLemmas.{firsts_all, touched_all}
use Rattle.ledger_settling.proofs.SlotLemmas.{settles_alike, settles_copy, opened_alike, opens_alike, within_of}

module _ {T A E : Type 0} (same : A → A → Bool) (rules : Rules A E) (changes_of : T → List (List ℕ × Change E)) (accounts : BTreeMap (List ℕ) A) where
  -- no candidates
  pub chosen_none : (old : List (List ℕ × Held A)) → AreChosen same rules changes_of accounts old old [] []
  chosen_none old before stands = (tt, subst (λ b. StandsFor bytes_eq same rules old (touches changes_of b)) (sym (append-nil before)) stands)

  -- candidates, and more behind them
  pub chosen_more : (old mid new : List (List ℕ × Held A)) (cs ds : List T) (vs ws : List Bool) → length vs ≡ length cs → AreChosen same rules changes_of accounts old mid cs vs → AreChosen same rules changes_of accounts mid new ds ws
      → AreChosen same rules changes_of accounts old new (cs ++ ds) (vs ++ ws)
  chosen_more old mid new cs ds vs ws l first second before stands =
      let a = first before stands in
      let b = second (before ++ taken cs vs) a.1 in (
        greedy_append (SettlesOn rules changes_of accounts) before cs ds vs ws a.0 b.0,
        subst (λ us. StandsFor bytes_eq same rules new (touches changes_of us)) (append_assoc before (taken cs vs) (taken ds ws) ∙ ap (λ us. before ++ us) (sym (taken_append cs ds vs ws l))) b.1,
      )

-- what holds of each touch of a list holds of the touches of each of its transfers
touches_each : {T E : Type 0} (P : List ℕ × Change E → Type 0) (changes_of : T → List (List ℕ × Change E)) (cs : List T) → All P (touches changes_of cs) → AllByRecursion (λ c. All P (touches changes_of (c ∷ []))) cs
touches_each P changes_of [] h = tt
touches_each P changes_of (c ∷ cs) h =
    let both = subst (All P) (touches_cons changes_of c cs) h in
    (all_left P (touches changes_of (c ∷ [])) (touches changes_of cs) both, touches_each P changes_of cs (all_right P (touches changes_of (c ∷ [])) (touches changes_of cs) both))

slice_there : {X : Type 0} (xs : List X) (i : ℕ) → i < length xs → (x : X) × (slice_get xs i ≡ Some x)
slice_there [] i h = absurd (omega (arith, h))
slice_there (x ∷ xs) i h = (get_or (x ∷ xs) i x, slice_get-get_or (x ∷ xs) i x h)

at_place : {X : Type 0} (xs : List X) (i : ℕ) (x d : X) → slice_get xs i ≡ Some x → get_or xs i d ≡ x
at_place [] i x d h = absurd (true≢false (sym (ap is_some h)))
at_place (y ∷ xs) zero x d h = cc
at_place (y ∷ xs) (suc i) x d h = at_place xs i x d h

module _ {A E : Type 0} (same : A → A → Bool) (equiv : IsEquivalence same) (rules : Rules A E) (laws : AccountLaws same rules)
    (accounts : BTreeMap (List ℕ) A) (keys : List (List ℕ)) (es : List (List ℕ × Held A)) (o : AreOpened same accounts keys es) where
  -- a registered key opens with its account
  opens_with : (k : List ℕ) → IsSome (lookup (bytes_eq k) es) → same (opened_at bytes_eq same rules es k) (opening_of rules accounts k) ≡ true
  opens_with k there = by (lookup (bytes_eq k) es) refl there
    where
      by : (r : Option (Held A)) → lookup (bytes_eq k) es ≡ r → IsSome r → same (opened rules (option_and_then (λ (h : Held A). h.read) r)) (opening_of rules accounts k) ≡ true
      by None e t = absurd (true≢false (sym t))
      by (Some h) e t = opened_alike same equiv rules laws h.read (held accounts k) (o.reads k h e)

  abbrev Registered : List (List ℕ × Change E) → Type 0
  Registered ts = All (λ t. IsSome (lookup (bytes_eq t.0) es)) ts

  module _ {T : Type 0} (changes_of : T → List (List ℕ × Change E)) where
    settled_on : (batch : List T) → Registered (touches changes_of batch) → SettledBy bytes_eq same rules es (touches changes_of batch) → SettlesOn rules changes_of accounts batch
    settled_on batch r s = λ i d l.
        let k = (get_or (touches changes_of batch) i d).0 in
        settles_same same equiv rules laws (opened_at bytes_eq same rules es k) (opening_of rules accounts k) (total_of bytes_eq (touches changes_of batch) k) (opens_with k (r i d l)) (s i d l)

    settled_by : (batch : List T) → Registered (touches changes_of batch) → SettlesOn rules changes_of accounts batch → SettledBy bytes_eq same rules es (touches changes_of batch)
    settled_by batch r s = λ i d l.
        let k = (get_or (touches changes_of batch) i d).0 in
        settles_same same equiv rules laws (opening_of rules accounts k) (opened_at bytes_eq same rules es k) (total_of bytes_eq (touches changes_of batch) k)
        (equiv.symm (opening_of rules accounts k) (opened_at bytes_eq same rules es k) ∙ opens_with k (r i d l)) (s i d l)

    registered_more : (before : List T) (c : T) → Registered (touches changes_of before) → Registered (touches changes_of (c ∷ [])) → Registered (touches changes_of (before ++ c ∷ []))
    registered_more before c r s =
        subst Registered (sym (touches_append changes_of before (c ∷ []))) (All-append (λ t. IsSome (lookup (bytes_eq t.0) es)) (touches changes_of before) (touches changes_of (c ∷ [])) r s)

    -- a round that a selection chose is chosen against the accounts
    pub chosen_round : (old new : List (List ℕ × Held A)) (cs : List T) (vs : List Bool) → ((ts : List (List ℕ × Change E)) → StandsFor bytes_eq same rules old ts → StandsFor bytes_eq same rules es ts)
        → Registered (touches changes_of cs) → IsChosen bytes_eq same rules changes_of es new cs vs → AreChosen same rules changes_of accounts old new cs vs
    chosen_round old new cs vs keeps r chosen before stands =
        let here = keeps (touches changes_of before) stands in
        let c = chosen before here in (
          greedy_alike (λ batch. SettledBy bytes_eq same rules es (touches changes_of batch)) (SettlesOn rules changes_of accounts) (λ batch. Registered (touches changes_of batch)) (λ c. Registered (touches changes_of (c ∷ [])))
              registered_more settled_on settled_by before cs vs here.registered (touches_each (λ t. IsSome (lookup (bytes_eq t.0) es)) changes_of cs r) c.0,
          c.1,
        )

  -- the slots of a selection, found for the keys that it took, are those of what it took
  pub slots_taken : (ts : List (List ℕ × Change E)) (slots : List (Slot A)) (order : List (List ℕ)) (places : List (Option ℕ)) (found : List (Slot A)) → StandsFor bytes_eq same rules es ts
      → AreSettled bytes_eq same rules keys (opened_at bytes_eq same rules es) ts slots → order ≡ touched_first ts → places ≡ map (λ key. position (bytes_eq key) keys) order → length found ≡ length places → AreFound same slots places found
      → AreSettled bytes_eq same rules order (opening_of rules accounts) ts found
  slots_taken ts slots order places found stands are first stand many has = record {
    all = many ∙ ap length stand ∙ length-map order (λ key. position (bytes_eq key) keys);
    each = λ i key slot p q. placed i key slot p q (position (bytes_eq key) keys) refl;
  }
    where
      indexed : (key : List ℕ) → is_some (position (bytes_eq key) keys) ≡ is_some (lookup (bytes_eq key) es)
      indexed key = ap (λ ks. is_some (position (bytes_eq key) ks)) (sym o.all) ∙ some_index (bytes_eq key) es

      there : AllByRecursion (λ k. IsSome (lookup (bytes_eq k) es)) order
      there = subst (AllByRecursion (λ k. IsSome (lookup (bytes_eq k) es))) (sym first)
          (firsts_all bytes_eq (λ k. IsSome (lookup (bytes_eq k) es)) (map (λ t. t.0) ts) (touched_all (λ k. IsSome (lookup (bytes_eq k) es)) ts (λ k t. registered_at bytes_eq nat_list_eq_equiv same rules es ts k stands.registered t)))

      registered : (i : ℕ) (key : List ℕ) → slice_get order i ≡ Some key → IsSome (lookup (bytes_eq key) es)
      registered i key p = subst (λ k. IsSome (lookup (bytes_eq k) es)) (at_place order i key key p) (All-from_recursion (λ k. IsSome (lookup (bytes_eq k) es)) order there i key (within_of order i key p))

      placed : (i : ℕ) (key : List ℕ) (slot : Slot A) → slice_get order i ≡ Some key → slice_get found i ≡ Some slot → (n : Option ℕ) → position (bytes_eq key) keys ≡ n → SettlesTo same rules (opening_of rules accounts key) (total_of bytes_eq ts key) slot
      placed i key slot p q None e = absurd (true≢false (sym (registered i key p) ∙ sym (indexed key) ∙ ap is_some e))
      placed i key slot p q (Some n) e =
          let at = position-Some (bytes_eq key) keys n key e in
          let k = slice_there keys n at.0 in
          let key_is : key ≡ k.0 = (bytes_decides key k.0).0 (ap (bytes_eq key) (sym (at_place keys n k.0 key k.1)) ∙ at.1) in
          let s = slice_there slots n (omega (arith, at.0, are.all)) in
          let place : slice_get places i ≡ Some (Some n) = ap (λ ps. slice_get ps i) stand ∙ slice_get-map (λ key. position (bytes_eq key) keys) order i ∙ ap (option_map (λ key. position (bytes_eq key) keys)) p ∙ ap Some e in
          settles_copy same equiv rules laws (opening_of rules accounts key) (total_of bytes_eq ts key) s.0 slot (has i n s.0 slot place s.1 q)
          (settles_alike same equiv rules laws (opened_at bytes_eq same rules es key) (opening_of rules accounts key) (total_of bytes_eq ts key) s.0 (opens_with key (registered i key p))
          (are.each n key s.0 (k.1 ∙ ap Some (sym key_is)) s.1))

-- one slot more, found at its place
pub AreFound-push : {A : Type 0} (same : A → A → Bool) (slots : List (Slot A)) (places : List (Option ℕ)) (found : List (Slot A)) (place : Option ℕ) (slot : Slot A)
    → AreFound same slots places found → slice_get places (length found) ≡ Some place → SameSlot same slot (unwrap_or (option_and_then (slice_get slots) place) Keep) → AreFound same slots places (found ++ slot ∷ [])
AreFound-push same slots places found place slot h at like i p s t a b q =
    elim (slice_get_push_cases found slot t i q) [
      | inl old ↦ h i p s t a b old
      | inr new ↦
          let here : place ≡ Some p = one place (Some p) (sym at ∙ ap (slice_get places) (sym new.0) ∙ a) in
          let is : unwrap_or (option_and_then (slice_get slots) place) Keep ≡ s = ap (λ n. unwrap_or (option_and_then (slice_get slots) n) Keep) here ∙ ap (λ o. unwrap_or o Keep) b in
          subst (λ x. SameSlot same x s) new.1 (subst (SameSlot same slot) is like)
    ]
  where
    one : {X : Type 0} (x y : X) → Some x ≡ Some y → x ≡ y
    one x y h = cc

module _ {T A E : Type 0} (m : Meaning T A E) where
  module _ (equiv : IsEquivalence m.same) (laws : AccountLaws m.same m.rules) (accounts : BTreeMap (List ℕ) A) (ops : List AnyOp) (replay : IsReplay m.same m.values accounts ops) where
    settled_ops : (batch : List T) → ⊤ → SettlesOn m.rules m.changes_of accounts batch → IsSettled m ops batch
    settled_ops batch t s = λ i d l.
        let k = (get_or (touches m.changes_of batch) i d).0 in
        settles_same m.same equiv m.rules laws (opening_of m.rules accounts k) (opened m.rules (account_at m.values ops k)) (total_of bytes_eq (touches m.changes_of batch) k)
        (opens_alike m.same equiv m.rules laws m.values accounts ops replay (touches m.changes_of batch) k) (s i d l)

    settled_map : (batch : List T) → ⊤ → IsSettled m ops batch → SettlesOn m.rules m.changes_of accounts batch
    settled_map batch t s = λ i d l.
        let k = (get_or (touches m.changes_of batch) i d).0 in
        settles_same m.same equiv m.rules laws (opened m.rules (account_at m.values ops k)) (opening_of m.rules accounts k) (total_of bytes_eq (touches m.changes_of batch) k)
        (equiv.symm (opened m.rules (account_at m.values ops k)) (opening_of m.rules accounts k) ∙ opens_alike m.same equiv m.rules laws m.values accounts ops replay (touches m.changes_of batch) k) (s i d l)

    each_trivial : (cs : List T) → AllByRecursion (λ c. ⊤) cs
    each_trivial [] = tt
    each_trivial (c ∷ cs) = (tt, each_trivial cs)

    -- what is chosen against the accounts is chosen against the operations
    pub rounds_settle : (rounds : List (List T)) (verdicts : List (List Bool)) → AreGreedy (SettlesOn m.rules m.changes_of accounts) [] (joined rounds) (joined verdicts) → map length verdicts ≡ map length rounds
        → BlockSettles m ops (Rounds rounds) (Verdicts verdicts)
    rounds_settle rounds verdicts h cut =
        (greedy_alike (SettlesOn m.rules m.changes_of accounts) (IsSettled m ops) (λ b. ⊤) (λ c. ⊤) (λ b c s t. tt) settled_ops settled_map [] (joined rounds) (joined verdicts) tt (each_trivial (joined rounds)) h, cut)

  -- what keeps chosen rounds from being appended keeps the block from settling
  pub rounds_fail : (log : LogView AnyOp) (i : ℕ) (rounds : List (List T)) (verdicts : List (List Bool)) (fault : ReportFault) → BlockSettles m log.ops (Rounds rounds) (Verdicts verdicts)
      → AppendFails log i (grown m log.front log.ops (taken (joined rounds) (joined verdicts))) fault → BlockFails m log i (Rounds rounds) fault
  rounds_fail log i rounds verdicts (BadLog location) s h = h
  rounds_fail log i rounds verdicts (BadValue location) s h = h
  rounds_fail log i rounds verdicts (Rejected j r) s h = absurd h
  rounds_fail log i rounds verdicts (Full j) s h = (h.0, (Verdicts verdicts, s, h.1))
  rounds_fail log i rounds verdicts OutOfMemory s h = tt
