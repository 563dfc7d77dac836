-- A batch over a log's own state, sealed and applied.
use Rattle.std.proofs.Common.{◌≡◌, ℕ, zero, suc, ◌+◌, ◌^◌, ◌<◌, ◌≤◌, ◌⊎◌, inl, inr, Bool, true, false, nat_le, List, [], ◌∷◌, ◌++◌, length, Option, None, Some, Result, Err, refl, sym, ap, subst, ◌∙◌, bytes_eq, replicate}
use borrow.Author.Tests.{tests}
use Rattle.std.proofs.Common.{rules}
use Rattle.std.specs.Prelude.{MatchOption, IsOkUnless, is_some, ◌&&◌, drop, option_map, if◌then◌else◌}
use Rattle.std.specs.Option.{option_or, option_map_or}
use Rattle.std.specs.Cmp.Lexicographic.{nat_list_eq_equiv}
use Rattle.std.proofs.lemmas.Bool.{eq-eqb}
use Rattle.std.proofs.lemmas.List.{append-nil}
use Rattle.sha2.specs.Sha256.{sha256}
use Rattle.ledger_log.specs.Any.{any_floor, any_write, any_commit, any_commit_has_floor, any_spelling}
use Rattle.ledger_log.specs.Faults.{append_refusal}
use Rattle.ledger_log.specs.View.{LogView, log_size, log_floor}
use Rattle.ledger_log.specs.declared.any.AnyOp.{AnyOp}
use Rattle.ledger_log.specs.declared.fault.LogFault.{LogFault}
use Rattle.ledger_log.specs.declared.fault.LogFault.TheVariants.{Full as LogFull}
use Rattle.ledger_compact.specs.View.{with_ops}
use Rattle.ledger_transfers.specs.declared.slot.Slot.{Slot}
use Rattle.ledger_transfers.specs.declared.slot.Slot.TheVariants.{Keep}
use Rattle.ledger_raising.specs.Raised.{copies, raised, Raises}
use Rattle.ledger_raising.specs.Updates.{update, deletion, update_writes, deletion_writes, no_commit}
use Rattle.ledger_raising.proofs.Admitted.{raised_refusal}
use Rattle.ledger_raising.proofs.Laws.{floor_within}
use Rattle.ledger_chain.specs.Chain.{ChainView, state_of, same_state, place, ops_of, view}
use Rattle.ledger_chain.specs.Changes.{changes}
use Rattle.ledger_chain.specs.Faults.{managed_fault, stale_read, stale_batch, refusal_behind}
use Rattle.ledger_chain.specs.Writes.{Write, settled}
use Rattle.ledger_chain.specs.declared.fault.ManagedFault.{ManagedFault}
use Rattle.ledger_chain.specs.declared.fault.ManagedFault.TheVariants.{StaleRead, StaleBatch, OutOfMemory}
use Rattle.ledger_chain.specs.declared.state.State.{State}
use Rattle.ledger_chain.proofs.Changing.{all_write}
use Rattle.ledger_batches.specs.Batches.{BatchView, StagedView}
use Rattle.ledger_batches.specs.Sealing.{lacking, completed, log_refusal, batch_ops, seal_refusal}
use Rattle.ledger_batches.specs.Slots.{slot_writes, with_slots}
use Rattle.ledger_settling.specs.Slots.{fresh_batch, changes_on, raised_on, SealFails}

-- a state is the same as itself
same_itself : (s : State) → same_state s s ≡ true
same_itself s = ap (λ b. b && bytes_eq s.root s.root) (eq-eqb s.size s.size refl) ∙ nat_list_eq_equiv.refl s.root

over : (a b : ℕ) → nat_le a b ≡ false → b < a
over a b k = search (rules, tests)

-- slots that keep their keys write nothing
kept_none : (keys : List (List ℕ)) (n : ℕ) → slot_writes keys (replicate n Keep) ≡ []
kept_none [] n = refl
kept_none (k ∷ ks) zero = refl
kept_none (k ∷ ks) (suc n) = kept_none ks n

nothing_behind : (log : LogView AnyOp) → with_ops log [] ≡ log
nothing_behind log = ap (λ xs. record { front = log.front; pinned = log.pinned; ops = xs }) (append-nil log.ops)

none_of : (o : Option LogFault) → option_map managed_fault o ≡ None → o ≡ None
none_of None h = refl
none_of (Some fault) h = absurd cc

module _ (log : LogView AnyOp) where
  abbrev alone : ChainView AnyOp
  alone = (fresh_batch log).chain

  abbrev here : State
  here = state_of sha256 any_spelling log

  at_base : place alone here ≡ Some 0
  at_base = ap (λ b. if b then Some 0 else None) (same_itself here)

  -- a batch over the log is not stale
  pub reads : stale_read (fresh_batch log).chain (state_of sha256 any_spelling log) ≡ None
  reads = ap (λ o. if is_some o then None else Some (StaleRead here.size here.root)) at_base

  applies : stale_batch alone here ≡ None
  applies = ap (λ o. if is_some o then None else Some (StaleBatch here.size here.root)) at_base

  -- the log lacks nothing of what the batch stands on
  lacks_nothing : lacking sha256 any_spelling alone log ≡ []
  lacks_nothing = ap (λ (o : Option ℕ). option_map_or (λ n. drop n []) o []) at_base

  completed_is : completed sha256 any_spelling alone log ≡ log
  completed_is = ap (λ ls. with_ops log (ops_of ls)) lacks_nothing ∙ nothing_behind log

  refusal_alone : (ops : List AnyOp) → log_refusal sha256 any_spelling any_floor alone log ops ≡ option_map managed_fault (append_refusal any_floor log ops)
  refusal_alone ops =
      ap (λ ls. option_map managed_fault (refusal_behind any_floor log ls ops)) lacks_nothing ∙ ap (λ l. option_map managed_fault (append_refusal any_floor l ops)) (nothing_behind log)

  -- the batch with these writes
  abbrev written : List Write → BatchView AnyOp
  written ws = record { chain = (fresh_batch log).chain; writes = settled ws; metadata = None }

  -- what becomes of a batch whose slots keep their keys
  pub kept_written : (staged : StagedView AnyOp) (n : ℕ) (ws : List Write) → staged.batch ≡ fresh_batch log → with_slots staged (replicate n Keep) ws ≡ written ws
  kept_written staged n ws e =
      ap (λ (b : BatchView AnyOp). record { chain = b.chain; writes = settled (b.writes ++ (slot_writes staged.keys (replicate n Keep) ++ ws)); metadata = b.metadata }) e
      ∙ ap (λ us. record { chain = (fresh_batch log).chain; writes = settled (us ++ ws); metadata = None }) (kept_none staged.keys n)

  ops_are : (ws : List Write) → batch_ops sha256 any_spelling any_floor any_write update deletion any_commit (written ws) log ≡ raised_on log (changes_on log ws)
  ops_are ws = ap (λ l. raised any_floor any_write any_commit l (changes_on log ws) None) completed_is

  refusal_is : (ws : List Write) → seal_refusal sha256 any_spelling any_floor any_write update deletion any_commit (written ws) log ≡ option_map managed_fault (append_refusal any_floor log (raised_on log (changes_on log ws)))
  refusal_is ws =
      ap (λ o. option_or o (log_refusal sha256 any_spelling any_floor alone log (batch_ops sha256 any_spelling any_floor any_write update deletion any_commit (written ws) log))) reads
      ∙ refusal_alone (batch_ops sha256 any_spelling any_floor any_write update deletion any_commit (written ws) log)
      ∙ ap (λ ops. option_map managed_fault (append_refusal any_floor log ops)) (ops_are ws)

  module _ (low : log_floor any_floor log ≤ log_size log) where
    raised_taken : (ws : List Write) → append_refusal any_floor log (raised_on log (changes_on log ws)) ≡ (if nat_le (log_size log + length (raised_on log (changes_on log ws))) (2 ^ 62) then None else Some (LogFull (log_size log)))
    raised_taken ws =
        let made = changes_on log ws in
        let within = floor_within any_floor any_write log (made ++ copies any_floor any_write log made) low in
        raised_refusal any_floor any_write any_commit any_commit_has_floor no_commit log made None (all_write any_write update deletion update_writes deletion_writes (view any_write alone log) (settled ws)) within.0 within.1

    told : (ops : List AnyOp) (fault : ManagedFault) (b : Bool) → nat_le (log_size log + length ops) (2 ^ 62) ≡ b → option_map managed_fault (if b then None else Some (LogFull (log_size log))) ≡ Some fault → SealFails log ops fault
    told ops fault true k e = absurd cc
    told ops fault false k e = subst (SealFails log ops) (some_is e) (refl, over (log_size log + length ops) (2 ^ 62) k)
      where
        some_is : {x y : ManagedFault} → Some x ≡ Some y → x ≡ y
        some_is h = cc

    seal_fails : (ws : List Write) (fault : ManagedFault) → (fault ≡ OutOfMemory) ⊎ (seal_refusal sha256 any_spelling any_floor any_write update deletion any_commit (written ws) log ≡ Some fault) → SealFails log (raised_on log (changes_on log ws)) fault
    seal_fails ws fault (inl e) = subst (SealFails log (raised_on log (changes_on log ws))) (sym e) tt
    seal_fails ws fault (inr e) =
        told (raised_on log (changes_on log ws)) fault (nat_le (log_size log + length (raised_on log (changes_on log ws))) (2 ^ 62)) refl
        (sym (refusal_is ws ∙ ap (option_map managed_fault) (raised_taken ws)) ∙ e)

  module _ (staged : StagedView AnyOp) (slots : List (Slot (List ℕ))) (n : ℕ) (ws : List Write) (fresh : staged.batch ≡ fresh_batch log) (kept : slots ≡ replicate n Keep) where
    is_written : with_slots staged slots ws ≡ written ws
    is_written = ap (λ ss. with_slots staged ss ws) kept ∙ kept_written staged n ws fresh

    -- what comes of it
    pub ops_kept : batch_ops sha256 any_spelling any_floor any_write update deletion any_commit (with_slots staged slots ws) log ≡ raised_on log (changes_on log ws)
    ops_kept = ap (λ b. batch_ops sha256 any_spelling any_floor any_write update deletion any_commit b log) is_written ∙ ops_are ws

    pub chain_kept : (with_slots staged slots ws).chain ≡ (fresh_batch log).chain
    chain_kept = ap (λ (b : BatchView AnyOp). b.chain) is_written

    -- which the log takes
    pub taken_kept : seal_refusal sha256 any_spelling any_floor any_write update deletion any_commit (with_slots staged slots ws) log ≡ None → append_refusal any_floor log (raised_on log (changes_on log ws)) ≡ None
    taken_kept h = none_of (append_refusal any_floor log (raised_on log (changes_on log ws))) (sym (ap (λ b. seal_refusal sha256 any_spelling any_floor any_write update deletion any_commit b log) is_written ∙ refusal_is ws) ∙ h)

    -- why there is none
    pub fails_kept : log_floor any_floor log ≤ log_size log → (fault : ManagedFault) → (fault ≡ OutOfMemory) ⊎ (seal_refusal sha256 any_spelling any_floor any_write update deletion any_commit (with_slots staged slots ws) log ≡ Some fault)
        → SealFails log (raised_on log (changes_on log ws)) fault
    fails_kept low fault h = seal_fails low ws fault (subst (λ b. (fault ≡ OutOfMemory) ⊎ (seal_refusal sha256 any_spelling any_floor any_write update deletion any_commit b log ≡ Some fault)) is_written h)

    -- and its law
    pub law_kept : (ops : List AnyOp) → Raises any_floor any_write (completed sha256 any_spelling staged.batch.chain log) (changes any_write update deletion staged.batch.chain log (with_slots staged slots ws).writes) ops
        → Raises any_floor any_write log (changes_on log ws) ops
    law_kept ops h =
        subst (λ l. Raises any_floor any_write l (changes_on log ws) ops) completed_is
        (subst (λ (b : BatchView AnyOp). Raises any_floor any_write (completed sha256 any_spelling (fresh_batch log).chain log) (changes any_write update deletion (fresh_batch log).chain log b.writes) ops) is_written
        (subst (λ (b : BatchView AnyOp). Raises any_floor any_write (completed sha256 any_spelling b.chain log) (changes any_write update deletion b.chain log (with_slots staged slots ws).writes) ops) fresh h))

  module _ (chain : ChainView AnyOp) (ops : List AnyOp) (standing : chain ≡ (fresh_batch log).chain) where
    -- a sealed batch that the log takes is applied, but for want of memory
    pub apply_none : append_refusal any_floor log ops ≡ None → option_or (stale_batch chain here) (log_refusal sha256 any_spelling any_floor chain log ops) ≡ None
    apply_none h =
        ap (λ c. option_or (stale_batch c here) (log_refusal sha256 any_spelling any_floor c log ops)) standing
        ∙ ap (λ o. option_or o (log_refusal sha256 any_spelling any_floor alone log ops)) applies
        ∙ refusal_alone ops
        ∙ ap (option_map managed_fault) h

    -- and then stands behind the log
    pub applied_is : with_ops (completed sha256 any_spelling chain log) ops ≡ with_ops log ops
    applied_is = ap (λ c. with_ops (completed sha256 any_spelling c log) ops) standing ∙ ap (λ l. with_ops l ops) completed_is

-- where nothing refuses, memory was wanting
pub wants_memory : {X : Type 0} (r : Result X ManagedFault) (refusal : Option ManagedFault) (fault : ManagedFault) → r ≡ Err fault → refusal ≡ None → MatchOption refusal (IsOkUnless r OutOfMemory) (λ f. r ≡ Err f) → fault ≡ OutOfMemory
wants_memory r None fault e n m = subst (λ z. IsOkUnless z OutOfMemory) e m
wants_memory r (Some f) fault e n m = absurd cc
