-- The log that a job serves, and its target.
use Rattle.std.proofs.Common.{◌≡◌, ℕ, zero, suc, ◌+◌, ◌^◌, ◌<◌, List, [], ◌∷◌, ◌++◌, length, map, Option, Some, None, Result, Err, refl, sym, ◌∙◌, ap, subst, arith, nat_le, nat_lt, cond, Bool, true, false, zero-add, true≢false}
use Rattle.std.specs.Prelude.{MatchOption, IsOkUnless, count_ones, slice_get, is_some, unwrap_or}
use Rattle.std.specs.List.{AllByRecursion}
use Rattle.sha2.specs.Sha256.{sha256}
use borrow.Author.Tests.{tests}
use Rattle.std.proofs.Common.{rules}
use Rattle.ledger_job.specs.declared.line.Open.{Open}
use Rattle.ledger_log.specs.Any.{any_floor, any_spelling}
use Rattle.ledger_log.specs.Faults.{parts_refusal, floor_refusal}
use Rattle.ledger_log.specs.View.{LogView, last_floor, log_size, log_root}
use Rattle.ledger_log.specs.declared.any.AnyOp.{AnyOp}
use Rattle.ledger_log.specs.declared.any.AnyOp.TheVariants.{Update, CommitFloor}
use Rattle.ledger_log.specs.declared.fault.LogFault.{LogFault}
use Rattle.ledger_log.specs.declared.fault.LogFault.TheVariants.{OutOfMemory as LogMemory, Size}
use Rattle.ledger_log.specs.declared.target.Target.{Target}
use Rattle.ledger_settling.proofs.RunLemmas.{report_root}
use Rattle.ledger_program.specs.Run.{SpansLog}
use Rattle.ledger_managed.specs.Spelled.{sequenced_value, sequenced_values, read_sequenced}
use Rattle.ledger_managed.specs.SpelledProofs.{value_reads}
use Rattle.ledger_settling.specs.Faults.{IsUnreadable}
use Rattle.ledger_program.specs.Served.{served, update_of, opened_of, IsServedList, IsLongOrMemory}

-- the target of a log that begins at 0
pub spans_log : (target : Target) (log : LogView AnyOp) → log.front ≡ 0 → log.pinned ≡ [] → target.root ≡ log_root sha256 any_spelling log → target.start ≡ 0 → target.end ≡ log_size log → SpansLog target log
unfolding lib.Count.ones
spans_log target log f p r s e =
    let size : log_size log ≡ length log.ops = ap (λ n. n + length log.ops) f ∙ zero-add (length log.ops) in
    record {
      start = s;
      end = e ∙ size;
      spans = record {
        nodes = ap length p ∙ sym (ap count_ones s);
        range = ap (λ n. n + length log.ops) s ∙ zero-add (length log.ops) ∙ sym (e ∙ size);
        root = sym (r ∙ report_root log 0 log.pinned f refl ∙ ap (λ n. Rattle.ledger_merkle.specs.Tree.part_root sha256 log.pinned n (map any_spelling log.ops)) (sym s));
      };
    }

last_of : (ops : List AnyOp) → last_floor any_floor (ops ++ CommitFloor None 0 ∷ []) ≡ Some 0
last_of [] = refl
last_of (x ∷ []) = refl
last_of (x ∷ y ∷ ys) = last_of (y ∷ ys)

-- a served log ends in a commit with floor 0
pub served_floor : (accounts : List Open) → last_floor any_floor (served accounts) ≡ Some 0
unfolding served
served_floor accounts = last_of (CommitFloor None 0 ∷ map update_of accounts)

no_update : (metadata : Option (List ℕ)) (floor : ℕ) (key value : List ℕ) → CommitFloor metadata floor ≡ Update key value → ⊥
no_update metadata floor key value e = absurd cc

value_of_update : (key value k v : List ℕ) → Update key value ≡ Update k v → value ≡ v
value_of_update key value k v e = cc

some_or_none : {X : Type 0} {x : X} → Some x ≡ None → ⊥
some_or_none e = absurd cc

served_long : (accounts : List Open) → 0 < length (served accounts)
unfolding served
served_long accounts = omega arith

below : (n : ℕ) → 0 < n → nat_lt 0 n ≡ true
below n h = search (rules, tests)

-- a log that begins at 0 and ends in a commit with floor 0 is refused for its length alone
short_floor : (n : ℕ) → 0 < n → floor_refusal 0 n (Some 0) ≡ None
short_floor n h = rw (below n h) refl

served_refusal : (ops : List AnyOp) → last_floor any_floor ops ≡ Some 0 → 0 < length ops
    → parts_refusal any_floor (record { front = 0; pinned = []; ops = ops }) ≡ cond (nat_le (0 + length ops) (2 ^ 62)) None (Some Size)
unfolding lib.Count.ones
served_refusal ops l h =
    let inner : floor_refusal 0 (0 + length ops) (last_floor any_floor ops) ≡ None = ap (floor_refusal 0 (0 + length ops)) l ∙ short_floor (0 + length ops) (omega arith) in
    ap (λ o. cond (nat_le (0 + length ops) (2 ^ 62)) o (Some Size)) inner

long_or_memory : {X : Type 0} (b : Bool) (r : Result X LogFault) (fault : LogFault) → r ≡ Err fault → MatchOption (cond b None (Some Size)) (IsOkUnless r LogMemory) (λ g. r ≡ Err g) → IsLongOrMemory fault
long_or_memory true r fault q m = subst IsLongOrMemory (sym (subst (λ z. IsOkUnless z LogMemory) q m)) tt
long_or_memory false r fault q m = let is : fault ≡ Size = cc in subst IsLongOrMemory (sym is) tt

-- why a served log can't be had
pub served_fails : {X : Type 0} (r : Result X LogFault) (fault : LogFault) (ops : List AnyOp) (pinned : List (List ℕ)) → IsServedList ops → pinned ≡ [] → r ≡ Err fault
    → MatchOption (parts_refusal any_floor (record { front = 0; pinned = pinned; ops = ops })) (IsOkUnless r LogMemory) (λ g. r ≡ Err g) → IsLongOrMemory fault
served_fails r fault ops pinned (accounts, is) p q m =
    let floor : last_floor any_floor ops ≡ Some 0 = ap (last_floor any_floor) is ∙ served_floor accounts in
    let long : 0 < length ops = subst (λ xs. 0 < length xs) (sym is) (served_long accounts) in
    let why : parts_refusal any_floor (record { front = 0; pinned = pinned; ops = ops }) ≡ cond (nat_le (0 + length ops) (2 ^ 62)) None (Some Size) =
    ap (λ ps. parts_refusal any_floor (record { front = 0; pinned = ps; ops = ops })) p ∙ served_refusal ops floor long in
    long_or_memory (nat_le (0 + length ops) (2 ^ 62)) r fault q (subst (λ o. MatchOption o (IsOkUnless r LogMemory) (λ g. r ≡ Err g)) why m)

-- each value of a served log is an account
each_readable : (accounts : List Open) → AllByRecursion (λ op. IsUnreadable sequenced_values op → ⊥) (map update_of accounts ++ CommitFloor None 0 ∷ [])
each_readable [] = ((λ u. no_update None 0 u.key u.value u.is), tt)
each_readable (a ∷ accounts) = (
  (λ u.
      let reads = value_reads (opened_of a) in
      let same : sequenced_value (opened_of a) ≡ u.value = value_of_update a.key (sequenced_value (opened_of a)) u.key u.value u.is in
      some_or_none (sym reads.1 ∙ ap read_sequenced same ∙ u.unreadable)),
  each_readable accounts,
)

by_place : {X : Type 0} (P : X → Type 0) (xs : List X) (i : ℕ) (x : X) → AllByRecursion P xs → slice_get xs i ≡ Some x → P x
by_place P [] i x h at = absurd (true≢false (sym (ap is_some at)))
by_place P (y ∷ ys) zero x h at = subst P (ap (λ o. unwrap_or o y) at) h.0
by_place P (y ∷ ys) (suc i) x h at = by_place P ys i x h.1 at

pub served_readable : (accounts : List Open) (place : ℕ) (op : AnyOp) → slice_get (served accounts) place ≡ Some op → IsUnreadable sequenced_values op → ⊥
unfolding served
served_readable accounts place op at = by_place (λ op. IsUnreadable sequenced_values op → ⊥) (served accounts) place op ((λ u. no_update None 0 u.key u.value u.is), each_readable accounts) at
