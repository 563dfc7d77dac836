-- Test operations that a fresh log takes.
use Rattle.std.proofs.Common.{◌≡◌, ℕ, ◌+◌, Bool, true, false, List, [], ◌∷◌, ◌++◌, length, map, Option, Some, None, Result, Ok, Err, MatchOption, IsOkUnless, is_some, refl, sym, ◌∙◌, ap, subst}
use Rattle.std.specs.Prelude.{IfOk, OnOk}
use Rattle.std.specs.List.{flat_map, range_with_len}
use Rattle.ledger_log.specs.View.{LogView, last_floor, floor_or_zero}
use Rattle.ledger_log.specs.declared.fault.LogFault.{LogFault}
use Rattle.ledger_log.specs.declared.fault.LogFault.TheVariants.{OutOfMemory as memory_wanting}
use Rattle.ledger_log.proofs.Floors.{last_floor-push}
use Rattle.ledger_compact.specs.View.{CompactView, compact_of, with_ops, with_batch, fresh_log}
use Rattle.ledger_examples.specs.Batches.{batches_of, batches_if, first_refusal, added_batches, with_batches}
use Rattle.ledger_examples.specs.Tests.{test_step, test_operations}
use Rattle.ledger_examples.proofs.Runs.{with_all}
use Rattle.ledger_examples.proofs.Agreeing.{kept_batches}
use Rattle.serve_parts.specs.Tests.{test_log, HasTests}

-- a call that goes well has no refusal
pub none_if_ok : {T : Type 0} (o : Option LogFault) (x : T) (r : Result T LogFault) → r ≡ Ok x → MatchOption o (IsOkUnless r memory_wanting) (λ fault. r ≡ Err fault) → o ≡ None
none_if_ok None x r e h = refl
none_if_ok (Some fault) x r e h = absurd (let k = sym e ∙ h in cc)

module _ {Op : Type 0} (floor_of : Op → Option ℕ) (commit_of : Option (List ℕ) → ℕ → Op) (write : List ℕ → List ℕ → Op) (commit : ℕ → ℕ → Bool → Op) (added : ℕ → Op → Op) (shown : ℕ → ℕ → ℕ) (h : HasTests floor_of write commit added shown) where
  -- operations that end with a commit are cut into batches
  cut_if : (o : Option ℕ) (ops : List Op) → is_some o ≡ true → batches_if o floor_of ops ≡ batches_of floor_of ops
  cut_if None ops e = absurd cc
  cut_if (Some n) ops e = refl

  tests_cut : (count seed : ℕ) → added_batches floor_of added 0 (test_operations write commit seed 0 count) ≡ batches_of floor_of (map (added 0) (test_operations write commit seed 0 count))
  tests_cut count seed =
      let last : last_floor floor_of (test_operations write commit seed 0 count) ≡ floor_of (commit 0 count true) = last_floor-push floor_of (flat_map (test_step write commit seed 0) (range_with_len 0 count)) (commit 0 count true) in
      cut_if (last_floor floor_of (test_operations write commit seed 0 count)) (map (added 0) (test_operations write commit seed 0 count)) (ap is_some last ∙ h.ends count)

  -- a fresh log with test operations is a log of them
  pub full_tests : (count seed : ℕ) → with_batches with_ops (fresh_log commit_of) (added_batches floor_of added 0 (test_operations write commit seed 0 count)) ≡ test_log floor_of commit_of write commit added count seed
  full_tests count seed = ap (with_batches with_ops (fresh_log commit_of)) (tests_cut count seed) ∙ with_all floor_of (fresh_log commit_of) (map (added 0) (test_operations write commit seed 0 count))

  -- and a fresh compact log with them is what is kept of that one
  pub compact_tests : (hash : List ℕ → List ℕ) (spelling : Op → List ℕ) (log : CompactView Op) (size floor count seed : ℕ) → compact_of hash spelling (fresh_log commit_of) ≡ Some log →
      first_refusal floor_of size floor (added_batches floor_of added 0 (test_operations write commit seed 0 count)) ≡ None →
      compact_of hash spelling (test_log floor_of commit_of write commit added count seed) ≡ Some (with_batches (with_batch hash spelling) log (added_batches floor_of added 0 (test_operations write commit seed 0 count)))
  compact_tests hash spelling log size floor count seed e none =
      ap (compact_of hash spelling) (sym (full_tests count seed)) ∙ kept_batches hash spelling floor_of (added_batches floor_of added 0 (test_operations write commit seed 0 count)) size floor (fresh_log commit_of) log none e

  -- what a result is, said of its value
  pub compact_so : {E : Type 0} (hash : List ℕ → List ℕ) (spelling : Op → List ℕ) (log : CompactView Op) (size floor count seed : ℕ) (result : Result (CompactView Op) E) → compact_of hash spelling (fresh_log commit_of) ≡ Some log →
      OnOk result (first_refusal floor_of size floor (added_batches floor_of added 0 (test_operations write commit seed 0 count)) ≡ None) →
      IfOk result (λ new. new ≡ with_batches (with_batch hash spelling) log (added_batches floor_of added 0 (test_operations write commit seed 0 count))) →
      IfOk result (λ new. compact_of hash spelling (test_log floor_of commit_of write commit added count seed) ≡ Some new)
  compact_so hash spelling log size floor count seed (Ok new) e none is = compact_tests hash spelling log size floor count seed e none ∙ ap Some (sym is)
  compact_so hash spelling log size floor count seed (Err fault) e none is = tt
