-- That the body of a generated job settles, whatever the sizes.
use Rattle.std.proofs.Common.{◌≡◌, ℕ, ◌+◌, ◌*◌, ◌^◌, ◌<◌, ◌≤◌, List, [], ◌∷◌, ◌++◌, length, map, None, true, refl, sym, subst, arith, bytes_eq, length-append}
use Rattle.std.specs.List.{range_with_len, list_any}
use Rattle.std.specs.Cmp.Lexicographic.{nat_list_eq_equiv}
use Rattle.std.proofs.lemmas.List.{length-map}
use Rattle.std.proofs.lemmas.List.FromFn.{length-map-range_with_len}
use Rattle.ledger_job.specs.Payments.{payment_changes}
use Rattle.ledger_job.specs.declared.block.BlockVerdicts.TheVariants.{Body as NoVerdicts}
use Rattle.ledger_log.specs.declared.any.AnyOp.TheVariants.{CommitFloor}
use Rattle.ledger_program.proofs.Completeness.{roomy_unfollowed}
use Rattle.ledger_program.specs.Peer.{payments}
use Rattle.ledger_program.specs.Run.{Settling, LocalFails}
use Rattle.ledger_program.specs.Served.{served, update_of}
use Rattle.ledger_program.specs.declared.outcome.RunFault.{RunFault}
use Rattle.ledger_program.specs.declared.outcome.RunFault.TheVariants.{Usage, BadJob, JobRead, JobTooLarge, Dial, Follow as RunFollow, Output, OutOfMemory}
use Rattle.ledger_settling.proofs.CauseLemmas.{room_for}
use Rattle.ledger_settling.specs.Blocks.{IsSettled, grown, opening}
use Rattle.ledger_transfers.proofs.TakenLemmas.{all_touched}
use Rattle.ledger_transfers.specs.Accounts.{sequenced_rules}
use Rattle.ledger_transfers.specs.Settling.{Settles, opened}
use Rattle.ledger_transfers.specs.Touches.{touches, total_of}
use Rattle.ledger_generate.proofs.Opening.{opens_with}
use Rattle.ledger_generate.proofs.Sums.{touched_account, settles_account}
use Rattle.ledger_generate.specs.Generated.{key_at, open_at, payment_at, opens, all_payments, generated}
use Rattle.ledger_generate.specs.Sizes.{SizesView, IsWithin, opening_balance}

module _ (sizes : SizesView) (w : IsWithin sizes) where
  touched_payments : (k : List ℕ) → list_any (λ t. bytes_eq k t.0) (touches payment_changes (all_payments sizes)) ≡ true → (m : ℕ) × (m < sizes.accounts) × (k ≡ key_at m)
  unfolding all_payments
  touched_payments k touched = touched_account sizes w sizes.transfers k touched

  -- a touched key settles
  key_settles : (k : List ℕ) → list_any (λ t. bytes_eq k t.0) (touches payment_changes (all_payments sizes)) ≡ true
      → Settles sequenced_rules (opening payments (served (opens sizes)) k) (total_of bytes_eq (touches payment_changes (all_payments sizes)) k)
  key_settles k touched =
      let found = touched_payments k touched in
      subst (λ q. Settles sequenced_rules (opening payments (served (opens sizes)) q) (total_of bytes_eq (touches payment_changes (all_payments sizes)) q)) (sym found.2)
      (subst (λ a. Settles sequenced_rules (opened sequenced_rules a) (total_of bytes_eq (touches payment_changes (all_payments sizes)) (key_at found.0))) (sym (opens_with sizes w found.0 found.1))
      (settles_account sizes w found.0 (opening_balance sizes) found.1 refl))

  body_settles : IsSettled payments (served (opens sizes)) (all_payments sizes)
  body_settles =
      all_touched bytes_eq nat_list_eq_equiv
      (λ k. Settles sequenced_rules (opening payments (served (opens sizes)) k) (total_of bytes_eq (touches payment_changes (all_payments sizes)) k))
      (touches payment_changes (all_payments sizes)) key_settles

  settling : Settling (generated sizes)
  settling = record {
    verdicts = NoVerdicts ∷ [];
    all = grown payments 0 (served (opens sizes)) (all_payments sizes);
    runs = (body_settles, refl);
  }

  accounts_long : length (served (opens sizes)) ≡ sizes.accounts + 2
  unfolding served opens
  accounts_long =
      let all = map (open_at sizes) (range_with_len 0 sizes.accounts) in
      let one : length (map update_of all ++ CommitFloor None 0 ∷ []) ≡ length (map update_of all) + 1 = length-append (map update_of all) (CommitFloor None 0 ∷ []) in
      let two : length (map update_of all) ≡ length all = length-map all update_of in
      let three : length all ≡ sizes.accounts = length-map-range_with_len (open_at sizes) 0 sizes.accounts in
      omega (arith, one, two, three)

  payments_long : length (all_payments sizes) ≡ sizes.transfers
  unfolding all_payments
  payments_long = length-map-range_with_len (payment_at sizes) 0 sizes.transfers

  has_room : (0 + length (served (opens sizes))) + room_for (generated sizes).blocks ≤ 2 ^ 62
  has_room = room (length (served (opens sizes))) (length (all_payments sizes)) sizes.accounts sizes.transfers accounts_long payments_long w.most w.few
    where
      room : (n p a t : ℕ) → n ≡ a + 2 → p ≡ t → a ≤ 20000 → t ≤ 100000 → (0 + n) + ((1 + 4 * p) + 0) ≤ 2 ^ 62
      room n p a t e f g h = omega (arith, e, f, g, h)

  -- so a generated job has no fault but want of memory
  pub memory_alone : (fault : RunFault) → LocalFails (generated sizes) fault → fault ≡ OutOfMemory
  memory_alone Usage h = absurd h
  memory_alone (BadJob line) h = absurd h
  memory_alone JobRead h = absurd h
  memory_alone JobTooLarge h = absurd h
  memory_alone Dial h = absurd h
  memory_alone (RunFollow fault) h = absurd (roomy_unfollowed (generated sizes) has_room settling fault h.0 h.1)
  memory_alone Output h = absurd h
  memory_alone OutOfMemory h = refl
