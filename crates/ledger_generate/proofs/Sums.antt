-- What the payments of a generated job do to each account.
use Rattle.std.proofs.Common.{◌≡◌, ℕ, zero, suc, ◌+◌, ◌*◌, ◌/◌, ◌%◌, ◌^◌, ◌<◌, ◌≤◌, Bool, true, false, cond, ◌||◌, not, nat_lt, List, [], ◌∷◌, ◌++◌, map, Option, Some, None, refl, sym, ap, ◌∙◌, subst, arith, true≢false, bytes_eq, zero-add, add-one, eqb, ◌&&◌, ◌-◌}
use Rattle.std.specs.Prelude.{option_and_then, IsSome}
use Rattle.std.specs.List.{range_with_len, list_any}
use Rattle.std.specs.Cmp.Lexicographic.{bytes_decides}
use Rattle.std.proofs.lemmas.List.{append_assoc, append-nil}
use Rattle.std.proofs.lemmas.List.Folds.{list_any-append}
use Rattle.std.proofs.lemmas.List.FromFn.{map-range_with_len_more}
use Rattle.std.proofs.lemmas.Bool.{eq-eqb, ne_eqb}
use Rattle.std.proofs.Math.Nat.{mod-lt, div-le_self}
use Rattle.ledger_transfers.specs.declared.change.Change.{Change}
use Rattle.ledger_transfers.specs.declared.totals.Totals.{Totals}
use Rattle.ledger_transfers.specs.declared.sequenced.Sequenced.{Sequenced}
use Rattle.ledger_transfers.specs.Accounts.{sequenced_rules}
use Rattle.ledger_transfers.specs.Settling.{folded, Settles}
use Rattle.ledger_transfers.specs.Touches.{touches, total_of, with_change, max_amount}
use Rattle.ledger_transfers.proofs.TotalLemmas.{total_by, total_by-yes, total_by-no}
use Rattle.ledger_transfers.proofs.TouchesLemmas.{touches_append}
use Rattle.ledger_transfers.proofs.TakingLemmas.{folded_append}
use Rattle.ledger_job.specs.Payments.{payment_changes}
use Rattle.ledger_job.specs.declared.payment.Payment.{Payment}
use Rattle.ledger_generate.specs.Generated.{key_at, payment_at, payer, payee, moved, all_payments}
use Rattle.ledger_generate.specs.Sizes.{SizesView, IsWithin, opening_balance}
use Rattle.ledger_generate.proofs.Turns.{turns, turn_taken, turn_is, turn_passed, no_turns, few_turns, lt_yes}
use Rattle.ledger_generate.proofs.Names.{one_account}

-- the first payments
abbrev pub first : SizesView → ℕ → List Payment
first sizes n = map (payment_at sizes) (range_with_len 0 n)

-- the touch of a payment's payer, and that of its payee
abbrev debited : Payment → List ℕ × Change ℕ
debited p = (p.from, record { debit = p.amount; credit = 0; effect = Some p.nonce })

abbrev credited : Payment → List ℕ × Change ℕ
credited p = (p.to, record { debit = 0; credit = p.amount; effect = None })

-- a payment of something touches both
two_touches : (from to : List ℕ) (a nonce : ℕ) → eqb a 0 ≡ false → touches payment_changes (record { from = from; to = to; amount = a; nonce = nonce } ∷ [])
    ≡ debited (record { from = from; to = to; amount = a; nonce = nonce }) ∷ credited (record { from = from; to = to; amount = a; nonce = nonce }) ∷ []
two_touches from to a nonce z =
    let p : Payment = record { from = from; to = to; amount = a; nonce = nonce } in
    ap (λ b. cond (not (b && (true && false))) (debited p ∷ cond (not (true && (b && true))) (credited p ∷ []) []) (cond (not (true && (b && true))) (credited p ∷ []) [])) z

-- an account takes its own nonce
next_nonce : (b t q : ℕ) → t ≡ q → q < 2 ^ 64 - 1 → folded sequenced_rules (record { balance = b; nonce = t }) (q ∷ []) ≡ Some (record { balance = b; nonce = t + 1 })
next_nonce b t q e l =
    let then : Option Sequenced = Some (record { balance = b; nonce = t + 1 }) in
    ap (λ x. option_and_then (λ (c : Sequenced). Some c) (cond (x && nat_lt q (2 ^ 64 - 1)) then None)) (eq-eqb t q e)
    ∙ ap (λ x. option_and_then (λ (c : Sequenced). Some c) (cond x then None)) (lt_yes q (2 ^ 64 - 1) l)

-- and one nonce more behind those that it took
one_more : (b t q : ℕ) (start : Sequenced) (es : List ℕ) → folded sequenced_rules start es ≡ Some (record { balance = b; nonce = t }) → t ≡ q → q < 2 ^ 64 - 1
    → folded sequenced_rules start (es ++ q ∷ []) ≡ Some (record { balance = b; nonce = t + 1 })
one_more b t q start es f e l =
    folded_append sequenced_rules es (q ∷ []) start ∙ ap (option_and_then (λ c. folded sequenced_rules c (q ∷ []))) f ∙ next_nonce b t q e l

module _ (sizes : SizesView) (w : IsWithin sizes) where
  some : 0 < sizes.accounts
  some = omega (arith, w.least)

  abbrev ts : ℕ → List (List ℕ × Change ℕ)
  ts n = touches payment_changes (first sizes n)

  abbrev out_of : ℕ → List ℕ × Change ℕ
  out_of n = debited (payment_at sizes n)

  abbrev into : ℕ → List ℕ × Change ℕ
  into n = credited (payment_at sizes n)

  -- the touches of one payment more
  ts_more : (n : ℕ) → ts (n + 1) ≡ (ts n ++ out_of n ∷ []) ++ into n ∷ []
  ts_more n =
      ap (touches payment_changes) (map-range_with_len_more (payment_at sizes) 0 n n (zero-add n))
      ∙ touches_append payment_changes (first sizes n) (payment_at sizes n ∷ [])
      ∙ ap (λ us. ts n ++ us) (two_touches (key_at (payer sizes n)) (key_at (payee sizes n)) (1 + moved sizes n % 10) (n / sizes.accounts) (ne_eqb (1 + moved sizes n % 10) 0 (λ e. omega (arith, e))))
      ∙ sym (append_assoc (ts n) (out_of n ∷ []) (into n ∷ []))

  -- a touched key is an account's
  pub touched_account : (n : ℕ) (k : List ℕ) → list_any (λ t. bytes_eq k t.0) (ts n) ≡ true → (m : ℕ) × (m < sizes.accounts) × (k ≡ key_at m)
  touched_account zero k h = absurd (true≢false (sym h))
  touched_account (suc n) k h =
      by (list_any p (ts n)) (p (out_of n)) (p (into n)) refl refl refl (touched_account n k)
      (sym (list_any-append p (ts n ++ out_of n ∷ []) (into n ∷ []) ∙ ap (λ b. b || (p (into n) || false)) (list_any-append p (ts n) (out_of n ∷ [])))
      ∙ ap (list_any p) (sym (ts_more n)) ∙ ap (λ i. list_any p (ts i)) (add-one n) ∙ h)
    where
      p : List ℕ × Change ℕ → Bool
      p t = bytes_eq k t.0

      by : (x y z : Bool) → list_any p (ts n) ≡ x → p (out_of n) ≡ y → p (into n) ≡ z → (list_any p (ts n) ≡ true → (m : ℕ) × (m < sizes.accounts) × (k ≡ key_at m)) → ((x || (y || false)) || (z || false)) ≡ true → (m : ℕ) × (m < sizes.accounts) × (k ≡ key_at m)
      by true y z e f g rest t = rest e
      by false true z e f g rest t = (payer sizes n, mod-lt n some, (bytes_decides k (key_at (payer sizes n))).0 f)
      by false false true e f g rest t = (payee sizes n, mod-lt (payer sizes n + 1 + moved sizes n % (sizes.accounts - 1)) some, (bytes_decides k (key_at (payee sizes n))).0 g)
      by false false false e f g rest t = absurd (true≢false (sym t))

  module _ (m balance : ℕ) (h : m < sizes.accounts) where
    -- what so many payments did to an account, of whom it made so many
    record Did (made paid : ℕ) (total : Totals ℕ) : Type 0 where
      effects : folded sequenced_rules (record { balance = balance; nonce = 0 }) total.effects ≡ Some (record { balance = balance; nonce = made })
      debits : total.debits ≤ 10 * made
      credits : total.credits ≤ 10 * paid

    abbrev p : List ℕ × Change ℕ → Bool
    p t = bytes_eq (key_at m) t.0

    small : (n : ℕ) → n < sizes.accounts → n < 2 ^ 64
    small n l = omega (arith, l, w.most)

    -- keys tell accounts apart
    tells : (n : ℕ) → n < sizes.accounts → (b : Bool) → bytes_eq (key_at m) (key_at n) ≡ b → cond b (m ≡ n) (m ≡ n → ⊥)
    tells n l true e = one_account m n (small m h) (small n l) ((bytes_decides (key_at m) (key_at n)).0 e)
    tells n l false e = λ q. true≢false (sym ((bytes_decides (key_at m) (key_at n)).1 (ap key_at q)) ∙ e)

    paying : (n : ℕ) → n < sizes.transfers → (total : Totals ℕ) → m ≡ payer sizes n → Did (turns sizes.accounts n m) n total → Did (turns sizes.accounts (n + 1) m) n (with_change total (out_of n).1)
    paying n l total e d =
        let one : turns sizes.accounts (n + 1) m ≡ turns sizes.accounts n m + 1 = turn_taken sizes.accounts n m some h e in
        let is : turns sizes.accounts n m ≡ n / sizes.accounts = turn_is sizes.accounts n m some h e in
        let low : n / sizes.accounts ≤ n = div-le_self n sizes.accounts in
        subst (λ t. Did t n (with_change total (out_of n).1)) (sym one) (record {
          effects = one_more balance (turns sizes.accounts n m) (n / sizes.accounts) (record { balance = balance; nonce = 0 }) total.effects d.effects is (omega (arith, low, l, w.few));
          debits = added (total.debits) (moved sizes n) (turns sizes.accounts n m) d.debits;
          credits = omega (arith, d.credits);
        })
      where
        added : (x s t : ℕ) → x ≤ 10 * t → x + (1 + s % 10) ≤ 10 * (t + 1)
        added x s t b = omega (arith, b)

    out_done : (n : ℕ) → n < sizes.transfers → (total : Totals ℕ) → total ≡ total_by p (ts n) → Did (turns sizes.accounts n m) n total → Did (turns sizes.accounts (n + 1) m) n (total_by p (ts n ++ out_of n ∷ []))
    out_done n l total is d = by (p (out_of n)) refl
      where
        by : (b : Bool) → p (out_of n) ≡ b → Did (turns sizes.accounts (n + 1) m) n (total_by p (ts n ++ out_of n ∷ []))
        by true e = subst (Did (turns sizes.accounts (n + 1) m) n) (ap (λ u. with_change u (out_of n).1) is ∙ sym (total_by-yes p (ts n) (out_of n) e)) (paying n l total (tells (payer sizes n) (mod-lt n some) true e) d)
        by false e =
            subst (Did (turns sizes.accounts (n + 1) m) n) (is ∙ sym (total_by-no p (ts n) (out_of n) e))
            (subst (λ t. Did t n total) (sym (turn_passed sizes.accounts n m some h (tells (payer sizes n) (mod-lt n some) false e))) d)

    paid : (n made : ℕ) (total : Totals ℕ) → Did made n total → Did made (n + 1) (with_change total (into n).1)
    paid n made total d = record {
      effects = ap (folded sequenced_rules (record { balance = balance; nonce = 0 })) (append-nil total.effects) ∙ d.effects;
      debits = omega (arith, d.debits);
      credits = added total.credits (moved sizes n) n d.credits;
    }
      where
        added : (x s t : ℕ) → x ≤ 10 * t → x + (1 + s % 10) ≤ 10 * (t + 1)
        added x s t b = omega (arith, b)

    unpaid : (n made : ℕ) (total : Totals ℕ) → Did made n total → Did made (n + 1) total
    unpaid n made total d = record { effects = d.effects; debits = d.debits; credits = omega (arith, d.credits) }

    into_done : (n made : ℕ) (us : List (List ℕ × Change ℕ)) → Did made n (total_by p us) → Did made (n + 1) (total_by p (us ++ into n ∷ []))
    into_done n made us d = by (p (into n)) refl
      where
        by : (b : Bool) → p (into n) ≡ b → Did made (n + 1) (total_by p (us ++ into n ∷ []))
        by true e = subst (Did made (n + 1)) (sym (total_by-yes p us (into n) e)) (paid n made (total_by p us) d)
        by false e = subst (Did made (n + 1)) (sym (total_by-no p us (into n) e)) (unpaid n made (total_by p us) d)

    -- what the first payments did
    did : (n : ℕ) → n ≤ sizes.transfers → Did (turns sizes.accounts n m) n (total_by p (ts n))
    did zero l = record {
      effects = ap (λ t. Some (record { balance = balance; nonce = t })) (sym (no_turns sizes.accounts m));
      debits = omega arith;
      credits = omega arith;
    }
    did (suc n) l =
        subst (λ k. Did (turns sizes.accounts k m) k (total_by p (ts k))) (add-one n)
        (subst (λ us. Did (turns sizes.accounts (n + 1) m) (n + 1) (total_by p us)) (sym (ts_more n))
        (into_done n (turns sizes.accounts (n + 1) m) (ts n ++ out_of n ∷ []) (out_done n (omega (arith, l)) (total_by p (ts n)) refl (did n (omega (arith, l))))))

    -- an account that opens with this balance settles
    pub settles_account : balance ≡ opening_balance sizes → Settles sequenced_rules (record { balance = balance; nonce = 0 }) (total_of bytes_eq (touches payment_changes (all_payments sizes)) (key_at m))
    unfolding all_payments
    settles_account e =
        let d = did sizes.transfers (omega arith) in
        let t = turns sizes.accounts sizes.transfers m in
        let low : sizes.transfers / sizes.accounts ≤ sizes.transfers = div-le_self sizes.transfers sizes.accounts in
        let few : t ≤ sizes.transfers / sizes.accounts + 1 = few_turns sizes.accounts sizes.transfers m in
        record {
          accepted = subst IsSome (sym d.effects) refl;
          funded = covered (total_by p (ts sizes.transfers)).debits t (sizes.transfers / sizes.accounts) balance d.debits few e;
          fits = fitting balance (total_by p (ts sizes.transfers)).debits (total_by p (ts sizes.transfers)).credits (sizes.transfers / sizes.accounts) sizes.transfers e low w.few d.credits;
        }
      where
        covered : (x t q b : ℕ) → x ≤ 10 * t → t ≤ q + 1 → b ≡ 10 * (q + 1) → x ≤ b
        covered x t q b f g e = omega (arith, f, g, e)

        fitting : (b x c q n : ℕ) → b ≡ 10 * (q + 1) → q ≤ n → n ≤ 100000 → c ≤ 10 * n → (b - x) + c ≤ max_amount
        fitting b x c q n e f g k = omega (arith, e, f, g, k)
