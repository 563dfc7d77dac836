-- Turns that go round: whose turn it is, and how often it was someone's.
use Rattle.std.proofs.Common.{◌≡◌, ℕ, ◌+◌, ◌*◌, ◌/◌, ◌%◌, ◌<◌, ◌≤◌, ◌⊎◌, inl, inr, Bool, true, false, cond, nat_lt, sym, ap, ◌∙◌, arith, rules}
use Rattle.std.proofs.Math.Nat.{div-add-mod, mod-lt, zero-div, zero-mod}
use Rattle.std.proofs.lemmas.Bool.{cases_order}
use Rattle.std.proofs.lemmas.Nat.{div-mul-add, mod-mul-add}
use borrow.Author.Tests.{tests}

-- quotient and rest, from a sum
parts : (n a q r : ℕ) → r < a → n ≡ q * a + r → (n / a ≡ q) × (n % a ≡ r)
parts n a q r l e = (ap (λ m. m / a) e ∙ div-mul-add q a r l, ap (λ m. m % a) e ∙ mod-mul-add q a r l)

pub lt_yes : (m n : ℕ) → m < n → nat_lt m n ≡ true
lt_yes m n h = search (rules, tests)

lt_no : (m n : ℕ) → n ≤ m → nat_lt m n ≡ false
lt_no m n h = search (rules, tests)

-- how many of the first n turns among a were m's
abbrev pub turns : ℕ → ℕ → ℕ → ℕ
turns a n m = n / a + cond (nat_lt m (n % a)) 1 0

abbrev turns_by : ℕ → ℕ → ℕ → ℕ
turns_by q r m = q + cond (nat_lt m r) 1 0

turns_before : (q r m : ℕ) → m < r → turns_by q r m ≡ q + 1
turns_before q r m l = ap (λ b. q + cond b 1 0) (lt_yes m r l)

turns_behind : (q r m : ℕ) → r ≤ m → turns_by q r m ≡ q
turns_behind q r m l = ap (λ b. q + cond b 1 0) (lt_no m r l) ∙ omega arith

-- the next turn, in one round or at its end
next_by : (n a q r : ℕ) → r < a → n ≡ q * a + r → (m : ℕ) → m < a → turns a (n + 1) m ≡ cond (nat_lt m (r + 1)) (q + 1) q
next_by n a q r l e m h = by (cases_order (r + 1) a)
  where
    inner : r + 1 < a → turns a (n + 1) m ≡ cond (nat_lt m (r + 1)) (q + 1) q
    inner k =
        let p = parts (n + 1) a q (r + 1) k (omega (arith, e)) in
        ap (λ x. x + cond (nat_lt m ((n + 1) % a)) 1 0) p.0 ∙ ap (λ x. turns_by q x m) p.1 ∙ either (cases_order m (r + 1))
      where
        either : (m ≡ r + 1) ⊎ ((m < r + 1) ⊎ (r + 1 < m)) → turns_by q (r + 1) m ≡ cond (nat_lt m (r + 1)) (q + 1) q
        either (inl s) = turns_behind q (r + 1) m (omega (arith, s)) ∙ sym (ap (λ b. cond b (q + 1) q) (lt_no m (r + 1) (omega (arith, s))))
        either (inr (inl s)) = turns_before q (r + 1) m s ∙ sym (ap (λ b. cond b (q + 1) q) (lt_yes m (r + 1) s))
        either (inr (inr s)) = turns_behind q (r + 1) m (omega (arith, s)) ∙ sym (ap (λ b. cond b (q + 1) q) (lt_no m (r + 1) (omega (arith, s))))

    round : r + 1 ≡ a → turns a (n + 1) m ≡ cond (nat_lt m (r + 1)) (q + 1) q
    round k =
        let whole : n + 1 ≡ (q + 1) * a + 0 = rounded n q r a k e in
        let p = parts (n + 1) a (q + 1) 0 (omega (arith, k)) whole in
        ap (λ x. x + cond (nat_lt m ((n + 1) % a)) 1 0) p.0 ∙ ap (λ x. turns_by (q + 1) x m) p.1 ∙ turns_behind (q + 1) 0 m (omega arith)
        ∙ sym (ap (λ b. cond b (q + 1) q) (lt_yes m (r + 1) (omega (arith, h, k))))
      where
        rounded : (n q r a : ℕ) → r + 1 ≡ a → n ≡ q * a + r → n + 1 ≡ (q + 1) * a + 0
        rounded n q r a k e = omega (arith, k, e, distributed q a)
          where
            distributed : (q a : ℕ) → (q + 1) * a ≡ q * a + a
            distributed q a = grind arith

    by : (r + 1 ≡ a) ⊎ ((r + 1 < a) ⊎ (a < r + 1)) → turns a (n + 1) m ≡ cond (nat_lt m (r + 1)) (q + 1) q
    by (inl k) = round k
    by (inr (inl k)) = inner k
    by (inr (inr k)) = absurd (omega (arith, k, l))

module _ (a n m : ℕ) (some : 0 < a) (h : m < a) where
  sum : n ≡ n / a * a + n % a
  sum = omega (arith, sym (div-add-mod n a), swapped a (n / a))
    where
      swapped : (x y : ℕ) → x * y ≡ y * x
      swapped x y = grind arith

  stepped : turns a (n + 1) m ≡ cond (nat_lt m (n % a + 1)) (n / a + 1) (n / a)
  stepped = next_by n a (n / a) (n % a) (mod-lt n some) sum m h

  -- a turn of m's
  pub turn_taken : m ≡ n % a → turns a (n + 1) m ≡ turns a n m + 1
  turn_taken e =
      let before = turns_behind (n / a) (n % a) m (omega (arith, e)) in
      stepped ∙ ap (λ b. cond b (n / a + 1) (n / a)) (lt_yes m (n % a + 1) (omega (arith, e))) ∙ ap (λ x. x + 1) (sym before)

  pub turn_is : m ≡ n % a → turns a n m ≡ n / a
  turn_is e = turns_behind (n / a) (n % a) m (omega (arith, e))

  -- another's turn
  pub turn_passed : (m ≡ n % a → ⊥) → turns a (n + 1) m ≡ turns a n m
  turn_passed other = by (cases_order m (n % a))
    where
      by : (m ≡ n % a) ⊎ ((m < n % a) ⊎ (n % a < m)) → turns a (n + 1) m ≡ turns a n m
      by (inl e) = absurd (other e)
      by (inr (inl l)) = stepped ∙ ap (λ b. cond b (n / a + 1) (n / a)) (lt_yes m (n % a + 1) (omega (arith, l))) ∙ sym (turns_before (n / a) (n % a) m l)
      by (inr (inr l)) = stepped ∙ ap (λ b. cond b (n / a + 1) (n / a)) (lt_no m (n % a + 1) (omega (arith, l))) ∙ sym (turns_behind (n / a) (n % a) m (omega (arith, l)))

-- no one has more than one turn beyond the whole rounds
pub few_turns : (a n m : ℕ) → turns a n m ≤ n / a + 1
few_turns a n m = by (nat_lt m (n % a))
  where
    by : (b : Bool) → n / a + cond b 1 0 ≤ n / a + 1
    by true = omega arith
    by false = omega arith

pub no_turns : (a m : ℕ) → turns a 0 m ≡ 0
no_turns a m = ap (λ x. x + cond (nat_lt m (0 % a)) 1 0) (zero-div a) ∙ ap (λ x. turns_by 0 x m) (zero-mod a) ∙ turns_behind 0 0 m (omega arith)
