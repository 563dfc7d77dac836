-- How the accounts and payments of a generated job are made, one by one.
use Rattle.std.proofs.Common.{◌≡◌, ℕ, ◌+◌, ◌^◌, ◌<◌, ◌≤◌, List, [], ◌∷◌, ◌++◌, length, map, sym, ap, ◌∙◌, arith, zero-add}
use Rattle.std.specs.Prelude.{codes, slice_index_or}
use Rattle.std.specs.Fmt.{decimal}
use Rattle.std.specs.List.{range_with_len}
use Rattle.std.proofs.lemmas.Fmt.{length-decimal-le}
use Rattle.std.proofs.lemmas.List.FromFn.{map-range_with_len_more, length-map-range_with_len, get_or-map-range_with_len}
use Rattle.ledger_job.specs.declared.block.Block.{Block}
use Rattle.ledger_job.specs.declared.block.Block.TheVariants.{Body}
use Rattle.ledger_job.specs.declared.line.Open.{Open}
use Rattle.ledger_job.specs.declared.payment.Payment.{Payment}
use Rattle.ledger_generate.specs.Generated.{key_at, open_at, payment_at, opens, all_payments, generated}
use Rattle.ledger_generate.specs.Sizes.{SizesView, opening_balance}

-- a name is short
pub name_short : (n : ℕ) → n < 2 ^ 64 → length (codes "g" ++ decimal n) ≤ 32
name_short n h = let few : length (decimal n) ≤ 20 = length-decimal-le 20 n (omega arith) (omega (arith, h)) h in omega (arith, few)

module _ (sizes : SizesView) where
  -- one account more
  pub one_open_more : (n : ℕ) (before after : List Open) (key : List ℕ) (balance : ℕ) → before ≡ map (open_at sizes) (range_with_len 0 n) → key ≡ key_at n → balance ≡ opening_balance sizes
      → after ≡ before ++ (record { key = key; balance = balance; nonce = 0 }) ∷ [] → after ≡ map (open_at sizes) (range_with_len 0 (n + 1))
  one_open_more n before after key balance b k e a =
      a ∙ (λ i. b i ++ (record { key = k i; balance = e i; nonce = 0 }) ∷ []) ∙ sym (map-range_with_len_more (open_at sizes) 0 n n (zero-add n))

  -- one payment more
  pub one_payment_more : (n : ℕ) (before after : List Payment) (p : Payment) → before ≡ map (payment_at sizes) (range_with_len 0 n) → p ≡ payment_at sizes n → after ≡ before ++ p ∷ []
      → after ≡ map (payment_at sizes) (range_with_len 0 (n + 1))
  one_payment_more n before after p b e a = a ∙ (λ i. b i ++ e i ∷ []) ∙ sym (map-range_with_len_more (payment_at sizes) 0 n n (zero-add n))

  -- each number below that of the accounts is one's
  pub within_opens : (accounts : List Open) (n : ℕ) → accounts ≡ opens sizes → n < sizes.accounts → n < length accounts
  unfolding opens
  within_opens accounts n e h = omega (arith, ap length e ∙ length-map-range_with_len (open_at sizes) 0 sizes.accounts, h)

  pub key_found : (accounts : List Open) (n : ℕ) (d : Open) → accounts ≡ opens sizes → n < sizes.accounts → (slice_index_or accounts n d).key ≡ key_at n
  unfolding opens
  key_found accounts n d e h =
      ap (λ xs. (slice_index_or xs n d).key) e ∙ ap (λ (o : Open). o.key) (get_or-map-range_with_len (open_at sizes) 0 sizes.accounts n n d h (zero-add n))

  -- the blocks are one body
  pub one_body : (result items before : List (Block Payment)) (list batch : List Payment) → result ≡ items → items ≡ before ++ Body list ∷ [] → before ≡ [] → list ≡ batch → batch ≡ all_payments sizes
      → (generated sizes).blocks ≡ result
  one_body result items before list batch p q r s t = sym (p ∙ q ∙ ap (λ b. b ++ Body list ∷ []) r ∙ ap (λ l. Body l ∷ []) (s ∙ t))
