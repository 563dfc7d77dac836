-- How large a generated job is.
use Rattle.std.specs.Prelude.{ℕ, ◌+◌, ◌*◌, ◌/◌, ◌%◌, ◌<◌, ◌≤◌, ◌&&◌, Bool, Option, Some, None, nat_le, if◌then◌else◌}

-- what is added to the numbers of payments, the number of accounts, and that of payments
pub record SizesView : Type 0 where
  pub seed : ℕ
  pub accounts : ℕ
  pub transfers : ℕ

-- as large as a generated job may be
pub record IsWithin (sizes : SizesView) : Type 0 where
  pub seed : sizes.seed < 1000000
  pub least : 2 ≤ sizes.accounts
  pub most : sizes.accounts ≤ 20000
  pub some : 1 ≤ sizes.transfers
  pub few : sizes.transfers ≤ 100000

-- 2 to 20,000 accounts and 1 to 100,000 payments
abbrev pub in_range : ℕ → ℕ → Bool
in_range accounts transfers = nat_le 2 accounts && nat_le accounts 20000 && nat_le 1 transfers && nat_le transfers 100000

-- the sizes with these numbers; of the first its last six digits count
abbrev pub sizes_with : ℕ → ℕ → ℕ → Option SizesView
sizes_with seed accounts transfers = if in_range accounts transfers then Some (record { seed = seed % 1000000; accounts = accounts; transfers = transfers }) else None

-- what each account opens with
abbrev pub opening_balance : SizesView → ℕ
opening_balance sizes = 10 * (sizes.transfers / sizes.accounts + 1)
