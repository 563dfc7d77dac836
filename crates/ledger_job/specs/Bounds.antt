-- How a log is fetched, and within which bounds.
use Rattle.std.specs.Prelude.{ℕ, ◌&&◌, Bool, nat_le, nat_lt}

-- the operations of a request, and the requests that may be out at once
pub record LimitsView : Type 0 where
  pub batch : ℕ
  pub outstanding : ℕ

-- a batch above 0, and from 1 to 64 requests
abbrev pub in_range : ℕ → ℕ → Bool
in_range batch outstanding = nat_lt 0 batch && (nat_lt 0 outstanding && nat_le outstanding 64)
