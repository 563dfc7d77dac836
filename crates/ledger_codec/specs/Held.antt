-- A framer as its limit and the bytes that it holds.
use Rattle.std.specs.Prelude.{ℕ, List}

-- bytes of a stream that aren't taken yet
pub record Held : Type 0 where
  pub limit : ℕ
  pub bytes : List ℕ
