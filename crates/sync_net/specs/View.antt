-- A request machine as contracts see it.
use Rattle.std.specs.Prelude.{ℕ, Bool, List, Option}
use Rattle.sync_net.specs.declared.ask.Pending.{Pending}

-- the next number, where there is one; the asks that wait for an answer, in order; the bytes not handled; whether it is closed
pub record MachineView : Type 0 where
  pub next : Option ℕ
  pub pending : List Pending
  pub held : List ℕ
  pub closed : Bool
