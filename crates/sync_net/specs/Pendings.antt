-- The numbers of pending asks.
use Rattle.std.specs.Prelude.{◌≡◌, ◌≤◌, ℕ, List, Option, Some, None, Result, Ok, Err, ◌==◌}
use Rattle.std.specs.List.{count_by}
use Rattle.sync_net.specs.declared.ask.Pending.{Pending}
use Rattle.sync_net.specs.declared.ask.Answer.{Answer}
use Rattle.sync_net.specs.declared.ask.Answer.TheVariants as answers
use Rattle.sync_net.specs.declared.fault.MachineFault.{MachineFault}
use Rattle.sync_net.specs.Asks.{pending_in}

-- how many pending asks have this number
abbrev pub named : ℕ → List Pending → ℕ
named n ps = count_by (λ p. p.number == n) ps

-- the numbers of pending asks are distinct, and were drawn before the next one
pub record AreNumbered (next : Option ℕ) (pending : List Pending) : Type 0 where
  pub once : (n : ℕ) → named n pending ≤ 1
  pub drawn : (m n : ℕ) → next ≡ Some m → m ≤ n → named n pending ≡ 0

-- what every machine is
pub record IsReady (most : ℕ) (next : Option ℕ) (pending : List Pending) : Type 0 where
  pub limit : most ≡ 10485760
  pub numbered : AreNumbered next pending

-- nothing is pending under an answer's number
abbrev pub IsGone : {Op : Type 0} → Answer Op → List Pending → Type 0
IsGone (answers.Reply number ask message) pending = pending_in number pending ≡ None
IsGone (answers.Stray number) pending = pending_in number pending ≡ None

-- distinct numbers stay so, and nothing is pending under an answer's number
abbrev pub Keeps : {Op : Type 0} → Option ℕ → Result (Answer Op) MachineFault → List Pending → Type 0
Keeps next (Ok answer) pending = AreNumbered next pending × IsGone answer pending
Keeps next (Err fault) pending = AreNumbered next pending
