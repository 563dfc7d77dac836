-- How a served log grows.
use Rattle.std.specs.Prelude.{◌≡◌, ℕ, ◌+◌, ◌%◌, ◌^◌, Bool, true, false, List, [], ◌∷◌, ◌++◌, map, Option, Some, None}
use Rattle.std.specs.List.{range_with_len}
use Rattle.ledger_log.specs.View.{LogView}
use Rattle.serve_parts.specs.Tests.{test_batch}
use Rattle.sync_shared.specs.Replies.{Belongs}
use Rattle.sync_shared.specs.declared.event.Event.{Event}
use Rattle.sync_shared.specs.declared.event.Event.TheVariants.{Batch}
use Rattle.sync_shared.specs.declared.event.EventOutcome.{EventOutcome}
use Rattle.turn_lock.specs.History.{calls}
use Rattle.turn_lock.specs.Passes.{Origin, PassValue}
use Rattle.ledger_serve.specs.declared.growing.Growth.{Growth}

-- how many turns a pass has
abbrev pub turns : ℕ
turns = 4294967295

-- the seed of the batch for the connection of this number
abbrev pub seed_for : ℕ → ℕ → ℕ
seed_for seed number = (seed + (number + 1)) % 2 ^ 64

-- the first of some passes is set aside, or none
abbrev pub SetsAside : {P : Type 0} → Bool → List P → Option P → List P → Type 0
SetsAside true before (Some first) now = before ≡ first ∷ now
SetsAside true before None now = ⊥
SetsAside false before own now = (own ≡ None) × (now ≡ before)

module _ {Op : Type 0} where
  -- one call more of a pass: the batch
  pub record Appended (ops : List Op) (p q : PassValue (LogView Op) (Event Op) EventOutcome) : Type 0 where
    pub from : q.from ≡ p.from
    pub between : q.within ≡ false
    pub used : q.used ≡ p.used + 1
    pub turns : q.turns ≡ p.turns
    pub own : calls q.caller q.seen ≡ calls p.caller p.seen ++ Batch ops ∷ []

module _ {Op : Type 0} (floor_of : Op → Option ℕ) (commit_of : Option (List ℕ) → ℕ → Op) (write : List ℕ → List ℕ → Op) (commit : ℕ → ℕ → Bool → Op) where
  -- the batch before the session of this number
  abbrev pub batch_for : Growth → ℕ → Event Op
  batch_for growth number = Batch (test_batch floor_of commit_of write commit growth.count (seed_for growth.seed number) growth.floor)

  -- the calls of a pass are the batches of the first n connections, in order
  pub record Grown (from : Origin (LogView Op)) (growth : Growth) (n : ℕ) (p : PassValue (LogView Op) (Event Op) EventOutcome) : Type 0 where
    pub belongs : Belongs from p
    pub used : p.used ≡ n
    pub turns : p.turns ≡ turns
    pub own : calls p.caller p.seen ≡ map (batch_for growth) (range_with_len 0 n)
