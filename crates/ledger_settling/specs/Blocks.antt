-- What settling blocks of transfers makes of a list of operations.
use Rattle.std.specs.Prelude.{◌≡◌, ℕ, ◌+◌, ◌^◌, ◌<◌, ◌≤◌, ◌++◌, Bool, not, List, [], ◌∷◌, length, map, filter, filter_map, take, slice_get, Option, None, Some, IsSome, unwrap_or, option_map, option_and_then, bytes_eq, ⊤, ◌⊎◌}
use Rattle.std.specs.List.{flat_map}
use Rattle.ledger_log.specs.Any.{any_floor, any_write, any_commit}
use Rattle.ledger_log.specs.View.{LogView, value_at}
use Rattle.ledger_log.specs.declared.any.AnyOp.{AnyOp}
use Rattle.ledger_log.specs.declared.any.AnyOp.TheVariants.{Update, Delete, CommitFloor}
use Rattle.ledger_raising.specs.Raised.{raised}
use Rattle.ledger_transfers.specs.Rules.{Rules}
use Rattle.ledger_transfers.specs.Touches.{touches, total_of, IsSumOffence, IsWithinSums}
use Rattle.ledger_transfers.specs.Settling.{opened, after, slot_of, Settled, HasFirstOffence}
use Rattle.ledger_transfers.specs.Greedy.{AreGreedy, taken}
use Rattle.ledger_transfers.specs.declared.change.Change.{Change}
use Rattle.ledger_transfers.specs.declared.fault.Rejection.{Rejection}
use Rattle.ledger_transfers.specs.declared.slot.Slot.{Slot}
use Rattle.ledger_transfers.specs.declared.slot.Slot.TheVariants.{Keep, Put, Delete as Remove}
use Rattle.ledger_managed.specs.Values.{Values}
use Rattle.ledger_job.specs.declared.block.Block.{Block}
use Rattle.ledger_job.specs.declared.block.Block.TheVariants.{Body, Rounds}
use Rattle.ledger_job.specs.declared.block.BlockVerdicts.{BlockVerdicts}
use Rattle.ledger_job.specs.declared.block.BlockVerdicts.TheVariants.{Body as NoVerdicts, Rounds as Verdicts}

-- what transfers and accounts mean
pub record Meaning (T A E : Type 0) : Type 0 where
  pub changes_of : T → List (List ℕ × Change E)
  pub same : A → A → Bool
  pub rules : Rules A E
  pub values : Values A

abbrev pub meaning : {T A E : Type 0} → (T → List (List ℕ × Change E)) → (A → A → Bool) → Rules A E → Values A → Meaning T A E
meaning changes_of same rules values = record { changes_of = changes_of; same = same; rules = rules; values = values }

-- the items, each at its first place
abbrev pub firsts : {K : Type 0} → (K → K → Bool) → List K → List K
firsts eq [] = []
firsts eq (k ∷ ks) = k ∷ filter (λ q. not (eq k q)) (firsts eq ks)

-- these operations, the first at `start`, as a log
abbrev pub log_from : ℕ → List AnyOp → LogView AnyOp
log_from start ops = record { front = start; pinned = []; ops = ops }

module _ {A : Type 0} (values : Values A) where
  -- the account of a key after these operations: the one that the value of its last Update spells, if no Delete is later
  abbrev pub account_at : List AnyOp → List ℕ → Option A
  account_at ops key = option_and_then values.read (value_at any_write key ops)

  -- the value of an Update is an account
  abbrev pub IsReadable : AnyOp → Type 0
  IsReadable (Update key value) = IsSome (values.read value)
  IsReadable (Delete key) = ⊤
  IsReadable (CommitFloor metadata floor) = ⊤

  -- what a slot writes
  abbrev pub written : List ℕ → Slot A → Option AnyOp
  written key Keep = None
  written key Remove = Some (Delete key)
  written key (Put a) = Some (Update key (values.value_of a))

module _ {A E : Type 0} (same : A → A → Bool) (rules : Rules A E) (values : Values A) where
  -- what becomes of a key's account
  abbrev pub slot_at : List AnyOp → List (List ℕ × Change E) → List ℕ → Slot A
  slot_at ops ts key =
      let opens : A = opened rules (account_at values ops key) in
      unwrap_or (option_map (slot_of same rules opens) (after rules opens (total_of bytes_eq ts key))) Keep

  -- one operation per key whose account changes, in the order in which the keys are first touched
  abbrev pub changed : List AnyOp → List (List ℕ × Change E) → List AnyOp
  changed ops ts = filter_map (λ key. written values key (slot_at ops ts key)) (firsts bytes_eq (map (λ t. t.0) ts))

  -- what settled touches append: their changes, a copy of an old operation that still counts for each, and a commit whose floor is as high as these allow
  abbrev pub appended : ℕ → List AnyOp → List (List ℕ × Change E) → List AnyOp
  appended start ops ts = raised any_floor any_write any_commit (log_from start ops) (changed ops ts) None

  -- the operations after settled touches
  abbrev pub with_touches : ℕ → List AnyOp → List (List ℕ × Change E) → List AnyOp
  with_touches start ops ts = ops ++ appended start ops ts

module _ {T A E : Type 0} (m : Meaning T A E) where
  -- the account that a key opens with
  abbrev pub opening : List AnyOp → List ℕ → A
  opening ops key = opened m.rules (account_at m.values ops key)

  -- each touched key settles against its opening account
  abbrev pub IsSettled : List AnyOp → List T → Type 0
  IsSettled ops batch = Settled bytes_eq m.rules (opening ops) (touches m.changes_of batch)

  -- a key whose sums are too great, or where no sum is, the first offence of a touched key
  abbrev pub IsOffence : List AnyOp → List T → Rejection (List ℕ) → Type 0
  IsOffence ops batch r =
      let ts = touches m.changes_of batch in
      IsSumOffence bytes_eq ts r ⊎ (IsWithinSums bytes_eq ts × HasFirstOffence bytes_eq m.rules (opening ops) ts r)

  -- the operations after a settled batch
  abbrev pub grown : ℕ → List AnyOp → List T → List AnyOp
  grown start ops batch = with_touches m.same m.rules m.values start ops (touches m.changes_of batch)

-- the lists, one after another
abbrev pub joined : {X : Type 0} → List (List X) → List X
joined xss = flat_map (λ xs. xs) xss

module _ {T : Type 0} where
  -- the batch that a block settles: its body, or the candidates that were taken
  abbrev pub batch_of : Block T → BlockVerdicts → List T
  batch_of (Body batch) verdicts = batch
  batch_of (Rounds rounds) (Verdicts verdicts) = taken (joined rounds) (joined verdicts)
  batch_of (Rounds rounds) NoVerdicts = []

module _ {T A E : Type 0} (m : Meaning T A E) where
  -- a body settles whole; of rounds greedy's candidates are taken, and the verdicts are cut by the rounds
  abbrev pub Settles : List AnyOp → Block T → BlockVerdicts → Type 0
  Settles ops (Body batch) NoVerdicts = IsSettled m ops batch
  Settles ops (Rounds rounds) (Verdicts verdicts) =
      AreGreedy (IsSettled m ops) [] (joined rounds) (joined verdicts) × (map length verdicts ≡ map length rounds)
  Settles ops block verdicts = ⊥

  -- the blocks settle one after another, with these verdicts, and the operations, the first at `start`, grow to `all`
  abbrev pub RunsTo : ℕ → List AnyOp → List (Block T) → List BlockVerdicts → List AnyOp → Type 0
  RunsTo start ops [] [] all = all ≡ ops
  RunsTo start ops (b ∷ bs) (v ∷ vs) all = Settles ops b v × RunsTo start (grown m start ops (batch_of b v)) bs vs all
  RunsTo start ops bs vs all = ⊥

  -- the operations with the blocks' changes alone: without copies, without commits
  abbrev pub with_changes : List AnyOp → List (Block T) → List BlockVerdicts → List AnyOp
  with_changes ops [] vs = ops
  with_changes ops (b ∷ bs) [] = ops
  with_changes ops (b ∷ bs) (v ∷ vs) = with_changes (ops ++ changed m.same m.rules m.values ops (touches m.changes_of (batch_of b v))) bs vs

  -- the blocks before place i settle and keep the log within 2^62, and their operations and verdicts are these
  pub record RunsBefore (start : ℕ) (kept : List AnyOp) (blocks : List (Block T)) (i : ℕ) : Type 0 where
    pub verdicts : List BlockVerdicts
    pub all : List AnyOp
    pub runs : RunsTo start kept (take i blocks) verdicts all
    pub short : start + length all ≤ 2 ^ 62

  -- behind such blocks the one at i is a body, and it doesn't settle, with this offence
  pub record IsRejected (start : ℕ) (kept : List AnyOp) (blocks : List (Block T)) (i : ℕ) (r : Rejection (List ℕ)) : Type 0 where
    pub before : RunsBefore start kept blocks i
    pub batch : List T
    pub at : slice_get blocks i ≡ Some (Body batch)
    pub offence : IsOffence m before.all batch r

  -- behind such blocks the one at i settles, and its operations would make the log too long
  pub record IsFull (start : ℕ) (kept : List AnyOp) (blocks : List (Block T)) (i : ℕ) : Type 0 where
    pub before : RunsBefore start kept blocks i
    pub block : Block T
    pub verdict : BlockVerdicts
    pub at : slice_get blocks i ≡ Some block
    pub settles : Settles before.all block verdict
    pub long : 2 ^ 62 < start + length (grown m start before.all (batch_of block verdict))
