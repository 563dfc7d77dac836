-- What contracts see of batches of sets.
use Rattle.std.specs.Prelude.{ℕ, List, [], ◌∷◌, ◌++◌, Option, Some, None, filter_map}
use Rattle.ledger_log.specs.declared.immutable.ImmutableOp.{ImmutableOp}
use Rattle.ledger_log.specs.declared.immutable.ImmutableOp.TheVariants.{Set, Commit}
use Rattle.ledger_chain.specs.Chain.{ChainView, LinkView}
use Rattle.ledger_chain.specs.Writes.{Write}

-- a batch that takes sets: its chain, its own sets, each key once, and the metadata and floor of its commit
pub record SetBatchView : Type 0 where
  pub chain : ChainView ImmutableOp
  pub writes : List Write
  pub metadata : Option (List ℕ)
  pub floor : ℕ

-- a sealed batch: its chain, and what it appends behind it
pub record SealedSetsView : Type 0 where
  pub chain : ChainView ImmutableOp
  pub own : LinkView ImmutableOp

-- the operation that gives a key its value
abbrev pub set_of : Write → Option ImmutableOp
set_of (key, Some value) = Some (Set key value)
set_of (key, None) = None

-- what a batch appends: its sets, in the order of the keys' first ones, and the commit
abbrev pub batch_ops : SetBatchView → List ImmutableOp
batch_ops batch = filter_map set_of batch.writes ++ Commit batch.metadata batch.floor ∷ []
