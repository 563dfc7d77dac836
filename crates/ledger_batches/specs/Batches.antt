-- What contracts see of batches.
use Rattle.std.specs.Prelude.{ℕ, List, Option}
use Rattle.ledger_chain.specs.Chain.{ChainView, LinkView}
use Rattle.ledger_chain.specs.Writes.{Write}

-- a batch that takes writes: its chain, its own writes, each key once, and the metadata of its commit
pub record BatchView (Op : Type 0) : Type 0 where
  pub chain : ChainView Op
  pub writes : List Write
  pub metadata : Option (List ℕ)

-- a batch with the keys that it has read for slots
pub record StagedView (Op : Type 0) : Type 0 where
  pub batch : BatchView Op
  pub keys : List (List ℕ)

-- what a sealed batch appends behind its chain
pub record SealedView (Op : Type 0) : Type 0 where
  pub chain : ChainView Op
  pub own : LinkView Op

-- a sealed batch: this, and the root that the database shows once the batch is applied
pub record MerkleizedView (Op : Type 0) : Type 0 where
  pub chain : ChainView Op
  pub own : LinkView Op
  pub root : List ℕ

-- the batch without that root
abbrev pub body_of : {Op : Type 0} → MerkleizedView Op → SealedView Op
body_of batch = record { chain = batch.chain; own = batch.own }
