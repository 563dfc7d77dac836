-- The chain of a batch: the state that it stands on, and behind it the ancestors, each with the state after it.
use Rattle.std.specs.Prelude.{ℕ, ◌+◌, ◌&&◌, Bool, List, [], ◌∷◌, ◌++◌, Option, Some, nat_eq, bytes_eq, position, drop, flat_map, filter_map, option_map, unwrap_or, if◌then◌else◌}
use Rattle.std.specs.Option.{option_map_or}
use Rattle.ledger_log.specs.View.{LogView, log_size, log_root, value_at}
use Rattle.ledger_chain.specs.Writes.{Write, last_write}
use Rattle.ledger_chain.specs.declared.state.State.{State}

-- a batch that is sealed: its operations, and the state of the database after them
pub record LinkView (Op : Type 0) : Type 0 where
  pub ops : List Op
  pub after : State

-- the base, and the ancestors in order
pub record ChainView (Op : Type 0) : Type 0 where
  pub base : State
  pub links : List (LinkView Op)

-- equal in size and root
abbrev pub same_state : State → State → Bool
same_state a b = nat_eq a.size b.size && bytes_eq a.root b.root

module _ {Op : Type 0} where
  -- the state of a log
  abbrev pub state_of : (List ℕ → List ℕ) → (Op → List ℕ) → LogView Op → State
  state_of hash spelling log = record { size = log_size log; root = log_root hash spelling log }

  -- how many of the ancestors a database in this state has, the fewest where there are several answers; None where the state is none of the chain
  abbrev pub place : ChainView Op → State → Option ℕ
  place chain state = if same_state state chain.base then Some 0 else option_map (λ i. i + 1) (position (λ link. same_state state link.after) chain.links)

  -- the ancestors that a database in this state lacks
  abbrev pub missing : ChainView Op → State → List (LinkView Op)
  missing chain state = option_map_or (λ n. drop n chain.links) (place chain state) []

  -- the chain with one ancestor more
  abbrev pub with_link : ChainView Op → LinkView Op → ChainView Op
  with_link chain link = record { base = chain.base; links = chain.links ++ link ∷ [] }

  -- the operations of these ancestors, one behind the other
  abbrev pub ops_of : List (LinkView Op) → List Op
  ops_of links = flat_map (λ link. link.ops) links

  module _ (write_of : Op → Option Write) where
    -- the value of a key for a batch over this chain: what the chain's newest write of it leaves, else the database's value
    abbrev pub view : ChainView Op → LogView Op → List ℕ → Option (List ℕ)
    view chain log key = unwrap_or (last_write key (filter_map write_of (ops_of chain.links))) (value_at write_of key log.ops)

    -- the value that the batch reads: its own writes come before those of the chain
    abbrev pub read : ChainView Op → List Write → LogView Op → List ℕ → Option (List ℕ)
    read chain own log key = unwrap_or (last_write key own) (view chain log key)
