-- Bytes that a link gave, taken in or not.
use Rattle.std.proofs.Common.{◌≡◌, ◌<◌, ◌≤◌, ℕ, List, length, take, Option, Result, Ok, Err, arith}
use Rattle.std.specs.Prelude.{option_map}
use Rattle.std.proofs.lemmas.List.{length-take-le}
use Rattle.sync_net.specs.View.{MachineView}
use Rattle.sync_net.specs.Wire.{Wire, with_given}
use Rattle.sync_client.specs.declared.fault.SyncFault.{SyncFault}
use Rattle.sync_client.specs.declared.fault.SyncFault.TheVariants as faults
use Rattle.sync_client.specs.Turns.{Receives, TakesIn}
use Rattle.sync_client.proofs.Stepping.{Since-given}

module _ (m n : MachineView) (buffer : List ℕ) (count : ℕ) (before now : Option Wire) (first risen : ℕ) (some : 0 < count) (within : count ≤ length buffer) (most : length buffer ≤ 4096) (told : now ≡ option_map (with_given count buffer) before) (le : first ≤ risen) where
  size : length (take count buffer) ≡ count
  size = length-take-le count buffer within

  pub received : (result : Result (Unit {0}) SyncFault) → TakesIn result m n (take count buffer) → Receives result m n before now first risen
  received (Ok x) h = (take count buffer, (let s = size in omega arith), h, Since-given before now buffer count some told, le, (let s = size in omega arith))
  received (Err faults.OutOfMemory) h = (take count buffer, h, Since-given before now buffer count some told, le, (let s = size in omega arith))
  received (Err faults.Network) h = absurd h
  received (Err faults.RequestChannelClosed) h = absurd h
  received (Err faults.InvalidResponse) h = absurd h
  received (Err (faults.UnexpectedResponse number)) h = absurd h
  received (Err (faults.Server code text)) h = absurd h
  received (Err (faults.InvalidProof number)) h = absurd h
  received (Err faults.TooManyStrays) h = absurd h
  received (Err (faults.StaleUpdate start end)) h = absurd h
  received (Err (faults.WrongRoot found)) h = absurd h
  received (Err faults.Closed) h = absurd h
  received (Err faults.Exhausted) h = absurd h
