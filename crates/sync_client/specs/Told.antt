-- What a collector answers.
use Rattle.std.specs.Prelude.{◌≡◌, ◌≢◌, ℕ, true, false, List, map, Option, Some, None, Result, Ok, Err}
use Rattle.std.specs.declared.ops.Range.{Range}
use Rattle.ledger_codec.specs.declared.memory.OutOfMemory.{OutOfMemory}
use Rattle.ledger_log.specs.declared.target.Target.{Target}
use Rattle.ledger_merkle.specs.Tree.{part_root}
use Rattle.ledger_merkle.specs.declared.proof.Part.{Part as Fetched}
use Rattle.sync_net.specs.declared.response.GetOperationsResponse.{GetOperationsResponse}
use Rattle.sync_client.specs.declared.fault.CollectFault.{CollectFault}
use Rattle.sync_client.specs.declared.fault.CollectFault.TheVariants as faults
use Rattle.sync_client.specs.Asking.{Judge, good}
use Rattle.sync_client.specs.Collected.{Collected, ask_next, accepted, target_of, replanned}
use Rattle.sync_client.specs.Parts.{Assembles}
use Rattle.sync_client.specs.Updates.{is_stale, with_target}

-- the next range is asked; none where enough are pending or all is asked; a refusal changes nothing
abbrev pub Asks : {Op : Type 0} → Result (Option (Range ℕ)) OutOfMemory → Collected Op → Collected Op → Type 0
Asks (Ok (Some r)) old now = ask_next old ≡ Some (r, now)
Asks (Ok None) old now = (ask_next old ≡ None) × (now ≡ old)
Asks (Err e) old now = now ≡ old

-- an answer that is good by its ask's target is kept, another is refused under its number; a refusal changes nothing
abbrev pub Accepts : {Op : Type 0} → Result (Unit {0}) CollectFault → (Target → Judge Op) → Range ℕ → ℕ → GetOperationsResponse Op → Collected Op → Collected Op → Type 0
Accepts (Ok x) proved r number m old now = (good (proved (target_of old r)) old.plan.target.start r m ≡ true) × (now ≡ accepted r m old)
Accepts (Err (faults.InvalidProof n)) proved r number m old now = (good (proved (target_of old r)) old.plan.target.start r m ≡ false) × (n ≡ number) × (now ≡ old)
Accepts (Err faults.OutOfMemory) proved r number m old now = (good (proved (target_of old r)) old.plan.target.start r m ≡ true) × (now ≡ old)
Accepts (Err (faults.WrongRoot found)) proved r number m old now = ⊥
Accepts (Err (faults.StaleUpdate start end)) proved r number m old now = ⊥

-- a later target is taken, or refused with its own places where it is stale; a refusal changes nothing
abbrev pub Retargets : {Op : Type 0} → Result (Unit {0}) CollectFault → Target → Collected Op → Collected Op → Type 0
Retargets (Ok x) later old now = (is_stale old.plan later ≡ false) × (now ≡ replanned (with_target old.plan later) old)
Retargets (Err (faults.StaleUpdate start end)) later old now = (is_stale old.plan later ≡ true) × (start ≡ later.start) × (end ≡ later.end) × (now ≡ old)
Retargets (Err faults.OutOfMemory) later old now = ⊥
Retargets (Err (faults.InvalidProof n)) later old now = ⊥
Retargets (Err (faults.WrongRoot found)) later old now = ⊥

-- the root of the operations behind the pinned nodes
abbrev pub root_of : {Op : Type 0} → (List ℕ → List ℕ) → (Op → List ℕ) → Collected Op → List Op → List ℕ
root_of hash spelling v ops = part_root hash v.pinned v.plan.target.start (map spelling ops)

-- the kept operations are a part, which has the current target's root; else its root is told
abbrev pub Finishes : {Op : Type 0} → Result (Fetched Op) CollectFault → (List ℕ → List ℕ) → (Op → List ℕ) → Collected Op → Type 0
Finishes (Ok part) hash spelling v = (part.start ≡ v.plan.target.start) × (part.pinned ≡ v.pinned) × Assembles v.plan.target.start v.kept part.ops × (root_of hash spelling v part.ops ≡ v.plan.target.root)
Finishes {Op} (Err (faults.WrongRoot found)) hash spelling v = (ops : List Op) × Assembles v.plan.target.start v.kept ops × (found ≡ root_of hash spelling v ops) × (found ≢ v.plan.target.root)
Finishes (Err (faults.InvalidProof n)) hash spelling v = ⊥
Finishes (Err (faults.StaleUpdate start end)) hash spelling v = ⊥
Finishes (Err faults.OutOfMemory) hash spelling v = Unit {0}
