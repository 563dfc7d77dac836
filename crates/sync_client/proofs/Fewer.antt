-- A step never adds answers on later targets.
use Rattle.std.proofs.Common.{◌≡◌, ◌≤◌, Bool, true, false, List, ◌++◌, length, Option, Ok, Err, ap, arith, length-append}
use Rattle.ledger_log.specs.declared.target.Target.{Target}
use Rattle.sync_net.specs.View.{MachineView}
use Rattle.sync_client.specs.declared.fault.SyncFault.{SyncFault}
use Rattle.sync_client.specs.declared.fault.SyncFault.TheVariants as faults
use Rattle.sync_client.specs.Collected.{Collected}
use Rattle.sync_client.specs.Session.{Rules, Offence, refused_in}
use Rattle.sync_client.specs.Seen.{Beside, seen}
use Rattle.sync_client.specs.Steps.{OffendsIn, TakesNext}
use Rattle.sync_client.proofs.Rising.{taking_keeps}

shorter : (before took left : List (Option Target)) → before ≡ took ++ left → length left ≤ length before
shorter before took left e = omega (arith, ap length e, length-append took left)

pub fewer_taken : {Op : Type 0} (rules : Rules Op) (m n : MachineView) (c d : Collected Op) (b e : Beside) → TakesNext (Ok true) rules m n c d b e → length e.updates ≤ length b.updates
fewer_taken rules m n c d b e h =
    let k = (taking_keeps rules (seen m c b) (seen n d e) h.0 h.2).2 in
    shorter b.updates k.0 e.updates k.1

fewer_in : {Op : Type 0} (rules : Rules Op) (offence : Offence) (m n : MachineView) (c : Collected Op) (b e : Beside) (closed : Bool) → OffendsIn rules offence m n c b e closed → length e.updates ≤ length b.updates
fewer_in rules offence m n c b e closed h = shorter b.updates (refused_in offence) e.updates h.6

same_many : (b e : Beside) → e.updates ≡ b.updates → length e.updates ≤ length b.updates
same_many b e f = omega (arith, ap length f)

pub fewer_stopped : {Op : Type 0} (rules : Rules Op) (m n : MachineView) (c d : Collected Op) (b e : Beside) (fault : SyncFault) → TakesNext (Err fault) rules m n c d b e → length e.updates ≤ length b.updates
fewer_stopped rules m n c d b e faults.InvalidResponse h = fewer_in rules _ m n c b e true h
fewer_stopped rules m n c d b e (faults.UnexpectedResponse number) h = fewer_in rules _ m n c b e true h
fewer_stopped rules m n c d b e (faults.Server code text) h = fewer_in rules _ m n c b e true h
fewer_stopped rules m n c d b e (faults.InvalidProof number) h = fewer_in rules _ m n c b e false h
fewer_stopped rules m n c d b e faults.TooManyStrays h = fewer_in rules _ m n c b e false h
fewer_stopped rules m n c d b e (faults.StaleUpdate start end) h = fewer_in rules _ m n c b e false h.3
fewer_stopped rules m n c d b e faults.RequestChannelClosed h = same_many b e h.4
fewer_stopped rules m n c d b e faults.Closed h = same_many b e h.2
fewer_stopped rules m n c d b e faults.OutOfMemory h = same_many b e h.3
fewer_stopped rules m n c d b e faults.Network h = absurd h
fewer_stopped rules m n c d b e (faults.WrongRoot found) h = absurd h
fewer_stopped rules m n c d b e faults.Exhausted h = absurd h
