-- How a session ends at a fault of its link, and at a refusal of the shared log.
use Rattle.sync_net.specs.declared.link.LinkError.{LinkError}
use Rattle.sync_net.specs.declared.link.LinkError.TheVariants as faults
use Rattle.sync_shared.specs.declared.refusal.ShareRefusal.{ShareRefusal}
use Rattle.sync_shared.specs.declared.refusal.ShareRefusal.TheVariants as refusals
use Rattle.sync_sessions.specs.declared.ending.SessionEnd.{SessionEnd}
use Rattle.sync_sessions.specs.declared.ending.SessionEnd.TheVariants.{Network, PassSpent, OutOfMemory}

-- the link's own fault, or want of memory
abbrev pub end_of : LinkError → SessionEnd
end_of faults.Failed = Network
end_of faults.OutOfMemory = OutOfMemory

-- the pass is spent, or memory is wanting; a message is refused for nothing else
abbrev pub refused_end : ShareRefusal → SessionEnd
refused_end refusals.PassSpent = PassSpent
refused_end (refusals.Log fault) = OutOfMemory
refused_end refusals.OutOfMemory = OutOfMemory
