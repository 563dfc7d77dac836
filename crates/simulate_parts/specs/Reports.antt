-- What a monitoring reporter keeps.
use Rattle.std.specs.Prelude.{List, [], ◌∷◌}
use Rattle.std.specs.declared.alloc.Global.{Global}
use Rattle.std.specs.declared.dyn_box.DynBox.{DynBox}
use Rattle.simulate_parts.specs.declared.peer.Peer.{Peer}
use Rattle.simulate_parts.specs.declared.reporter.Activity.{Activity}
use Rattle.simulate_parts.specs.declared.reporter.Activity.TheVariants.{Tip, Block}
use Rattle.simulate_parts.specs.declared.reporter.MonitorReporter.{MonitorReporter}
use Rattle.simulate_parts.specs.declared.tracker.FinalizationUpdate.{FinalizationUpdate}

-- the update that an activity of a peer is, none where it is no tip
abbrev pub update_of_activity : Peer → Activity → List FinalizationUpdate
update_of_activity pk (Tip r h d) = record { pk = pk; round = r; height = h; block_digest = d } ∷ []
update_of_activity pk (Block h) = []

-- the updates that a reporter keeps
abbrev pub kept_updates : {X : Type 0} {P : X → Type 0} → MonitorReporter X P → List FinalizationUpdate
kept_updates m = m.updates.items

-- the peer whose engine a reporter listens to
abbrev pub reporting_peer : {X : Type 0} {P : X → Type 0} → MonitorReporter X P → Peer
reporting_peer m = m.pk

-- the listener behind a reporter
abbrev pub inner_reporter : {X : Type 0} {P : X → Type 0} → MonitorReporter X P → DynBox X Global P
inner_reporter m = m.inner
