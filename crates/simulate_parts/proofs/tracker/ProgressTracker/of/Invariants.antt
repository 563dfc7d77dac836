use Rattle.std.proofs.Common.{◌≡◌, drop}
use Rattle.simulate_parts.specs.Tracker.{fault_from, first_fault, observed_all, tracker_of}
use Rattle.simulate_parts.proofs.tracker.ProgressTracker.of.Given as goal

abbrev pub invariant-loop-update : goal.invariant-loop-update
invariant-loop-update l = record {
  tracker : tracker_of l.updates ≡ observed_all l.tracker (drop l.update-index l.updates);
  faults : first_fault l.updates ≡ fault_from l.tracker (drop l.update-index l.updates);
}
