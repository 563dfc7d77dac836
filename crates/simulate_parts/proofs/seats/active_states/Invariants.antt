use Rattle.std.proofs.Common.{◌≡◌, ◌++◌, filter_map, map}
use Rattle.simulate_parts.specs.Seats.{view_of}
use Rattle.simulate_parts.proofs.seats.active_states.Given as goal

abbrev pub invariant-loop-seat : goal.invariant-loop-seat
invariant-loop-seat g l =
    l.views.items ++ filter_map (view_of g.D.State.ProcessedHeight.height_of g.D.State.ProcessedHeight.bytes_of) l.seat-iterator
    ≡ filter_map (view_of g.D.State.ProcessedHeight.height_of g.D.State.ProcessedHeight.bytes_of) (map (λ e. e.1) l.seats.entries)
