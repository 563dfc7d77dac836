-- What a link does to a message, by the words of a generator.
use Rattle.std.specs.Prelude.{ℕ, ◌+◌, ◌-◌, ◌%◌, ◌^◌, min, Option, Some, None, nat_lt, if◌then◌else◌}
use Rattle.rand_pcg.specs.Lcg.{Lcg}
use Rattle.rand_pcg.specs.Pcg.{pcg32}
use Rattle.simulate_parts.specs.declared.link.SimLink.{SimLink}

-- the delay of a message, None where it is lost, and the generator afterwards
abbrev pub drawn : Lcg → SimLink → Option ℕ × Lcg
drawn g link =
    let first = pcg32 g in
    let second = pcg32 first.1 in
    if nat_lt (first.0 % link.success.den) link.success.num
    then (Some (min (link.latency + second.0 % (link.jitter + 1)) (2 ^ 64 - 1)), second.1)
    else (None, first.1)
