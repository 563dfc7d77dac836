-- What a dialer in memory holds.
use Rattle.std.specs.Prelude.{ℕ, Bool}
use Rattle.sync_dial.specs.declared.memory.MemoryDialer.{MemoryDialer}

-- the link that is dialed
abbrev pub dialed_link : {L : Type 0} → MemoryDialer L → L
dialed_link dialer = dialer.link

-- each dial fails
abbrev pub is_failing : {L : Type 0} → MemoryDialer L → Bool
is_failing dialer = dialer.failing

-- how many dials failed
abbrev pub failed_dials : {L : Type 0} → MemoryDialer L → ℕ
failed_dials dialer = dialer.dials
