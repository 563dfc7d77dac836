-- What the sources and sinks of this crate hold, and which calls of the forms in memory fail.
use Rattle.std.specs.Prelude.{ℕ, ◌==◌, Bool, List, drop, min, ◌+◌, ◌-◌, ◌^◌}
use Rattle.std.specs.List.{list_any}
use Rattle.ledger_codec.specs.declared.source.MemorySource.{MemorySource}
use Rattle.ledger_codec.specs.declared.sink.MemorySink.{MemorySink}
use Rattle.ledger_codec.specs.declared.source.Reading.{Reading}
use Rattle.ledger_codec.specs.declared.sink.Writing.{Writing}

-- the bytes that are left
abbrev pub source_bytes : MemorySource → List ℕ
source_bytes source = drop source.at source.bytes.items

-- how many reads were made
abbrev pub source_calls : MemorySource → ℕ
source_calls source = source.calls

-- the reads that fail
abbrev pub source_failing : MemorySource → List ℕ
source_failing source = source.failing.items

-- the bytes that were written
abbrev pub sink_bytes : MemorySink → List ℕ
sink_bytes sink = sink.bytes.items

-- how many writes were made
abbrev pub sink_calls : MemorySink → ℕ
sink_calls sink = sink.calls

-- the writes that fail
abbrev pub sink_failing : MemorySink → List ℕ
sink_failing sink = sink.failing.items

-- this number is among these
abbrev pub is_among : ℕ → List ℕ → Bool
is_among n numbers = list_any (λ k. k == n) numbers

-- the number of the next call
abbrev pub next_call : ℕ → ℕ
next_call n = min (n + 1) (2 ^ 64 - 1)

-- the reader behind an adapter
abbrev pub reading_inner : {R : Type 0} → Reading R → R
reading_inner source = source.inner

-- how many reads of an adapter failed
abbrev pub reading_faults : {R : Type 0} → Reading R → ℕ
reading_faults source = source.faults

-- the writer behind an adapter
abbrev pub writing_inner : {W : Type 0} → Writing W → W
writing_inner sink = sink.inner

-- how many writes of an adapter failed
abbrev pub writing_faults : {W : Type 0} → Writing W → ℕ
writing_faults sink = sink.faults
