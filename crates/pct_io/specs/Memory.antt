-- The source and the sink in memory: their bytes, and which result a call has.
use Rattle.std.specs.Prelude.{ℕ, ◌-◌, min, Bool, cond, ◌&&◌, ◌||◌, List, length, drop, nat_eq, nat_lt, Result, Ok, Err}
use Rattle.std.specs.List.{list_any}
use Rattle.pct_io.specs.declared.failed.Failed.{Failed}
use Rattle.pct_io.specs.declared.memory.MemSource.{MemSource}
use Rattle.pct_io.specs.declared.memory.MemSink.{MemSink}
use Rattle.pct_io.specs.ErrorCounts.{raised}

-- what decides the calls: the numbers of those that fail, counted from 1, the most bytes that one moves, and how many there were
pub record Device : Type 0 where
  pub fails : List ℕ
  pub chunk : ℕ
  pub calls : ℕ

-- the device after one more call, whose number stops at 18446744073709551615
abbrev pub after_call : Device → Device
after_call device = record { fails = device.fails; chunk = device.chunk; calls = raised device.calls }

-- whether the number is in the list
abbrev pub is_listed : List ℕ → ℕ → Bool
is_listed numbers number = list_any (λ listed. nat_eq listed number) numbers

-- whether the next call has one of the numbers that fail
abbrev pub next_fails : Device → Bool
next_fails device = is_listed device.fails (raised device.calls)

-- the device of a source
abbrev pub source_device : MemSource → Device
source_device source = record { fails = source.calls.fails.items; chunk = source.chunk; calls = source.calls.count }

-- the bytes that are not read yet
abbrev pub bytes_left : MemSource → List ℕ
bytes_left source = drop source.position source.bytes.items

-- the result of a read into a buffer of this size
abbrev pub read_answer : MemSource → ℕ → Result ℕ Failed
read_answer source size = cond (next_fails (source_device source)) (Err (record {})) (Ok (min (min (length (bytes_left source)) size) source.chunk))

-- the device of a sink
abbrev pub sink_device : MemSink → Device
sink_device sink = record { fails = sink.calls.fails.items; chunk = sink.chunk; calls = sink.calls.count }

-- the bytes written so far
abbrev pub bytes_written : MemSink → List ℕ
bytes_written sink = sink.bytes.items

-- how many bytes fit
abbrev pub room_left : MemSink → ℕ
room_left sink = sink.room - length (bytes_written sink)

-- whether the next write of a piece of this size fails: by its number, or since the piece is not empty and no byte fits
abbrev pub write_fails : MemSink → ℕ → Bool
write_fails sink size = next_fails (sink_device sink) || (nat_lt 0 size && nat_eq (room_left sink) 0)

-- the result of a write of a piece of this size
abbrev pub write_answer : MemSink → ℕ → Result ℕ Failed
write_answer sink size = cond (write_fails sink size) (Err (record {})) (Ok (min (min size (room_left sink)) sink.chunk))
