-- What the source and the sink in memory tell, and how they go on by calls.
use Rattle.std.specs.Prelude.{◌≡◌, ℕ, ◌+◌, ◌*◌, ◌≤◌, min, Bool, true, false, List, ◌++◌, length, drop, Option, Some, Result, Ok, Err}
use Rattle.gd_names.specs.Counts.{Counts, one_more, is_listed, counted_after}
use Rattle.gd_names.specs.declared.source.MemorySource.{MemorySource}
use Rattle.gd_names.specs.declared.sink.MemorySink.{MemorySink}
use Rattle.gd_names.specs.declared.sink.SinkFault.{SinkFault}
use Rattle.gd_names.specs.declared.sink.SinkFault.TheVariants.{Failed, Memory}

-- the bytes that the source has left
abbrev pub left_of : MemorySource → Option (List ℕ)
left_of source = Some (drop source.at source.bytes)

-- how often the source has failed
abbrev pub read_faults_of : MemorySource → ℕ
read_faults_of source = source.faults

-- the bytes that the sink was given
abbrev pub written_of : MemorySink → Option (List ℕ)
written_of sink = Some sink.bytes

-- how often the sink has failed
abbrev pub write_faults_of : MemorySink → ℕ
write_faults_of sink = sink.faults

-- the calls at which the source fails
abbrev pub read_failing_of : MemorySource → List ℕ
read_failing_of source = source.failing

-- the calls at which the sink fails
abbrev pub write_failing_of : MemorySink → List ℕ
write_failing_of sink = sink.failing

-- how many bytes the source gives at a time
abbrev pub read_piece_of : MemorySource → ℕ
read_piece_of source = source.piece

-- how many calls were made, and how many of them failed
abbrev pub read_counts_of : MemorySource → Counts
read_counts_of source = record { calls = source.calls; faults = source.faults }

abbrev pub write_counts_of : MemorySink → Counts
write_counts_of sink = record { calls = sink.calls; faults = sink.faults }

-- the source went on by some number of calls, each of which took at most a piece
pub record ReadsOn (before after : MemorySource) : Type 0 where
  pub calls : ℕ
  pub counts : read_counts_of after ≡ counted_after calls before.failing (read_counts_of before)
  pub failing : after.failing ≡ before.failing
  pub piece : after.piece ≡ before.piece
  pub bytes : after.bytes ≡ before.bytes
  pub onward : before.at ≤ after.at
  pub taken : after.at ≤ before.at + calls * before.piece

-- the sink went on by some number of calls, and has more bytes behind those that it had
pub record WritesOn (before after : MemorySink) : Type 0 where
  pub calls : ℕ
  pub counts : write_counts_of after ≡ counted_after calls before.failing (write_counts_of before)
  pub failing : after.failing ≡ before.failing
  pub more : List ℕ
  pub bytes : after.bytes ≡ before.bytes ++ more

-- whether the next read fails, and the next write
abbrev pub read_fails : MemorySource → Bool
read_fails source = is_listed source.failing (one_more source.calls)

abbrev pub write_fails : MemorySink → Bool
write_fails sink = is_listed sink.failing (one_more sink.calls)

-- how many bytes the next read puts into so much room, unless it fails: a piece, or what room and bytes there are
abbrev pub next_piece : MemorySource → ℕ → ℕ
next_piece source room = min source.piece (min room (length (drop source.at source.bytes)))

-- whether a write failed, for another cause than memory
abbrev pub has_failed : {T : Type 0} → Result T SinkFault → Bool
has_failed (Ok done) = false
has_failed (Err Failed) = true
has_failed (Err Memory) = false
