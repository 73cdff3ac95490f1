-- Sources and sinks in memory, as contracts see them.
use Rattle.std.specs.Prelude.{ℕ, ◌+◌, ◌<◌, ◌⊎◌, List, ◌++◌, length, drop, Contains}
use Rattle.hd_facts.specs.Counts.{one_more}

-- the bytes left to give, the numbers of the calls that are to fail, the number of the next call, and the count of faults
pub record MemoryInput : Type 0 where
  pub left : List ℕ
  pub failing : List ℕ
  pub calls : ℕ
  pub faults : ℕ

-- the source's next call is one that is to fail
abbrev pub SourceFails : MemoryInput → Type 0
SourceFails source = Contains source.failing source.calls

-- the source after a call that failed: no byte is gone
abbrev pub source_after_failure : MemoryInput → MemoryInput
source_after_failure source = record source { calls = one_more source.calls; faults = one_more source.faults }

-- the source after a call that gave this many of its first bytes
abbrev pub source_after_giving : ℕ → MemoryInput → MemoryInput
source_after_giving count source = record source { left = drop count source.left; calls = one_more source.calls }

-- the bytes taken, the room for them, and the rest as above
pub record MemoryOutput : Type 0 where
  pub holds : List ℕ
  pub room : ℕ
  pub failing : List ℕ
  pub calls : ℕ
  pub faults : ℕ

-- the sink's next call is one that is to fail, or the bytes are more than it still has room for
abbrev pub SinkFails : MemoryOutput → List ℕ → Type 0
SinkFails sink bytes = Contains sink.failing sink.calls ⊎ (sink.room < length sink.holds + length bytes)

-- the sink after a call that failed: no byte was taken
abbrev pub sink_after_failure : MemoryOutput → MemoryOutput
sink_after_failure sink = record sink { calls = one_more sink.calls; faults = one_more sink.faults }

-- the sink after a call that took these bytes
abbrev pub sink_after_taking : List ℕ → MemoryOutput → MemoryOutput
sink_after_taking bytes sink = record sink { holds = sink.holds ++ bytes; calls = one_more sink.calls }
