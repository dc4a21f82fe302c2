-- What the two ends of a stream say of their calls: the bytes that a source has left, those that a sink was
-- given, and how often each has failed.
use Rattle.std.specs.Prelude.{◌≡◌, ℕ, ◌+◌, ◌-◌, ◌^◌, ◌<◌, ◌≤◌, min, List, [], ◌++◌, length, take, Option, Some, Result, IfOk, OnErr, IsErrOf}
use Rattle.gd_names.specs.declared.source.SourceFault.{SourceFault}
use Rattle.gd_names.specs.declared.source.SourceFault.TheVariants as source
use Rattle.gd_names.specs.declared.sink.SinkFault.{SinkFault}
use Rattle.gd_names.specs.declared.sink.SinkFault.TheVariants as sink

-- the count has risen, or stands at the last value of a u64
abbrev pub Rose : ℕ → ℕ → Type 0
Rose before now = min (before + 1) (2 ^ 64 - 1) ≤ now

-- what a read does to the bytes left, where they are told: on Ok the first of them stand in the room, and none
-- where none are left; after a failure they are as they were
pub record Reads (before after : Option (List ℕ)) (result : Result ℕ SourceFault) (room : List ℕ) : Type 0 where
  pub ok : IfOk result (λ n. (left : List ℕ) → before ≡ Some left → (rest : List ℕ) × (after ≡ Some rest) × (left ≡ take n room ++ rest))
  pub end : IfOk result (λ n. n ≡ 0 → 0 < length room → (left : List ℕ) → before ≡ Some left → left ≡ [])
  pub err : OnErr result ((left : List ℕ) → before ≡ Some left → after ≡ Some left)

-- the count of failures of a source never falls, and rises where a read fails
pub record HasReadCause (before now : ℕ) (result : Result ℕ SourceFault) : Type 0 where
  pub later : before ≤ now
  pub failed : IsErrOf result source.Failed → Rose before now

-- what a write does to the bytes written, where they are told: on Ok all went out, else some first part of them
pub record Writes (before after : Option (List ℕ)) (bytes : List ℕ) {T : Type 0} (result : Result T SinkFault) : Type 0 where
  pub ok : IfOk result (λ _. (old : List ℕ) → before ≡ Some old → after ≡ Some (old ++ bytes))
  pub err : OnErr result ((old : List ℕ) → before ≡ Some old → (n : ℕ) × (after ≡ Some (old ++ take n bytes)))

-- the count of failures of a sink never falls, and rises where a write fails for another cause than memory
pub record HasWriteCause (before now : ℕ) {T : Type 0} (result : Result T SinkFault) : Type 0 where
  pub later : before ≤ now
  pub failed : IsErrOf result sink.Failed → Rose before now
