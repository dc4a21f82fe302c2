use Rattle.std.proofs.Common.{◌≡◌, ◌≤◌, length, drop}
use Rattle.od_scan.specs.Visits.{pushed, turns}
use Rattle.od_scan.proofs.scanning.push_entries.Given as goal

-- the entries from this place on wait
abbrev pub invariant-loop-left : goal.invariant-loop-left
invariant-loop-left l = record {
  inside : l.left ≤ length l.entries;
  waits : turns l.waiting.items ≡ pushed l.folder (drop l.left l.entries) (turns l.fn.waiting.items);
}

abbrev pub decreases-loop-left : goal.decreases-loop-left
decreases-loop-left l = l.left
