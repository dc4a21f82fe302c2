use Rattle.od_outside.specs.Running.{Free, Runs}
use Rattle.od_synclist.specs.Rules.{rules_of}
use Rattle.od_scan.specs.Scans.{Always, IsScanned}
use Rattle.od_scan.specs.Visits.{turns}
use Rattle.od_scan.proofs.Finding.{FoundSoFar}
use Rattle.od_scan.proofs.scanning.scan.Given as goal

-- what was found so far and what waits are the whole folder
abbrev pub invariant-loop-turn : goal.invariant-loop-turn
invariant-loop-turn g l = Runs g.O.Outside.seen Always (IsScanned l.found.items) (FoundSoFar (rules_of l.fn.rules) l.found.items (turns l.waiting.items)) Free l.fn.outside l.outside
