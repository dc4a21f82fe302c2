use Rattle.std.proofs.Common.{◌≡◌, length}
use Rattle.od_sync.specs.Comparing.{is_same}
use Rattle.od_sync.proofs.comparing.is_same.Given as goal

-- the whole lists are the same where what is left of them is
abbrev pub invariant-loop-ours : goal.invariant-loop-ours
invariant-loop-ours l = is_same l.ours l.theirs ≡ is_same l.fn.local l.fn.remote

abbrev pub decreases-loop-ours : goal.decreases-loop-ours
decreases-loop-ours l = length l.ours
