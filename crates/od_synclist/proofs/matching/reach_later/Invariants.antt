use Rattle.std.proofs.Common.{◌≡◌, ◌+◌, length}
use Rattle.std.specs.List.{list_any}
use Rattle.od_synclist.specs.Search.{reaches, tails, is_end}
use Rattle.od_synclist.proofs.matching.reach_later.Given as goal

abbrev pub invariant-tries : goal.invariant-tries
invariant-tries g l =
    list_any (reaches g.P.Part.is_run g.P.Part.takes (is_end l.whole l.fewer) l.parts) (tails l.items)
    ≡ list_any (reaches g.P.Part.is_run g.P.Part.takes (is_end l.whole l.fewer) l.after_run) (tails l.from)

abbrev pub decreases-tries : goal.decreases-tries
decreases-tries g l = length l.after_run + length l.from
