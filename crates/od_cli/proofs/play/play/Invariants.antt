use Rattle.std.proofs.Common.{◌≡◌, true, drop, take}
use Rattle.od_cli.specs.Following.{are_allowed}
use Rattle.od_cli.proofs.Playing.{PlayedTo}
use Rattle.od_cli.proofs.play.play.Given as goal

abbrev pub invariant-loop-line : goal.invariant-loop-line
invariant-loop-line l =
    PlayedTo l.run.world l.run.folder l.run.keeper l.run.counted l.run.followed l.out (take l.line-index l.lines) × (are_allowed l.run.followed (drop l.line-index l.lines) ≡ true)
