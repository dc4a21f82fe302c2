use Rattle.std.proofs.Common.{◌-◌, length}
use Rattle.od_cli.proofs.Reading.{Reading}
use Rattle.od_cli.proofs.read.read_all.Given as goal

abbrev pub invariant-loop-room : goal.invariant-loop-room
invariant-loop-room g l = Reading (g.I.Source.left l.fn.source) (g.I.Source.left l.source) (g.I.Source.faults l.fn.source) (g.I.Source.faults l.source) l.all.items

abbrev pub decreases-loop-room : goal.decreases-loop-room
decreases-loop-room g l = 8388609 - length l.all.items
