use Rattle.std.proofs.Common.{◌≡◌, ◌++◌, drop}
use Rattle.od_cli.specs.Script.{lines_from, lines_of}
use Rattle.od_cli.proofs.lines.cut_lines.Given as goal

abbrev pub invariant-loop-b : goal.invariant-loop-b
invariant-loop-b l = l.lines.items ++ lines_from l.current.items (drop l.b-index l.text) ≡ lines_of l.text
