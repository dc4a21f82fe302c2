use Rattle.std.proofs.Common.{◌≡◌, ◌+◌, drop}
use Rattle.od_cli.specs.Script.{script_from, script}
use Rattle.od_cli.proofs.Scripts.{after_lines}
use Rattle.od_cli.proofs.script.read_script.Given as goal

abbrev pub invariant-loop-line : goal.invariant-loop-line
invariant-loop-line l = (script l.text ≡ after_lines l.lines (script_from (l.number + 1) l.followed (drop l.line-index l.line-items))) × (l.number ≡ l.line-index)
