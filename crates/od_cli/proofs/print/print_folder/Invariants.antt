use Rattle.std.proofs.Common.{◌≡◌, ◌++◌, codes, drop}
use Rattle.std.specs.List.{flat_map}
use Rattle.od_cli.specs.Played.{content_line}
use Rattle.od_cli.proofs.print.print_folder.Given as goal

abbrev pub invariant-loop-entry : goal.invariant-loop-entry
invariant-loop-entry l = l.out ++ flat_map content_line (drop l.entry-index l.entries) ≡ (l.fn.out ++ codes "local\n") ++ flat_map content_line l.entries
