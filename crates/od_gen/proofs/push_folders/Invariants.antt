use Rattle.std.proofs.Common.{◌≡◌, ◌++◌, string_bytes}
use Rattle.std.specs.List.{flat_map}
use Rattle.od_gen.specs.Generated.{folder_text, up_to}
use Rattle.od_gen.proofs.push_folders.Given as goal

abbrev pub invariant-loop-j : goal.invariant-loop-j
invariant-loop-j l = string_bytes l.script ≡ string_bytes l.fn.script ++ flat_map folder_text (up_to l.j)
