use Rattle.std.proofs.Common.{◌≡◌, ◌++◌, drop, string_bytes}
use Rattle.gd_names.specs.Paths.{segments_text}
use Rattle.gd_names.proofs.path.Path.write.Given as goal

abbrev pub invariant-loop-name : goal.invariant-loop-name
invariant-loop-name l = string_bytes l.text ++ segments_text (drop l.name-index l.name-items) ≡ segments_text l.name-items
