use Rattle.std.proofs.Common.{◌≡◌, ◌+◌, drop}
use Rattle.gd_names.specs.Paths.{path_length}
use Rattle.gd_names.proofs.path.path_fits.Given as goal

abbrev pub invariant-loop-name : goal.invariant-loop-name
invariant-loop-name l = 400 + path_length (drop l.name-index l.name-items) ≡ l.left + path_length l.name-items
