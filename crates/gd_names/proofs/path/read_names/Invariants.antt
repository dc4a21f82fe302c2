use Rattle.std.proofs.Common.{◌≡◌, length, []}
use Rattle.gd_names.specs.Paths.{parts_from, names_of}
use Rattle.gd_names.proofs.Paths.{after_names}
use Rattle.gd_names.proofs.path.read_names.Given as goal

abbrev pub invariant-segments : goal.invariant-segments
invariant-segments l = names_of (parts_from [] l.text) ≡ after_names l.names (names_of (parts_from [] l.rest))

abbrev pub decreases-segments : goal.decreases-segments
decreases-segments l = length l.rest
