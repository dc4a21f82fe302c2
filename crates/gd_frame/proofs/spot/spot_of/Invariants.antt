use Rattle.std.proofs.Common.{◌≡◌, drop}
use Rattle.gd_frame.specs.Spots.{spot_of}
use Rattle.gd_frame.proofs.spot.spot_of.Given as goal

abbrev pub invariant-loop-byte : goal.invariant-loop-byte
invariant-loop-byte l = spot_of l.kind l.spot (drop l.byte-index l.piece) ≡ spot_of l.kind l.fn.at l.piece
