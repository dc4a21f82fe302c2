use Rattle.std.proofs.Common.{◌≡◌, drop}
use Rattle.gd_frame.specs.declared.target.Part.TheVariants.{Blank}
use Rattle.gd_frame.specs.Targets.{part_of}
use Rattle.gd_frame.proofs.target.part_of.Given as goal

abbrev pub invariant-loop-byte : goal.invariant-loop-byte
invariant-loop-byte l = part_of Blank l.bytes ≡ part_of l.part (drop l.byte-index l.bytes)
