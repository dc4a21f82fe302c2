use Rattle.std.proofs.Common.{◌≡◌, ℕ, min, drop}
use Rattle.gd_frame.specs.Framing.{number_after}
use Rattle.gd_frame.proofs.framing.capped_number.Given as goal

abbrev pub invariant-loop-digit : goal.invariant-loop-digit
invariant-loop-digit l = (value : ℕ) × (l.number ≡ min value 18446744073709551616) × (number_after 0 l.text ≡ number_after value (drop l.digit-index l.text))
