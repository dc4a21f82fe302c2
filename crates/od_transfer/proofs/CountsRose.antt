-- A count that has risen has risen since before and until later.
use Rattle.std.proofs.Common.{ℕ, ◌≤◌, arith}
use Rattle.gd_names.specs.Streams.{Rose}
use Rattle.od_transfer.specs.Asking.{RoseBy}

pub rose-later : (a b c : ℕ) → a ≤ b → Rose b c → Rose a c
rose-later a b c later rose = omega (arith, later, rose)

pub rose-on : (a b c : ℕ) → Rose a b → b ≤ c → Rose a c
rose-on a b c rose later = omega (arith, rose, later)

pub rose-some : (a b : ℕ) → RoseBy 3 a b → Rose a b
rose-some a b rose = omega (arith, rose)
