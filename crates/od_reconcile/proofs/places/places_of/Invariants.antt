use Rattle.std.proofs.Common.{◌≡◌, ◌+◌, ℕ, List, drop}
use Rattle.std.specs.Option.{option_map}
use Rattle.od_reconcile.specs.Above.{or_else}
use Rattle.od_reconcile.specs.Holding.{stands_at}
use Rattle.od_reconcile.specs.Places.{place_of}
use Rattle.od_reconcile.proofs.places.places_of.Given as goal

abbrev pub invariant-loop-place : goal.invariant-loop-place
invariant-loop-place l = (q : List (List ℕ))
    → or_else (stands_at l.places.entries q) (option_map (λ n. l.place + n) (place_of (drop l.place l.renames) q)) ≡ place_of l.renames q
