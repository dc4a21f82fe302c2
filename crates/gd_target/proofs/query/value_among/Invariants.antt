use Rattle.std.proofs.Common.{◌≡◌, length}
use Rattle.std.specs.List.{cons_option, filter_map}
use Rattle.gd_target.specs.Cuts.{parts}
use Rattle.gd_target.specs.Queries.{shown, once, value_in}
use Rattle.gd_target.proofs.query.value_among.Given as goal

abbrev pub invariant-parts : goal.invariant-parts
invariant-parts l = once (cons_option (shown l.found) (filter_map (value_in l.member) (parts 38 l.rest))) ≡ once (filter_map (value_in l.member) (parts 38 l.query))

abbrev pub decreases-parts : goal.decreases-parts
decreases-parts l = length l.rest
