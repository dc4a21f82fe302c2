-- A verdict that goes from rule to rule.
use Rattle.std.proofs.Common.{ℕ, Bool, ◌&&◌, ◌||◌, not, List}
use Rattle.od_synclist.specs.Rules.{is_included, is_excluded}
use Rattle.od_synclist.specs.declared.rule.Rule.{Rule}

-- whether an entry passes under these rules, where an inclusion before them does or does not match it
abbrev pub passes_from : Bool → List Rule → List (List ℕ) → Bool → Bool
passes_from included rules names folder = (included || is_included rules names folder) && not (is_excluded rules names folder)
