use Rattle.gd_store.proofs.path.+names_within.Given as goal

abbrev pub decreases-names_within : goal.decreases-names_within
decreases-names_within l = l.steps
