use Rattle.gd_store.proofs.moving.+moved_names.Given as goal

abbrev pub decreases-moved_names : goal.decreases-moved_names
decreases-moved_names l = l.steps
