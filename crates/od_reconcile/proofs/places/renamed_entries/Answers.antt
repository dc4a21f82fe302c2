use Rattle.od_reconcile.proofs.places.renamed_entries.Goals as goal

pub moved-requires : goal.moved-requires
moved-requires c = c.in_ok-places.ensures
