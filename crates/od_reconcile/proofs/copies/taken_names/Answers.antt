use Rattle.od_merge.specs.Sides.{paths_of}
use Rattle.od_reconcile.proofs.FolderNames.{names-of-two}
use Rattle.od_reconcile.proofs.copies.taken_names.Goals as goal

pub returns : goal.returns
returns c = record {
  has = λ q. names-of-two q c.new-taken.result.entries c.add_tree.new.index.entries c.add_tree-2.new.index.entries (paths_of c.args.both.now.here.tree.now) (paths_of c.args.both.now.there.tree.now)
      c.new-taken.ensures.empty (c.in_ok-add_tree.ensures q) (c.in_ok-add_tree-2.ensures q);
}
