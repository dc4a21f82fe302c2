use Rattle.od_tree.proofs.Holding.{not_from_root}
use Rattle.od_tree.proofs.folder.Folder.asides.Goals as goal

pub returns-clause-from : goal.returns-clause-from
returns-clause-from c = not_from_root c.args.self.now c.held.result.now c.in_ok-asides.asides c.held.ensures c.in_ok-asides.ensures
