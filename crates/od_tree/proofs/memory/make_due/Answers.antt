use Rattle.od_tree.proofs.Steps.{placed}
use Rattle.od_tree.proofs.memory.make_due.Goals as goal

pub returns-clause-log : goal.returns-clause-log
returns-clause-log c = placed c.args.folder.now c.user.new.self c.args.edit.now c.in_ok-_has_place._has_place c.in_ok-_has_place.ensures.ok.1
