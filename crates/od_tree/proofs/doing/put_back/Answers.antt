use Rattle.od_tree.proofs.HeldFiles.{back_one, back_none}
use Rattle.od_tree.proofs.doing.put_back.Goals as goal

pub returns-in-Some-clause-ok : goal.returns-in-Some-clause-ok
returns-in-Some-clause-ok c =
    back_one c.args.to.now c.in_ok-path.path c.args.spots.now.items c.reserve.new.self.items c.push_reserved.new.self.items c.args.held.now.items c.take_held.new.held.items c.args.aside c.in-Some.taken
    c.in_ok-path.ensures.cases c.in-Some.ensures.file c.in-Some.ensures.left c.reserve.ensures.items c.push_reserved.ensures.items

pub returns-in-None-clause-ok : goal.returns-in-None-clause-ok
returns-in-None-clause-ok c =
    back_none c.args.to.now c.args.spots.now.items c.reserve.new.self.items c.args.held.now.items c.take_held.new.held.items c.args.aside c.reserve.ensures.items c.in-None.ensures.file c.in-None.ensures.left
