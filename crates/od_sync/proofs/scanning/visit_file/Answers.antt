use Rattle.od_sync.proofs.Looks.{found-some, found-none}
use Rattle.od_sync.proofs.scanning.visit_file.Goals as goal

pub returns-in_ok-push-in-Some-clause-found : goal.returns-in_ok-push-in-Some-clause-found
returns-in_ok-push-in-Some-clause-found g c =
    found-some c.args.at c.in_ok-digest.digest c.in-Some.digest c.args.found.now.items c.push.new.self.items (g.T.Tree.log c.args.tree.now) (g.T.Tree.log c.look_at_file.new.tree)
    c.in-Some.is c.in_ok-push-in-Some.ensures.items c.in_ok-digest.ensures.found

pub returns-in-None-clause-found : goal.returns-in-None-clause-found
returns-in-None-clause-found g c =
    found-none c.args.at c.in_ok-digest.digest c.args.found.now.items (g.T.Tree.log c.args.tree.now) (g.T.Tree.log c.look_at_file.new.tree) c.in-None.is c.in_ok-digest.ensures.found
