use Rattle.od_tree.proofs.Removing.{put-over}
use Rattle.od_tree.proofs.spots.put_spot.Goals as goal

pub returns-in_ok-push-in-Some-clause-ok : goal.returns-in_ok-push-in-Some-clause-ok
returns-in_ok-push-in-Some-clause-ok c =
    put-over c.as_slice.result.now c.args.spots.now.items c.push.new.self.items c.remove-replaced.new.self.items c.args.spot c.args.at.now c.in-Some.index c.as_slice.ensures.value c.in-Some.ensures.left
    c.in_ok-push-in-Some.ensures.items c.remove-replaced.ensures.items
