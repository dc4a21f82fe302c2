use Rattle.od_mirror.proofs.Misfits.{lost-first}
use Rattle.od_mirror.proofs.climb.first_without_root.Goals as goal

pub returns-in-Some : goal.returns-in-Some
returns-in-Some c = lost-first c.args.items.now c.in-Some.item.now c.min.result c.in-Some.ensures.value c.min.ensures c.requires.rise c.requires.lost
