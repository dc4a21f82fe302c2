use Rattle.std.proofs.Common.{subst}
use Rattle.std.specs.Prelude.{◌≡◌, IfOk}
use Rattle.od_keeper.specs.Images.{applied}
use Rattle.od_keeper.proofs.Lists.{last-at}
use Rattle.od_keeper.proofs.memory.next_of.Goals as goal

pub returns-in-len1-up : goal.returns-in-len1-up
returns-in-len1-up c =
    subst (λ last. IfOk c.applied-in-len1-up.result (λ image. image ≡ applied c.args.change.now last)) (last-at c.args.images.now c.image-item.result c.in-len1-up.len_at_least c.image-item.is)
    c.applied-in-len1-up.ensures
