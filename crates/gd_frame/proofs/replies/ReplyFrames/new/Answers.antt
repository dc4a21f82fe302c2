use Rattle.std.proofs.Common.{refl}
use Rattle.gd_frame.specs.declared.spot.Spot.TheVariants.{Empty}
use Rattle.gd_frame.specs.declared.stream.Phase.TheVariants.{Head}
use Rattle.gd_frame.specs.declared.message.Kind.TheVariants.{Reply}
use Rattle.gd_frame.proofs.Holding.{holds_nothing}
use Rattle.gd_frame.proofs.replies.ReplyFrames.new.Goals as goal

pub invariant_of-result : goal.invariant_of-result
invariant_of-result c = holds_nothing Reply c.new.result.items (Head Empty) c.new.ensures.items refl
