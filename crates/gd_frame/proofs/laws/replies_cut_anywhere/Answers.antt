use Rattle.gd_frame.specs.declared.message.Kind.TheVariants.{Reply}
use Rattle.gd_frame.specs.Syntax.{replies}
use Rattle.gd_frame.specs.Frames.{IsReply}
use Rattle.gd_frame.proofs.Heads.{plain}
use Rattle.gd_frame.proofs.Feeds.{one_reply, cut_anywhere}
use Rattle.gd_frame.proofs.laws.replies_cut_anywhere.Goals as goal

pub returns : goal.returns
returns c = cut_anywhere replies (plain Reply) IsReply (λ bytes f x. x.0) one_reply
