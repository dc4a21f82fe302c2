use Rattle.gd_frame.specs.declared.message.Kind.TheVariants.{Reply}
use Rattle.gd_frame.specs.Syntax.{replies}
use Rattle.gd_frame.proofs.Heads.{plain}
use Rattle.gd_http.specs.HearingReplies.{ReplyBytes}
use Rattle.gd_http.proofs.Said.{reply_is, one_reply, one_hearing}
use Rattle.gd_http.proofs.laws.one_hearing_of_replies.Goals as goal

pub returns : goal.returns
returns c = λ l. one_hearing replies (plain Reply) (ReplyBytes l) (reply_is l) (one_reply l)
