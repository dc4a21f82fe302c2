use Rattle.gd_frame.proofs.Feeds.{one_reply}
use Rattle.gd_frame.proofs.laws.one_reply.Goals as goal

pub returns : goal.returns
returns c = one_reply
