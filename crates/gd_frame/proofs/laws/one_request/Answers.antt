use Rattle.gd_frame.proofs.Feeds.{one_request}
use Rattle.gd_frame.proofs.laws.one_request.Goals as goal

pub returns : goal.returns
returns c = one_request
