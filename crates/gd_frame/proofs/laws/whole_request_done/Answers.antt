use Rattle.gd_frame.specs.declared.message.Kind.TheVariants.{Request}
use Rattle.gd_frame.specs.Syntax.{requests}
use Rattle.gd_frame.specs.Frames.{IsRequest}
use Rattle.gd_frame.proofs.Heads.{plain}
use Rattle.gd_frame.proofs.Feeds.{one_request, whole_done}
use Rattle.gd_frame.proofs.laws.whole_request_done.Goals as goal

pub returns : goal.returns
returns c = whole_done requests (plain Request) IsRequest (λ bytes f x. x.0) one_request
