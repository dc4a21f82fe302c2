use Rattle.gd_frame.specs.declared.message.Kind.TheVariants.{Request}
use Rattle.gd_frame.specs.Syntax.{requests}
use Rattle.gd_frame.specs.Frames.{IsRequest}
use Rattle.gd_frame.proofs.Heads.{plain}
use Rattle.gd_frame.proofs.Feeds.{one_request, cut_anywhere}
use Rattle.gd_frame.proofs.laws.requests_cut_anywhere.Goals as goal

pub returns : goal.returns
returns c = cut_anywhere requests (plain Request) IsRequest (λ bytes f x. x.0) one_request
