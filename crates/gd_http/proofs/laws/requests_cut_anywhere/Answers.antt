use Rattle.gd_frame.specs.declared.message.Kind.TheVariants.{Request}
use Rattle.gd_frame.specs.Syntax.{requests}
use Rattle.gd_frame.proofs.Heads.{plain}
use Rattle.gd_frame.proofs.Feeds.{cut_anywhere}
use Rattle.gd_http.specs.Hearing.{RequestBytes}
use Rattle.gd_http.proofs.Said.{request_is, one_request}
use Rattle.gd_http.proofs.laws.requests_cut_anywhere.Goals as goal

pub returns : goal.returns
returns c = cut_anywhere requests (plain Request) RequestBytes request_is one_request
