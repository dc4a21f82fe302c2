use Rattle.gd_frame.specs.declared.message.Kind.TheVariants.{Request}
use Rattle.gd_frame.specs.Syntax.{requests}
use Rattle.gd_frame.proofs.Heads.{plain}
use Rattle.gd_http.specs.Hearing.{RequestBytes}
use Rattle.gd_http.proofs.Said.{request_is, one_request, one_hearing}
use Rattle.gd_http.proofs.laws.one_hearing_of_requests.Goals as goal

pub returns : goal.returns
returns c = one_hearing requests (plain Request) RequestBytes request_is one_request
