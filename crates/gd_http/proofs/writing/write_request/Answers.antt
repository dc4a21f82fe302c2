use Rattle.gd_http.proofs.RequestsAgain.{sent}
use Rattle.gd_http.proofs.writing.write_request.Goals as goal

pub returns-clause-read_again : goal.returns-clause-read_again
returns-clause-read_again c =
    sent c.args.wire.now.base c.args.request.now c.in_ok-out.out c.in_ok-out.ensures.text c.known_request.ensures c.in_ok-out.ensures.has
