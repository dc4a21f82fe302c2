use Rattle.gd_http.proofs.Said as said
use Rattle.gd_http.proofs.laws.one_reply.Goals as goal

pub returns : goal.returns
returns c = said.one_reply
