use Rattle.gd_http.proofs.Said as said
use Rattle.gd_http.proofs.laws.one_request.Goals as goal

pub returns-clause-asked : goal.returns-clause-asked
returns-clause-asked c = said.one_request

pub returns-clause-closes : goal.returns-clause-closes
returns-clause-closes c = said.one_closing
