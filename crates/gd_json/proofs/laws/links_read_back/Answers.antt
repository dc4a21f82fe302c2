use Rattle.gd_json.proofs.LinksAgain.{token_again, token_only, name_again, session_again}
use Rattle.gd_json.proofs.laws.links_read_back.Goals as goal

pub returns-clause-token : goal.returns-clause-token
returns-clause-token c = token_again

pub returns-clause-token_only : goal.returns-clause-token_only
returns-clause-token_only c = token_only

pub returns-clause-name : goal.returns-clause-name
returns-clause-name c = name_again

pub returns-clause-session : goal.returns-clause-session
returns-clause-session c = session_again
