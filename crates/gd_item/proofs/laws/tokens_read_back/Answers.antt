use Rattle.gd_item.proofs.ReadTokens.{token-read, token-exact}
use Rattle.gd_item.proofs.laws.tokens_read_back.Goals as goal

pub returns-clause-read : goal.returns-clause-read
returns-clause-read c = token-read

pub returns-clause-exact : goal.returns-clause-exact
returns-clause-exact c = token-exact
