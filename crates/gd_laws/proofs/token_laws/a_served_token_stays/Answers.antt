use Rattle.gd_laws.proofs.Tokens.{served-stays}
use Rattle.gd_laws.proofs.token_laws.a_served_token_stays.Goals as goal

pub returns : goal.returns
returns c = served-stays
