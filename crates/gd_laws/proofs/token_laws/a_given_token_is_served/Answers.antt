use Rattle.gd_laws.proofs.Tokens.{last-served, next-served}
use Rattle.gd_laws.proofs.token_laws.a_given_token_is_served.Goals as goal

pub returns-clause-last : goal.returns-clause-last
returns-clause-last c = last-served

pub returns-clause-next : goal.returns-clause-next
returns-clause-next c = next-served
