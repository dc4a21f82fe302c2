use Rattle.gd_laws.proofs.Pages.{last-of-token, last-of-none}
use Rattle.gd_laws.proofs.token_laws.a_last_page_has_all_that_changed.Goals as goal

pub returns-clause-past : goal.returns-clause-past
returns-clause-past c = last-of-token

pub returns-clause-first : goal.returns-clause-first
returns-clause-first c = last-of-none
