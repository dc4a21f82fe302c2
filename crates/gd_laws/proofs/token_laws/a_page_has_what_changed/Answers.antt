use Rattle.gd_laws.proofs.Pages.{page-of-token, page-of-none}
use Rattle.gd_laws.proofs.token_laws.a_page_has_what_changed.Goals as goal

pub returns-clause-past : goal.returns-clause-past
returns-clause-past c = page-of-token

pub returns-clause-first : goal.returns-clause-first
returns-clause-first c = page-of-none
