use Rattle.gd_laws.proofs.Pages.{served-page}
use Rattle.gd_laws.proofs.token_laws.a_served_token_has_a_page.Goals as goal

pub returns : goal.returns
returns c = served-page
