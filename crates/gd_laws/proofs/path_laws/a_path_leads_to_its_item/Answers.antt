use Rattle.gd_laws.proofs.Leading.{leads-log}
use Rattle.gd_laws.proofs.path_laws.a_path_leads_to_its_item.Goals as goal

pub returns : goal.returns
returns c = leads-log
