use Rattle.gd_item.proofs.LogsFragments.{large-put}
use Rattle.gd_item.proofs.session_instances.large_put_refused.Goals as goal

pub returns : goal.returns
returns c = large-put
