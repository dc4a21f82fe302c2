use Rattle.serde_json.specs.View.{view}
use Rattle.gd_json.specs.Sessions.{status_at}
use Rattle.gd_json.proofs.Through.{gives}
use Rattle.gd_json.proofs.session.read_status.Goals as goal

pub returns : goal.returns
returns c = gives status_at c.status_of.result c.args.bytes.now (view c.in_ok-value.value) c.in_ok-value.ensures c.status_of.ensures
