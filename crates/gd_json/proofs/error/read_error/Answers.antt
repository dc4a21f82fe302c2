use Rattle.serde_json.specs.View.{view}
use Rattle.gd_json.specs.Errors.{error_at}
use Rattle.gd_json.proofs.Through.{gives}
use Rattle.gd_json.proofs.error.read_error.Goals as goal

pub returns : goal.returns
returns c = gives error_at c.error_of.result c.args.bytes.now (view c.in_ok-value.value) c.in_ok-value.ensures c.error_of.ensures
