use Rattle.serde_json.specs.View.{view}
use Rattle.gd_json.specs.Lists.{children_at}
use Rattle.gd_json.proofs.Through.{gives}
use Rattle.gd_json.proofs.children.read_children.Goals as goal

pub returns : goal.returns
returns c = gives (children_at c.args.wire.now.base) c.children_of.result c.args.bytes.now (view c.in_ok-value.value) c.in_ok-value.ensures c.children_of.ensures
