use Rattle.serde_json.specs.View.{view}
use Rattle.gd_json.specs.Items.{item_at}
use Rattle.gd_json.proofs.Through.{gives}
use Rattle.gd_json.proofs.item.read_item.Goals as goal

pub returns : goal.returns
returns c = gives item_at c.item_of.result c.args.bytes.now (view c.in_ok-value.value) c.in_ok-value.ensures c.item_of.ensures
