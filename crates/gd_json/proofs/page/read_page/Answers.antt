use Rattle.serde_json.specs.View.{view}
use Rattle.gd_json.specs.Lists.{page_at}
use Rattle.gd_json.proofs.Through.{gives}
use Rattle.gd_json.proofs.page.read_page.Goals as goal

pub returns : goal.returns
returns c = gives (page_at c.args.wire.now.base) c.page_of.result c.args.bytes.now (view c.in_ok-value.value) c.in_ok-value.ensures c.page_of.ensures
