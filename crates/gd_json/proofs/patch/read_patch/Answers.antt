use Rattle.serde_json.specs.View.{view}
use Rattle.gd_json.specs.Changes.{patch_at}
use Rattle.gd_json.proofs.Through.{gives}
use Rattle.gd_json.proofs.patch.read_patch.Goals as goal

pub returns : goal.returns
returns c = gives patch_at c.patch_of.result c.args.bytes.now (view c.in_ok-value.value) c.in_ok-value.ensures c.patch_of.ensures
