use Rattle.serde_json.specs.View.{view}
use Rattle.gd_json.specs.Changes.{folder_body_at}
use Rattle.gd_json.proofs.Through.{gives}
use Rattle.gd_json.proofs.folder.read_folder.Goals as goal

pub returns : goal.returns
returns c = gives folder_body_at c.folder_body.result c.args.bytes.now (view c.in_ok-value.value) c.in_ok-value.ensures c.folder_body.ensures
