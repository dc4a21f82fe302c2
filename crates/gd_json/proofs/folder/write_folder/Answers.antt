use Rattle.std.proofs.Common.{lit≤}
use Rattle.serde_json.specs.View.{view}
use Rattle.gd_json.specs.Changes.{folder_body_at, folder_data}
use Rattle.gd_json.proofs.BodiesAgain.{folder_plain}
use Rattle.gd_json.proofs.BodiesAgain.{folder_body_again}
use Rattle.gd_json.proofs.Through.{gives_again}
use Rattle.gd_json.proofs.folder.write_folder.Goals as goal

pub returns-clause-read_again : goal.returns-clause-read_again
returns-clause-read_again c =
    gives_again folder_body_at c.args.body.now 2 (view c.in_ok-value.value) (folder_data c.args.body.now) c.print.result c.in_ok-value.ensures (folder_plain c.args.body.now) (lit≤ tt) (folder_body_again c.args.body.now) c.print.ensures.read_again
