use Rattle.std.proofs.Common.{lit≤}
use Rattle.serde_json.specs.View.{view}
use Rattle.gd_json.specs.Changes.{patch_at, patch_data}
use Rattle.gd_json.specs.Changes.{IsWritablePatch}
use Rattle.gd_json.proofs.BodiesAgain.{patch_plain}
use Rattle.gd_json.proofs.BodiesAgain.{patch_again}
use Rattle.gd_json.proofs.Through.{gives_again_if}
use Rattle.gd_json.proofs.patch.write_patch.Goals as goal

pub returns-clause-read_again : goal.returns-clause-read_again
returns-clause-read_again c =
    gives_again_if (IsWritablePatch c.args.body.now) patch_at c.args.body.now 2 (view c.in_ok-value.value) (patch_data c.args.body.now) c.print.result c.in_ok-value.ensures (patch_plain c.args.body.now) (lit≤ tt) (λ fits. patch_again c.args.body.now fits c.known_parent.ensures) c.print.ensures.read_again
