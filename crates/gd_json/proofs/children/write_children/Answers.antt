use Rattle.std.proofs.Common.{lit≤}
use Rattle.serde_json.specs.View.{view}
use Rattle.gd_json.specs.Lists.{children_at, children_data}
use Rattle.gd_json.specs.Lists.{IsWritableList}
use Rattle.gd_json.proofs.BodiesAgain.{children_plain}
use Rattle.gd_json.proofs.BodiesAgain.{children_again}
use Rattle.gd_json.proofs.Through.{gives_text, gives_again_if}
use Rattle.gd_json.proofs.children.write_children.Goals as goal

pub returns-clause-text : goal.returns-clause-text
returns-clause-text c = gives_text 5 (view c.in_ok-value.value) (children_data c.args.wire.now.base c.args.list.now) c.print.result c.in_ok-value.ensures.data (children_plain c.args.wire.now.base c.args.list.now) c.print.ensures.text

pub returns-clause-read_again : goal.returns-clause-read_again
returns-clause-read_again c =
    gives_again_if (IsWritableList c.args.list.now) (children_at c.args.wire.now.base) c.args.list.now 5 (view c.in_ok-value.value) (children_data c.args.wire.now.base c.args.list.now) c.print.result c.in_ok-value.ensures.data (children_plain c.args.wire.now.base c.args.list.now) (lit≤ tt) (λ fits. children_again c.args.wire.now.base c.args.list.now fits c.in_ok-value.ensures.known) c.print.ensures.read_again
