use Rattle.std.proofs.Common.{lit≤}
use Rattle.serde_json.specs.View.{view}
use Rattle.gd_json.specs.Items.{item_at, item_data}
use Rattle.gd_json.specs.Items.{IsWritable}
use Rattle.gd_json.proofs.PlainItem.{item_plain}
use Rattle.gd_json.proofs.Again.{item_again}
use Rattle.gd_json.proofs.Through.{gives_text, gives_again_if}
use Rattle.gd_json.proofs.written.write_item.Goals as goal

pub returns-clause-text : goal.returns-clause-text
returns-clause-text c = gives_text 3 (view c.in_ok-value.value) (item_data c.args.item.now) c.print.result c.in_ok-value.ensures (item_plain c.args.item.now) c.print.ensures.text

pub returns-clause-read_again : goal.returns-clause-read_again
returns-clause-read_again c =
    gives_again_if (IsWritable c.args.item.now) item_at c.args.item.now 3 (view c.in_ok-value.value) (item_data c.args.item.now) c.print.result c.in_ok-value.ensures (item_plain c.args.item.now) (lit≤ tt) (λ fits. item_again c.args.item.now fits c.known_item.ensures) c.print.ensures.read_again
