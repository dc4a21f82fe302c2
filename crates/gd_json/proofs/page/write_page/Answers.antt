use Rattle.std.proofs.Common.{lit≤}
use Rattle.serde_json.specs.View.{view}
use Rattle.gd_json.specs.Lists.{page_at, page_data}
use Rattle.gd_json.specs.Lists.{IsWritablePage}
use Rattle.gd_json.proofs.BodiesAgain.{page_plain}
use Rattle.gd_json.proofs.BodiesAgain.{page_again}
use Rattle.gd_json.proofs.Through.{gives_text, gives_again_if}
use Rattle.gd_json.proofs.page.write_page.Goals as goal

pub returns-clause-text : goal.returns-clause-text
returns-clause-text c = gives_text 5 (view c.in_ok-value.value) (page_data c.args.wire.now.base c.args.page.now) c.print.result c.in_ok-value.ensures.data (page_plain c.args.wire.now.base c.args.page.now) c.print.ensures.text

pub returns-clause-read_again : goal.returns-clause-read_again
returns-clause-read_again c =
    gives_again_if (IsWritablePage c.args.page.now) (page_at c.args.wire.now.base) c.args.page.now 5 (view c.in_ok-value.value) (page_data c.args.wire.now.base c.args.page.now) c.print.result c.in_ok-value.ensures.data (page_plain c.args.wire.now.base c.args.page.now) (lit≤ tt) (λ fits. page_again c.args.wire.now.base c.args.page.now fits c.in_ok-value.ensures.known) c.print.ensures.read_again
