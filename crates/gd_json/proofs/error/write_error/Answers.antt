use Rattle.std.proofs.Common.{lit≤}
use Rattle.serde_json.specs.View.{view}
use Rattle.gd_json.specs.Errors.{error_at, error_data}
use Rattle.gd_json.proofs.BodiesAgain.{error_plain}
use Rattle.gd_json.proofs.BodiesAgain.{error_again}
use Rattle.gd_json.proofs.Through.{gives_again}
use Rattle.gd_json.proofs.error.write_error.Goals as goal

pub returns-clause-read_again : goal.returns-clause-read_again
returns-clause-read_again c =
    gives_again error_at c.args.code.now 2 (view c.in_ok-value.value) (error_data c.args.code.now) c.print.result c.in_ok-value.ensures (error_plain c.args.code.now) (lit≤ tt) (error_again c.args.code.now) c.print.ensures.read_again
