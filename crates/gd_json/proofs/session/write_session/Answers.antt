use Rattle.std.proofs.Common.{lit≤}
use Rattle.serde_json.specs.View.{view}
use Rattle.gd_json.specs.Sessions.{session_at, session_data}
use Rattle.gd_json.proofs.BodiesAgain.{session_plain}
use Rattle.gd_json.proofs.BodiesAgain.{session_body_again}
use Rattle.gd_json.proofs.Through.{gives_again}
use Rattle.gd_json.proofs.session.write_session.Goals as goal

pub returns-clause-read_again : goal.returns-clause-read_again
returns-clause-read_again c =
    gives_again (session_at c.args.wire.now.base) c.args.body.now 2 (view c.in_ok-value.value) (session_data c.args.wire.now.base c.args.body.now) c.print.result c.in_ok-value.ensures (session_plain c.args.wire.now.base c.args.body.now) (lit≤ tt) (session_body_again c.args.wire.now.base c.args.body.now c.known_session.ensures c.known_number.ensures) c.print.ensures.read_again
