use Rattle.serde_json.specs.View.{view}
use Rattle.gd_json.specs.Sessions.{session_at}
use Rattle.gd_json.proofs.Through.{gives}
use Rattle.gd_json.proofs.session.read_session.Goals as goal

pub returns : goal.returns
returns c = gives (session_at c.args.wire.now.base) c.session_body.result c.args.bytes.now (view c.in_ok-value.value) c.in_ok-value.ensures c.session_body.ensures
