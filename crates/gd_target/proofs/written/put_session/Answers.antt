use Rattle.gd_target.specs.Targets.{session_text}
use Rattle.gd_target.proofs.written.put_session.Goals as goal

pub returns : goal.returns
unfolding session_text
returns c = rw (c.as_bytes.ensures, c.in_ok-session.ensures) at c.put_both.ensures
