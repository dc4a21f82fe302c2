use Rattle.gd_target.specs.Targets.{skip_text}
use Rattle.gd_target.proofs.written.put_skip.Goals as goal

pub returns : goal.returns
unfolding skip_text
returns c = rw (c.as_bytes.ensures, c.in_ok-segment.ensures) at c.put_both.ensures
