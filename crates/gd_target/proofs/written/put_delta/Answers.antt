use Rattle.gd_target.specs.Targets.{delta_text}
use Rattle.gd_target.proofs.written.put_delta.Goals as goal

pub returns-in-Some : goal.returns-in-Some
unfolding delta_text
returns-in-Some c = rw c.in-Some.is (rw (c.as_bytes.ensures) at c.put_both.ensures)
