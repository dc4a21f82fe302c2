use Rattle.gd_target.specs.Targets.{address_text}
use Rattle.gd_target.proofs.written.put_address.Goals as goal

pub returns-in_ok-text-in-ByPath : goal.returns-in_ok-text-in-ByPath
unfolding address_text
returns-in_ok-text-in-ByPath c = rw c.in-ByPath.is (rw (c.as_bytes.ensures, c.in_ok-text-in-ByPath.ensures) at c.put_both.ensures)
