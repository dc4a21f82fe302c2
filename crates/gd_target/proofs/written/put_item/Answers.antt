use Rattle.gd_target.specs.Targets.{item_text}
use Rattle.gd_target.proofs.written.put_item.Goals as goal

pub returns : goal.returns
unfolding item_text
returns c = rw (c.as_bytes.ensures, c.in_ok-id.ensures) at c.put_both.ensures
