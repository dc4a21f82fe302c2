use Rattle.gd_target.specs.Targets.{downloads_text}
use Rattle.gd_target.proofs.written.put_downloads.Goals as goal

pub returns : goal.returns
unfolding downloads_text
returns c = rw (c.as_bytes.ensures, c.in_ok-id.ensures) at c.put_both.ensures
