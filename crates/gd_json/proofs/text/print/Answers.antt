use Rattle.gd_json.proofs.Through.{body_read}
use Rattle.gd_json.proofs.text.print.Goals as goal

pub returns-clause-read_again : goal.returns-clause-read_again
returns-clause-read_again c = rw c.from_vec.ensures (λ shallow. body_read c.in_ok-bytes.bytes.items _ c.in_ok-bytes.ensures.utf8 (c.in_ok-bytes.ensures.reads_back shallow))
