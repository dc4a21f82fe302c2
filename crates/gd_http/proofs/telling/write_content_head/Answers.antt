use Rattle.gd_http.proofs.Contents.{content_written}
use Rattle.gd_http.proofs.telling.write_content_head.Goals as goal

pub returns : goal.returns
returns c = λ base. content_written base c.args.bytes.now c.in_ok-head.head c.in_ok-head.ensures
