use Rattle.gd_frame.specs.Syntax.{syntax_of}
use Rattle.gd_frame.proofs.Heads.{never_long}
use Rattle.gd_frame.proofs.head.open.Goals as goal

pub returns-else-bytes-lt-MAX_HEAD : goal.returns-else-bytes-lt-MAX_HEAD
returns-else-bytes-lt-MAX_HEAD c = never_long (syntax_of c.args.kind) c.args.bytes.now c.requires.none c.if-bytes-lt-MAX_HEAD.false
