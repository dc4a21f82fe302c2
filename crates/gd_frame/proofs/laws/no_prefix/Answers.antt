use Rattle.gd_frame.specs.Syntax.{syntax_of}
use Rattle.gd_frame.proofs.Heads.{plain}
use Rattle.gd_frame.proofs.Streams.{one_message}
use Rattle.gd_frame.proofs.laws.no_prefix.Goals as goal

pub returns : goal.returns
returns c = λ kind a b x y. (one_message (syntax_of kind) (plain kind) a b x y).0
