use Rattle.gd_frame.specs.Syntax.{syntax_of}
use Rattle.gd_frame.proofs.Heads.{plain}
use Rattle.gd_frame.proofs.Streams.{one_reading}
use Rattle.gd_frame.proofs.laws.one_reading.Goals as goal

pub returns : goal.returns
returns c = λ kind. one_reading (syntax_of kind) (plain kind)
