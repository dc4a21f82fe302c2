use Rattle.gd_frame.specs.Syntax.{syntax_of}
use Rattle.gd_frame.proofs.Heads as heads
use Rattle.gd_http.proofs.laws.one_cause.Goals as goal

pub returns : goal.returns
returns c = λ kind. heads.one_cause (syntax_of kind) (heads.plain kind)
