use Rattle.gd_frame.specs.Syntax.{syntax_of}
use Rattle.gd_frame.proofs.Heads.{plain, cause_never}
use Rattle.gd_frame.proofs.laws.bad_for_good.Goals as goal

pub returns : goal.returns
returns c = λ kind. cause_never (syntax_of kind) (plain kind)
