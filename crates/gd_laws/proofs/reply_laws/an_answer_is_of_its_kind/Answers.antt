use Rattle.gd_laws.proofs.Answered.{answer-log}
use Rattle.gd_laws.proofs.reply_laws.an_answer_is_of_its_kind.Goals as goal

pub returns : goal.returns
returns c = answer-log
