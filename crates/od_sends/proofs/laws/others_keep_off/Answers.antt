use Rattle.od_sends.proofs.Keeping.{others-apart}
use Rattle.od_sends.proofs.laws.others_keep_off.Goals as goal

pub returns : goal.returns
returns c = λ old part others fair. others-apart old part others fair
