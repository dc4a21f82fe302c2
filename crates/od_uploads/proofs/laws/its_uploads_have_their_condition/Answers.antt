use Rattle.od_uploads.proofs.Conditions.{under-condition-always}
use Rattle.od_uploads.proofs.laws.its_uploads_have_their_condition.Goals as goal

pub returns : goal.returns
returns c = under-condition-always
