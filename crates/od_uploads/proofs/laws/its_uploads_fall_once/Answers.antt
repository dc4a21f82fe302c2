use Rattle.od_uploads.proofs.Falling.{fall-once}
use Rattle.od_uploads.proofs.laws.its_uploads_fall_once.Goals as goal

pub returns : goal.returns
returns c = fall-once
