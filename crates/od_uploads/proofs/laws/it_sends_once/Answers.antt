use Rattle.od_uploads.proofs.Once.{sends-once}
use Rattle.od_uploads.proofs.laws.it_sends_once.Goals as goal

pub returns : goal.returns
returns c = sends-once
