use Rattle.od_uploads.proofs.Uploading.{readings-only}
use Rattle.od_uploads.proofs.laws.it_uploads_readings_only.Goals as goal

pub returns : goal.returns
returns c = readings-only
