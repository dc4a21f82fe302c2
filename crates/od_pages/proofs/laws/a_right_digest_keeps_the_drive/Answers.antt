use Rattle.od_pages.proofs.Learning.{learned-sound}
use Rattle.od_pages.proofs.laws.a_right_digest_keeps_the_drive.Goals as goal

pub returns : goal.returns
returns c log items token id etag digest now are there = learned-sound log items id etag digest there token now are
