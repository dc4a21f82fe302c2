use Rattle.od_run.proofs.Goods.{images-sound}
use Rattle.od_run.proofs.laws.its_images_are_sound.Goals as goal

pub returns : goal.returns
returns c = images-sound
