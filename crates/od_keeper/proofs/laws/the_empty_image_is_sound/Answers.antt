use Rattle.od_keeper.proofs.Growing.{sound-empty}
use Rattle.od_keeper.proofs.laws.the_empty_image_is_sound.Goals as goal

pub returns : goal.returns
returns c = sound-empty
