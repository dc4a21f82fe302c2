use Rattle.od_keeper.proofs.Growing.{sound-stays}
use Rattle.od_keeper.proofs.laws.soundness_is_kept.Goals as goal

pub returns : goal.returns
returns c = sound-stays
