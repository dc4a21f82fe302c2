use Rattle.od_keeper.specs.Keeping.{last_image}
use Rattle.od_run.proofs.Chaining.{chained}
use Rattle.od_run.proofs.laws.its_tokens_are_a_chain.Goals as goal

pub returns : goal.returns
returns c = λ w events legal. chained w (last_image w.images) events legal
