use Rattle.gd_item.proofs.Effects.{number-inventory}
use Rattle.gd_item.proofs.tree_laws.numbers_count_effects.Goals as goal

pub returns : goal.returns
returns c = number-inventory
