use Rattle.od_tree.proofs.Staying.{stays}
use Rattle.od_tree.proofs.laws.only_the_user_or_a_discard_takes_a_file.Goals as goal

pub returns : goal.returns
returns c = stays
