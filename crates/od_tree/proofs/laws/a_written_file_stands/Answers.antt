use Rattle.od_tree.proofs.Replacing.{write_stands}
use Rattle.od_tree.proofs.laws.a_written_file_stands.Goals as goal

pub returns : goal.returns
returns c = write_stands
