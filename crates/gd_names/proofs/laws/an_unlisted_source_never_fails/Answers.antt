use Rattle.gd_names.specs.Memory.{read_counts_of}
use Rattle.gd_names.proofs.Calls.{unlisted-faults}
use Rattle.gd_names.proofs.laws.an_unlisted_source_never_fails.Goals as goal

pub returns : goal.returns
returns c = λ before after none went. unlisted-faults went.calls before.failing (read_counts_of before) (read_counts_of after) none went.counts
