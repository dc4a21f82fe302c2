use Rattle.od_merge.proofs.Digests.{folder-over-as-base, removed-as-base, replaced-as-base}
use Rattle.od_merge.proofs.laws.files_that_go_are_as_agreed.Goals as goal

pub returns-clause-removed : goal.returns-clause-removed
returns-clause-removed c = removed-as-base

pub returns-clause-by_folder : goal.returns-clause-by_folder
returns-clause-by_folder c = folder-over-as-base

pub returns-clause-by_file : goal.returns-clause-by_file
returns-clause-by_file c = replaced-as-base
