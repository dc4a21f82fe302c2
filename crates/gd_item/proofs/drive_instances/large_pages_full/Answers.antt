use Rattle.std.proofs.Common.{refl}
use Rattle.std.specs.Fmt.{digits}
use Rattle.gd_item.proofs.drive_instances.large_pages_full.Goals as goal

pub returns-clause-one_link : goal.returns-clause-one_link
unfolding digits
returns-clause-one_link c = refl

pub returns-clause-first_link : goal.returns-clause-first_link
unfolding digits
returns-clause-first_link c = refl

pub returns-clause-second : goal.returns-clause-second
unfolding digits
returns-clause-second c = refl

pub returns-clause-second_link : goal.returns-clause-second_link
unfolding digits
returns-clause-second_link c = refl
