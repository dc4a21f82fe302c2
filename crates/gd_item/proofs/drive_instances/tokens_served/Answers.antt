use Rattle.std.proofs.Common.{refl}
use Rattle.std.specs.Fmt.{digits}
use Rattle.gd_item.proofs.drive_instances.tokens_served.Goals as goal

pub returns-clause-old : goal.returns-clause-old
unfolding digits
returns-clause-old c = refl

pub returns-clause-page : goal.returns-clause-page
unfolding digits
returns-clause-page c = refl

pub returns-clause-epoch : goal.returns-clause-epoch
unfolding digits
returns-clause-epoch c = refl

pub returns-clause-ahead : goal.returns-clause-ahead
unfolding digits
returns-clause-ahead c = refl

pub returns-clause-latest_link : goal.returns-clause-latest_link
unfolding digits
returns-clause-latest_link c = refl
