use Rattle.std.proofs.Common.{None}
use Rattle.od_sync.specs.Pulls.{seen}
use Rattle.od_pages.proofs.Pulling.{first-items, first-token}
use Rattle.od_sync.proofs.KeptPull.{is-last-page}
use Rattle.od_sync.proofs.laws.a_first_pull_mirrors_the_drive.Goals as goal

pub returns-clause-items : goal.returns-clause-items
returns-clause-items c old after view pulled =
    first-items (seen old pulled.last) pulled.last.page view (is-last-page None old after pulled.last) pulled.view_is pulled.last.heard.plain

pub returns-clause-token : goal.returns-clause-token
returns-clause-token c old after view pulled = first-token (seen old pulled.last) pulled.last.page view (is-last-page None old after pulled.last) pulled.view_is
