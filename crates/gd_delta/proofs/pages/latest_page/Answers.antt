use Rattle.gd_delta.proofs.Serving.{newest}
use Rattle.gd_delta.proofs.pages.latest_page.Goals as goal

pub returns-clause-page : goal.returns-clause-page
returns-clause-page c = λ state stands. newest state c.epoch.result c.number-number.result (c.epoch.ensures state.effects state.epoch state.floor stands) (c.number-number.ensures state.effects state.epoch state.floor stands) c.new.result c.in_ok-link.link c.new.ensures c.in_ok-link.ensures.link
