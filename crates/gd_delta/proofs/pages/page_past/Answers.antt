use Rattle.gd_delta.proofs.Serving.{past}
use Rattle.gd_delta.proofs.pages.page_past.Goals as goal

pub returns-clause-page : goal.returns-clause-page
returns-clause-page c =
    λ state stands reached.
    let found = c.in_ok-items.ensures.complete state.effects state.epoch state.floor stands reached in
    past state c.epoch.result c.number.result (c.epoch.ensures state.effects state.epoch state.floor stands) (c.number.ensures state.effects state.epoch state.floor stands)
    c.args.position c.args.start c.args.size c.in_ok-items.items c.in_ok-items.last c.in_ok-link.link found.0 found.1 c.in_ok-link.ensures.link
