use Rattle.std.proofs.Common.{inl, ap}
use Rattle.std.specs.Option.{option_copied}
use Rattle.gd_delta.proofs.Serving.{fresh}
use Rattle.gd_delta.proofs.delta.page.Goals as goal

pub returns-in_default-clause-answer : goal.returns-in_default-clause-answer
returns-in_default-clause-answer c =
    λ state stands.
    inl
    (fresh c.args.store.now state c.number.result c.args.size (option_copied c.args.token) c.in_ok-page.page stands (c.number.ensures state.effects state.epoch state.floor stands) (ap option_copied c.in_default.is)
    (c.in_ok-page.ensures.page state stands))
