use Rattle.std.proofs.Common.{◌≤◌, inl, sym, subst, arith}
use Rattle.gd_delta.proofs.Serving.{ahead, served}
use Rattle.gd_delta.proofs.delta.page_for.Goals as goal

pub returns-then-is_ahead-clause-answer : goal.returns-then-is_ahead-clause-answer
returns-then-is_ahead-clause-answer c =
    λ state stands.
    inl (ahead state c.epoch.result c.number-number.result (c.epoch.ensures state.effects state.epoch state.floor stands) (c.number-number.ensures state.effects state.epoch state.floor stands) c.args.token.now c.args.size c.if-token-epoch.false (sym c.if-is_ahead.ensures))

pub returns-clause-answer : goal.returns-clause-answer
returns-clause-answer c =
    λ state stands.
    let late : c.floor.result ≤ c.max.result = omega arith in
    inl
    (served state c.epoch.result c.number-number.result (c.epoch.ensures state.effects state.epoch state.floor stands) (c.number-number.ensures state.effects state.epoch state.floor stands) c.args.token.now c.args.size c.floor.result c.in_ok-page.page c.if-token-epoch.false (sym c.if-is_ahead.ensures)
    (c.floor.ensures state.effects state.epoch state.floor stands) (subst (λ n. c.floor.result ≤ n) c.max.ensures late) (c.in_ok-page.ensures.page state stands))
