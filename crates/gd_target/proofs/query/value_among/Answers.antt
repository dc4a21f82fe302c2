use Rattle.std.proofs.Common.{refl}
use Rattle.std.proofs.lemmas.Result.{err_from_is_err_and}
use Rattle.gd_target.specs.Queries.{shown}
use Rattle.gd_target.proofs.Values.{goes_on, ends, refused}
use Rattle.gd_target.proofs.query.value_among.Goals as goal

pub returns-in_err-found : goal.returns-in_err-found
returns-in_err-found c =
    let p = err_from_is_err_and c.from_residual.result c.from_residual.ensures.1 in
    rw (p.1, p.2, c.in_err-found.ensures.err.0)
    (refused c.args.member c.args.query.now c.parts.rest.now c.cut.result.0.now (shown c.cut.result.1) (shown c.value_in.result) (shown c.parts.found)
    c.cut.ensures.parts c.value_in.ensures c.parts.invariant c.in_err-found.ensures.err.1)

pub returns-in_default : goal.returns-in_default
returns-in_default c =
    ends c.args.member c.args.query.now c.parts.rest.now c.cut.result.0.now (shown c.cut.result.1) (shown c.value_in.result) (shown c.parts.found) (shown c.in_ok-found.found)
    c.cut.ensures.parts c.value_in.ensures c.parts.invariant c.in_ok-found.ensures.ok (rw c.in_default.is refl)

pub parts-preserved : goal.parts-preserved
parts-preserved c =
    let on = goes_on c.args.member c.args.query.now c.parts.rest.now c.cut.result.0.now (shown c.cut.result.1) (shown c.value_in.result) (shown c.parts.found) (shown c.in_ok-found.found)
    c.cut.ensures.parts c.value_in.ensures c.parts.invariant c.in_ok-found.ensures.ok in
    rw c.in-Some.is at on
