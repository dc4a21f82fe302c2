use Rattle.std.proofs.Common.{sym, ◌∙◌}
use Rattle.od_synclist.specs.Search.{reaches, is_end}
use Rattle.od_synclist.proofs.Walking.{from_later_run, at_end, failed, none_left}
use Rattle.od_synclist.proofs.matching.reach_later.Goals as goal

pub tries-preserved-then-is_at_run : goal.tries-preserved-then-is_at_run
tries-preserved-then-is_at_run g c =
    c.tries.invariant ∙ from_later_run g.P.Part.is_run g.P.Part.takes (is_end c.args.whole c.args.fewer) c.tries.after_run.now c.walk.result.0.now c.tries.from.now c.walk.result.1.now
    c.walk.ensures (sym c.if-is_at_run.ensures.value)

pub returns-then-is_at_end : goal.returns-then-is_at_end
returns-then-is_at_end g c =
    sym (c.tries.invariant ∙ at_end g.P.Part.is_run g.P.Part.takes (is_end c.args.whole c.args.fewer) c.tries.after_run.now c.walk.result.0.now c.tries.from.now c.walk.result.1.now
    c.walk.ensures (sym c.if-is_at_end.ensures))

pub returns-in_default : goal.returns-in_default
returns-in_default g c =
    let reach = reaches g.P.Part.is_run g.P.Part.takes (is_end c.args.whole c.args.fewer) c.tries.after_run.now in
    sym (c.tries.invariant ∙ none_left g.P.Part.is_run g.P.Part.takes reach c.tries.from.now c.in_default.len_below
    (failed g.P.Part.is_run g.P.Part.takes (is_end c.args.whole c.args.fewer) c.tries.after_run.now c.walk.result.0.now c.tries.from.now c.walk.result.1.now
    c.walk.ensures (sym c.if-is_at_run.ensures.value) (sym c.if-is_at_end.ensures)))
