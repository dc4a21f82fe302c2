use Rattle.gd_delta.proofs.Fields.{no_dot, one_dot, three_dots, two_dots}
use Rattle.gd_delta.proofs.token.three_fields.Goals as goal

pub returns-in_default : goal.returns-in_default
returns-in_default c = no_dot c.args.text.now c.in_default.ensures

pub returns-in_default-cut_at_dot : goal.returns-in_default-cut_at_dot
returns-in_default-cut_at_dot c = one_dot c.args.text.now c.in-Some.first.now c.in-Some.others.now c.in-Some.ensures c.in_default-cut_at_dot.ensures

pub returns-in-Some-cut_at_dot-2 : goal.returns-in-Some-cut_at_dot-2
returns-in-Some-cut_at_dot-2 c =
    three_dots c.args.text.now c.in-Some.first.now c.in-Some.others.now c.in-Some-cut_at_dot.second.now c.in-Some-cut_at_dot.third.now (c.in-Some-cut_at_dot-2.field-0.0.now, c.in-Some-cut_at_dot-2.field-0.1.now)
    c.in-Some.ensures c.in-Some-cut_at_dot.ensures c.in-Some-cut_at_dot-2.ensures

pub returns-in-None : goal.returns-in-None
returns-in-None c =
    two_dots c.args.text.now c.in-Some.first.now c.in-Some.others.now c.in-Some-cut_at_dot.second.now c.in-Some-cut_at_dot.third.now c.in-Some.ensures c.in-Some-cut_at_dot.ensures c.in-None.ensures
