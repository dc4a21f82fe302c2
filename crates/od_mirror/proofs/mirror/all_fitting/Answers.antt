use Rattle.std.proofs.Common.{◌∙◌, refl}
use Rattle.od_mirror.proofs.Rising.{rise-values, least-bad-is}
use Rattle.od_mirror.proofs.mirror.all_fitting.Goals as goal

pub first_bad-requires : goal.first_bad-requires
first_bad-requires c =
    rw (c.deref.ensures.value, c.in_ok-sorted.ensures.same) (rise-values c.args.items.entries c.in_ok-sorted.ensures.ordered c.requires)

pub returns-in-Some-clause-bad : goal.returns-in-Some-clause-bad
returns-in-Some-clause-bad c n is =
    least-bad-is c.args.items.entries c.deref.result.now c.in-Some.number n (c.deref.ensures.value ∙ c.in_ok-sorted.ensures.same) (cc) (c.in_ok-bad.ensures.some c.in-Some.number c.in-Some.is)

pub returns-in-None-clause-rise : goal.returns-in-None-clause-rise
returns-in-None-clause-rise c =
    rw (c.in_ok-sorted.ensures.same) (rise-values c.args.items.entries c.in_ok-sorted.ensures.ordered c.requires)
