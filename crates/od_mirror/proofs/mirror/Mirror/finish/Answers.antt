use Rattle.od_mirror.proofs.mirror.Mirror.finish.Goals as goal

pub returns-in-Err-clause-bad : goal.returns-in-Err-clause-bad
returns-in-Err-clause-bad c n is = rw (← c.self.view_is) (c.in-Err.ensures.bad n (cc))
