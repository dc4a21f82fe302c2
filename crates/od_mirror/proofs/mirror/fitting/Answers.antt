use Rattle.od_mirror.proofs.mirror.fitting.Goals as goal

pub returns-clause-bad : goal.returns-clause-bad
returns-clause-bad c n is = rw (← c.in_ok-take_records.ensures.ok) (c.all_fitting.ensures.bad n is)
