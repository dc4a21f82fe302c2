use Rattle.gd_target.specs.Targets.{behaviour_query}
use Rattle.gd_target.proofs.written.put_behaviour.Goals as goal

pub returns : goal.returns
unfolding behaviour_query
returns c = rw (c.behaviour_text.ensures) at c.put_both.ensures
