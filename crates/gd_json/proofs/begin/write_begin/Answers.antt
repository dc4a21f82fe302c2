use Rattle.serde_json.specs.View.{view}
use Rattle.gd_json.proofs.BodiesAgain.{begin_gives}
use Rattle.gd_json.proofs.begin.write_begin.Goals as goal

pub returns-clause-read_again : goal.returns-clause-read_again
returns-clause-read_again c = begin_gives c.args.body.now (view c.in_ok-value.value) c.print.result c.in_ok-value.ensures c.print.ensures.read_again
