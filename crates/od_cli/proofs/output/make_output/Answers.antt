use Rattle.od_cli.proofs.Scripts.{script-allowed}
use Rattle.od_cli.proofs.output.make_output.Goals as goal

pub play-requires : goal.play-requires
play-requires c = script-allowed c.args.text.now c.in-Ok.lines c.as_slice.result.now c.in-Ok.ensures.ok c.as_slice.ensures
