use Rattle.std.proofs.Common.{Err, ap}
use Rattle.od_cli.proofs.Pulls.{never-bad-pull}
use Rattle.od_cli.proofs.pull.paths_pulled.Goals as goal

pub finish-requires : goal.finish-requires
finish-requires c = c.requires.1.last

pub unreachable-requires : goal.unreachable-requires
unreachable-requires c =
    never-bad-pull c.requires.0 c.args.mirror c.in-Err-BadPages.field-0-0.0 c.requires.1 c.requires.2 (c.in-Err-BadPages.ensures.bad c.in-Err-BadPages.field-0-0.0 (ap Err c.in-Err-BadPages.field-0-is))
