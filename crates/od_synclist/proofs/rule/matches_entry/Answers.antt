use Rattle.std.proofs.Common.{◌||◌, not}
use Rattle.od_synclist.proofs.Ends.{entry_is}
use Rattle.od_synclist.proofs.rule.matches_entry.Goals as goal

pub returns : goal.returns
returns c =
    rw (c.reach.ensures, c.as_slice.ensures, c.is_for.ensures)
    (entry_is c.args.rule.now.components c.args.names.now (c.args.folder || not c.args.rule.now.folders))
