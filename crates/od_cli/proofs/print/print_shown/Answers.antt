use Rattle.gd_item.specs.Inventory.{inventory}
use Rattle.od_cli.proofs.Listed.{never-bare, never-deleted}
use Rattle.od_cli.proofs.print.print_shown.Goals as goal

pub unreachable-requires : goal.unreachable-requires
unreachable-requires c = never-bare (inventory c.requires.0) c.args.item.now c.requires.2 c.in-Bare.is

pub unreachable-requires-in-Deleted : goal.unreachable-requires-in-Deleted
unreachable-requires-in-Deleted c = never-deleted (inventory c.requires.0) c.args.item.now c.requires.2 c.in-Deleted.is
