use Rattle.std.proofs.Common.{ap, sym, ◌∙◌}
use Rattle.std.specs.Option.{option_copied}
use Rattle.gd_store.proofs.Siblings.{found-live}
use Rattle.gd_store.proofs.record.record_at.Goals as goal

pub record_of-requires : goal.record_of-requires
record_of-requires c = found-live c.args.number c.args.items.now c.in-Some.item.now (sym c.get.ensures ∙ ap option_copied c.in-Some.is)
