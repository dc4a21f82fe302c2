use Rattle.std.proofs.Common.{ap, ◌∙◌}
use Rattle.std.specs.Option.{option_map}
use Rattle.gd_item.specs.Records.{parent_path_text}
use Rattle.gd_store.proofs.Records.{placed-path}
use Rattle.gd_store.proofs.edit.placed_path.Goals as goal

pub returns : goal.returns
returns c = c.in_ok-text.ensures ∙ ap (option_map parent_path_text) (c.in_ok-path.ensures ∙ placed-path c.args.items.now c.args.number c.args.change c.args.parent c.args.name.now)
