use Rattle.std.proofs.Common.{◌∙◌}
use Rattle.gd_store.proofs.Records.{written-path}
use Rattle.gd_store.proofs.edit.written_path.Goals as goal

pub returns : goal.returns
returns c = c.in_ok-text.ensures ∙ written-path c.args.items.now c.args.item.now.number c.args.change c.args.item.now.parent c.args.bytes.now c.requires.file
