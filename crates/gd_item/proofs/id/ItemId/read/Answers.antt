use Rattle.std.proofs.Common.{◌-◌, length, take, drop, ap, arith, take_all, length-drop}
use Rattle.std.specs.Option.{option_map}
use Rattle.gd_item.specs.Ids.{item_id}
use Rattle.gd_item.proofs.Hex.{read_some}
use Rattle.gd_item.proofs.id.ItemId.read.Goals as goal

pub returns-else-number-eq0 : goal.returns-else-number-eq0
returns-else-number-eq0 c =
    let text = c.args.text.now in
    ap (option_map item_id) (read_some text (take (length text - 4) (drop 4 text)) c.in_ok-number.number (omega arith) (cc) (take_all (length text - 4) (drop 4 text) (omega (arith, length-drop 4 text))) c.in_ok-number.ensures c.if-number-eq0.false)
