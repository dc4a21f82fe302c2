use Rattle.gd_item.specs.Ids.{hex_digits}
use Rattle.gd_item.proofs.Hex.{length-hex_digits, list_all-hex_digits, hex_number_from-hex_digits, read_digits}
use Rattle.gd_item.proofs.laws.ids_read_back.Goals as goal

pub returns : goal.returns
returns c n some small =
    read_digits (hex_digits 16 n) n (length-hex_digits 16 n) (list_all-hex_digits 16 n) (hex_number_from-hex_digits 16 n small) some
