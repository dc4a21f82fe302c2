use Rattle.std.proofs.Common.{◌≡◌, ◌^◌, true, ◌<◌, take}
use Rattle.std.specs.List.{list_all}
use Rattle.gd_item.specs.Ids.{is_upper_hex, hex_number_from}
use Rattle.gd_item.proofs.id.hex_number.Given as goal

abbrev pub invariant-loop-digit : goal.invariant-loop-digit
invariant-loop-digit l = record {
  number : l.number ≡ hex_number_from 0 (take l.digit-index l.digits);
  hex : list_all is_upper_hex (take l.digit-index l.digits) ≡ true;
  small : l.number < 16 ^ l.digit-index;
}
