use Rattle.std.proofs.Common.{◌≡◌, drop}
use Rattle.std.specs.List.{list_all}
use Rattle.gd_item.specs.Written.{is_token_byte}
use Rattle.od_sync.proofs.delta.are_token_bytes.Given as goal

abbrev pub invariant-loop-byte : goal.invariant-loop-byte
invariant-loop-byte l = list_all is_token_byte l.text ≡ list_all is_token_byte (drop l.byte-index l.text)
