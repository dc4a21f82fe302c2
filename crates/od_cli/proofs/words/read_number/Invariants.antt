use Rattle.std.proofs.Common.{◌≡◌, ◌≤◌, drop}
use Rattle.gd_item.specs.Tokens.{digits_value}
use Rattle.od_cli.proofs.words.read_number.Given as goal

abbrev pub invariant-loop-byte : goal.invariant-loop-byte
invariant-loop-byte l = (digits_value 0 l.word ≡ digits_value l.value (drop l.byte-index l.word)) × (l.value ≤ l.most)
