use Rattle.std.proofs.Common.{◌≡◌, ℕ, ◌<◌, ◌++◌, false, length, take, slice_index_or}
use Rattle.gd_names.specs.Copies.{four_digits, is_among}
use Rattle.gd_names.proofs.copy.taken_numbers.Given as goal

abbrev pub invariant-loop-other : goal.invariant-loop-other
invariant-loop-other l = record {
  len : length l.numbers.items ≡ 10000;
  taken : (n : ℕ) → n < 10000 → slice_index_or l.numbers.items n false ≡ is_among (take l.other-index l.taken) (l.front ++ four_digits n ++ l.extension);
}
