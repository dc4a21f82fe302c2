use Rattle.std.proofs.Common.{◌≡◌, ℕ, ◌+◌, ◌≤◌, false, length, take, slice_index_or}
use Rattle.gd_names.specs.Numbered.{numbered}
use Rattle.gd_names.specs.Settling.{is_taken}
use Rattle.gd_conflict.proofs.rename.taken_numbers.Given as goal

abbrev pub invariant-loop-sibling : goal.invariant-loop-sibling
invariant-loop-sibling l = record {
  len : length l.numbers.items ≡ length l.siblings + 1;
  taken : (n : ℕ) → 1 ≤ n → n ≤ length l.siblings → slice_index_or l.numbers.items n false ≡ is_taken (take l.sibling-index l.siblings) (numbered l.name l.folder n);
}
