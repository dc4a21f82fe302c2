-- The first bad line, line by line.
use Rattle.std.proofs.Common.{◌≡◌, ℕ, ◌+◌, ◌≤◌, List, [], length, count_by}
use Rattle.std.specs.Str.Lines.{lines}
use Rattle.od_synclist.specs.Rules.{first_bad, is_rule}

-- the lines before what is left were none of them bad
pub record NoneBad (bytes rest : List ℕ) (number rules : ℕ) : Type 0 where
  pub before : List (List ℕ)
  pub same : first_bad [] (lines bytes) ≡ first_bad before (lines rest)
  pub number_is : number ≡ length before + 1
  pub rules_are : rules ≡ count_by is_rule before
  pub number_fits : number + length rest ≤ length bytes + 1
  pub rules_fit : rules + length rest ≤ length bytes
