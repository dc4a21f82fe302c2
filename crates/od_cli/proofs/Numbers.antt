-- Digits that follow never make a number less.
use Rattle.std.proofs.Common.{◌≡◌, ℕ, ◌+◌, ◌-◌, ◌*◌, ◌<◌, ◌≤◌, Bool, true, false, ◌&&◌, cond, nat_le, List, [], ◌∷◌, length, drop, get_or, Some, None, refl, sym, ap, ◌∙◌, arith}
use Rattle.std.proofs.lemmas.Bool.Decides.{nat_tests}
use Rattle.std.proofs.lemmas.List.{drop_more}
use Rattle.gd_item.specs.Tokens.{digits_value}
use Rattle.od_cli.specs.Script.{is_number, script_number}

pub grows : (high : ℕ) (digits : List ℕ) → high ≤ digits_value high digits
grows high [] = omega arith
grows high (b ∷ digits) = let more : 10 * high + (b - 48) ≤ digits_value (10 * high + (b - 48)) digits = grows (10 * high + (b - 48)) digits in omega arith

past : (a b : ℕ) → b < a → nat_le a b ≡ false
past a b lt = grind (arith, nat_tests)

neither : (a b : Bool) → b ≡ false → (a && b) ≡ false
neither true b h = h
neither false b h = refl

-- a number that has passed the most is none
pub too-great : (most value : ℕ) (word rest : List ℕ) → digits_value 0 word ≡ digits_value value rest → most < value → script_number most word ≡ None
too-great most value word rest is past_most =
    let more : value ≤ digits_value value rest = grows value rest in
    let far : most < digits_value 0 word = omega (arith, is) in
    ap (λ b. cond b (Some (digits_value 0 word)) None) (neither (is_number word) (nat_le (digits_value 0 word) most) (past (digits_value 0 word) most far))

-- one more digit
pub next-digit : (word : List ℕ) (value i digit : ℕ) → i < length word → digit ≡ get_or word i 0 - 48 → digits_value 0 word ≡ digits_value value (drop i word) → digits_value 0 word ≡ digits_value (10 * value + digit) (drop (i + 1) word)
next-digit word value i digit lt is before =
    before ∙ ap (digits_value value) (drop_more word i 0 lt) ∙ ap (λ d. digits_value (10 * value + d) (drop (i + 1) word)) (sym is)
