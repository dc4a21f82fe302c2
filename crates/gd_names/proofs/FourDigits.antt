-- Four bytes against the four digits of a number.
use Rattle.std.proofs.Common.{◌≡◌, ℕ, ◌+◌, ◌-◌, ◌*◌, ◌/◌, ◌%◌, ◌<◌, ◌≤◌, true, false, List, [], ◌∷◌, length, get_or, nat_eq, refl, ap, arith}
use Rattle.std.specs.Char.{to_ascii_lowercase, is_ascii_digit}
use Rattle.std.specs.Cmp.{both_ways}
use Rattle.std.specs.List.{list_all}
use Rattle.std.proofs.lemmas.Bool.{false_from_ne_true, and_parts, and_from, eqb-true, eq-eqb, leb-true, le-leb, both_ways as both}
use Rattle.std.proofs.lemmas.Bool.Decides.{nat_tests}
use Rattle.gd_names.specs.Caseless.{equal_caseless}
use Rattle.gd_names.specs.Copies.{four_digits}

-- a digit has no case
digit_itself : (x d : ℕ) → d < 10 → nat_eq (to_ascii_lowercase x) (to_ascii_lowercase (48 + d)) ≡ true → x ≡ 48 + d
digit_itself x d small same = grind (arith, nat_tests)

record AreDigits (a b c d n : ℕ) : Type 0 where
  thousands : a ≡ 48 + n / 1000 % 10
  hundreds : b ≡ 48 + n / 100 % 10
  tens : c ≡ 48 + n / 10 % 10
  ones : d ≡ 48 + n % 10

digits_of_equal : (a b c d n : ℕ) → equal_caseless (a ∷ b ∷ c ∷ d ∷ []) (four_digits n) ≡ true → AreDigits a b c d n
digits_of_equal a b c d n same =
    let first = and_parts _ _ same in
    let second = and_parts _ _ first.1 in
    let third = and_parts _ _ second.1 in
    let fourth = and_parts _ _ third.1 in
    record {
      thousands = digit_itself a (n / 1000 % 10) (omega arith) first.0;
      hundreds = digit_itself b (n / 100 % 10) (omega arith) second.0;
      tens = digit_itself c (n / 10 % 10) (omega arith) third.0;
      ones = digit_itself d (n % 10) (omega arith) fourth.0;
    }

equal_of_digits : (a b c d n : ℕ) → AreDigits a b c d n → equal_caseless (a ∷ b ∷ c ∷ d ∷ []) (four_digits n) ≡ true
equal_of_digits a b c d n are =
    let same : (x y : ℕ) → x ≡ y → nat_eq (to_ascii_lowercase x) (to_ascii_lowercase y) ≡ true = λ x y e. eq-eqb (to_ascii_lowercase x) (to_ascii_lowercase y) (ap to_ascii_lowercase e) in
    and_from _ _ (same a _ are.thousands) (and_from _ _ (same b _ are.hundreds) (and_from _ _ (same c _ are.tens) (and_from _ _ (same d _ are.ones) refl)))

abbrev value : ℕ → ℕ → ℕ → ℕ → ℕ
value a b c d = ((a - 48) * 10 + (b - 48)) * 100 + ((c - 48) * 10 + (d - 48))

value_of_digits : (a b c d n : ℕ) → n < 10000 → AreDigits a b c d n → n ≡ value a b c d
value_of_digits a b c d n small are = omega arith

record Between (a : ℕ) : Type 0 where
  low : 48 ≤ a
  high : a ≤ 57

digits_of_value : (a b c d n : ℕ) → Between a → Between b → Between c → Between d → n ≡ value a b c d → AreDigits a b c d n
digits_of_value a b c d n in_a in_b in_c in_d is =
    record { thousands = omega arith; hundreds = omega arith; tens = omega arith; ones = omega arith }

digit_between : (a : ℕ) → is_ascii_digit a ≡ true → Between a
digit_between a is =
    let parts = and_parts _ _ is in
    record { low = leb-true 48 a parts.0; high = leb-true a 57 parts.1 }

between_digit : (a x : ℕ) → a ≡ 48 + x % 10 → is_ascii_digit a ≡ true
between_digit a x is = and_from _ _ (le-leb 48 a (omega arith)) (le-leb a 57 (omega arith))

all_of_digits : (a b c d n : ℕ) → AreDigits a b c d n → list_all is_ascii_digit (a ∷ b ∷ c ∷ d ∷ []) ≡ true
all_of_digits a b c d n are =
    and_from _ _ (between_digit a (n / 1000) are.thousands)
    (and_from _ _ (between_digit b (n / 100) are.hundreds) (and_from _ _ (between_digit c (n / 10) are.tens) (and_from _ _ (between_digit d n are.ones) refl)))

-- bytes that are not all digits write no number
pub not_digits : (digits : List ℕ) → 4 ≤ length digits → length digits < 5 → list_all is_ascii_digit digits ≡ false → (n : ℕ) → equal_caseless digits (four_digits n) ≡ false
not_digits [] some few other n = absurd (omega arith)
not_digits (a ∷ []) some few other n = absurd (omega arith)
not_digits (a ∷ b ∷ []) some few other n = absurd (omega arith)
not_digits (a ∷ b ∷ c ∷ []) some few other n = absurd (omega arith)
not_digits (a ∷ b ∷ c ∷ d ∷ []) some few other n =
    false_from_ne_true (equal_caseless (a ∷ b ∷ c ∷ d ∷ []) (four_digits n))
    (λ same. both (list_all is_ascii_digit (a ∷ b ∷ c ∷ d ∷ [])) other (all_of_digits a b c d n (digits_of_equal a b c d n same)))
not_digits (a ∷ b ∷ c ∷ d ∷ e ∷ digits) some few other n = absurd (omega arith)

abbrev value_of : List ℕ → ℕ
value_of digits = value (get_or digits 0 0) (get_or digits 1 0) (get_or digits 2 0) (get_or digits 3 0)

-- four digits write one number
pub are_digits : (digits : List ℕ) → 4 ≤ length digits → length digits < 5 → list_all is_ascii_digit digits ≡ true
    → (value_of digits < 10000) × ((n : ℕ) → n < 10000 → equal_caseless digits (four_digits n) ≡ nat_eq n (value_of digits))
are_digits [] some few all = absurd (omega arith)
are_digits (a ∷ []) some few all = absurd (omega arith)
are_digits (a ∷ b ∷ []) some few all = absurd (omega arith)
are_digits (a ∷ b ∷ c ∷ []) some few all = absurd (omega arith)
are_digits (a ∷ b ∷ c ∷ d ∷ []) some few all =
    let first = and_parts _ _ all in
    let second = and_parts _ _ first.1 in
    let third = and_parts _ _ second.1 in
    let fourth = and_parts _ _ third.1 in
    let in_a = digit_between a first.0 in
    let in_b = digit_between b second.0 in
    let in_c = digit_between c third.0 in
    let in_d = digit_between d fourth.0 in (
      omega arith,
      λ n small.
          both_ways (equal_caseless (a ∷ b ∷ c ∷ d ∷ []) (four_digits n)) (nat_eq n (value a b c d))
          (λ same. eq-eqb n (value a b c d) (value_of_digits a b c d n small (digits_of_equal a b c d n same)))
          (λ is. equal_of_digits a b c d n (digits_of_value a b c d n in_a in_b in_c in_d (eqb-true n (value a b c d) is))),
    )
are_digits (a ∷ b ∷ c ∷ d ∷ e ∷ digits) some few all = absurd (omega arith)
