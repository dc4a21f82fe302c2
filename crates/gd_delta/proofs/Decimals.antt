-- Bytes against the decimal digits of a number.
use Rattle.std.proofs.Common.{rules, ◌≡◌, ℕ, ◌^◌, ◌<◌, Bool, true, false, ◌&&◌, ◌||◌, List, length, get_or, nat_eq, nat_lt, Some, None, Result, Ok, Err, sym, ap, ◌∙◌, subst, inl, inr, arith}
use Rattle.std.specs.Cmp.Lexicographic.{bytes_decides, pointwise}
use Rattle.std.specs.Fmt.{decimal}
use Rattle.std.specs.Str.{IsUtf8, all_ascii_digits}
use Rattle.std.specs.Str.Parse.{ParsesUnsigned}
use Rattle.std.proofs.lemmas.Bool.{false_from_ne_true, and_parts, and_from, or_cases, cases_Bool, eqb-true}
use Rattle.std.proofs.lemmas.Bool.Decides.{nat_tests}
use Rattle.std.proofs.lemmas.Fmt.{digits_decimal, decimal-digits_value, first_decimal, decimal_nonempty, decimal_digit, IsAscii-decimal, parse-decimal}
use Rattle.std.proofs.lemmas.Result.{OkIff-at_ok}
use Rattle.std.proofs.lemmas.Str.{IsUtf8-from_ascii}
use Rattle.std.proofs.lemmas.Str.Parse.{IsNumeralModel, numerals_by_fold, tells_all_ascii_digits, digit_at, parse_plain}
use Rattle.gd_item.specs.Tokens.{digits_value, number_of_text}

own : IsNumeralModel (λ ds. all_ascii_digits ds ≡ true) (digits_value 0)
own = numerals_by_fold (λ ds. all_ascii_digits ds ≡ true) tells_all_ascii_digits digits_value (search rules)

-- whether a sign, or a zero with more behind it, stands first
abbrev pub is_led : List ℕ → Bool
is_led xs = nat_eq (get_or xs 0 0) 43 || nat_eq (get_or xs 0 0) 48 && nat_lt 1 (length xs)

nat_lt_is : (m n : ℕ) → nat_lt m n ≡ true → m < n
nat_lt_is m n h = grind (arith, nat_tests)

-- a number is read from its own text alone
pub number_some : (xs : List ℕ) (n : ℕ) → n < 2 ^ 64 → digits_value 0 xs ≡ n → xs ≡ decimal n → number_of_text xs ≡ Some n
number_some xs n small value is =
    let test : (nat_lt n (2 ^ 64) && pointwise nat_eq xs (decimal n)) ≡ true = and_from _ _ (grind (arith, nat_tests)) ((bytes_decides xs (decimal n)).1 is) in
    rw (value, test)

pub number_none : (xs : List ℕ) → ((n : ℕ) → n < 2 ^ 64 → xs ≡ decimal n → ⊥) → number_of_text xs ≡ None
number_none xs other =
    let n = digits_value 0 xs in
    let test : (nat_lt n (2 ^ 64) && pointwise nat_eq xs (decimal n)) ≡ false =
    false_from_ne_true (nat_lt n (2 ^ 64) && pointwise nat_eq xs (decimal n))
    (λ h.
    let parts = and_parts (nat_lt n (2 ^ 64)) (pointwise nat_eq xs (decimal n)) h in
    other n (nat_lt_is n (2 ^ 64) parts.0) ((bytes_decides xs (decimal n)).0 parts.1)) in
    rw test

-- what is no text is no number
pub not_text : (xs : List ℕ) → (IsUtf8 xs → ⊥) → number_of_text xs ≡ None
not_text xs other = number_none xs (λ n small e. other (subst IsUtf8 (sym e) (IsUtf8-from_ascii (decimal n) (IsAscii-decimal n small))))

-- a number that begins with a zero is zero
short_zero : (n : ℕ) → n < 2 ^ 64 → get_or (decimal n) 0 0 ≡ 48 → 1 < length (decimal n) → ⊥
short_zero n small first long = elim (cases_Bool (nat_eq n 0)) [
  | inl none ↦
      let is : n ≡ 0 = eqb-true n 0 none in
      subst (λ (k : ℕ). 1 < length (decimal k) → ⊥) (sym is) (λ h. omega (arith, h, ap length (decimal_digit 0 (omega arith)))) long
  | inr some ↦
      let above : 0 < n = grind (arith, nat_tests) in
      absurd (omega (arith, first_decimal n above small))
]

-- a decimal text begins with no sign, and with a zero only where it is no longer
not_led : (n : ℕ) → n < 2 ^ 64 → is_led (decimal n) ≡ true → ⊥
not_led n small led =
    let within = digit_at (decimal n) 0 (own.to (decimal n) (digits_decimal own n small)) (decimal_nonempty n small) in
    elim (or_cases (nat_eq (get_or (decimal n) 0 0) 43) (nat_eq (get_or (decimal n) 0 0) 48 && nat_lt 1 (length (decimal n))) led) [
      | inl sign ↦ absurd (omega (arith, eqb-true (get_or (decimal n) 0 0) 43 sign, within.0))
      | inr zero_first ↦
          let parts = and_parts (nat_eq (get_or (decimal n) 0 0) 48) (nat_lt 1 (length (decimal n))) zero_first in
          let first : get_or (decimal n) 0 0 ≡ 48 = eqb-true (get_or (decimal n) 0 0) 48 parts.0 in
          let long : 1 < length (decimal n) = nat_lt_is 1 (length (decimal n)) parts.1 in
          absurd (short_zero n small first long)
    ]

pub led : (xs : List ℕ) → is_led xs ≡ true → number_of_text xs ≡ None
led xs is = number_none xs (λ n small e. not_led n small (subst (λ (ds : List ℕ). is_led ds ≡ true) e is))

no_plus : (xs : List ℕ) → is_led xs ≡ false → get_or xs 0 0 ≡ 43 → ⊥
no_plus xs no_led plus = grind (arith, nat_tests)

one_zero : (xs : List ℕ) → is_led xs ≡ false → 0 < length xs → get_or xs 0 0 ≡ 48 → length xs ≡ 1
one_zero xs no_led some zero_first = grind (arith, nat_tests)

-- what `parse` refuses is no number, and what it reads is that number
module _ {E : Type 0} (xs text : List ℕ) (result : Result ℕ E) (is_text : text ≡ xs) (parses : ParsesUnsigned 64 10 text result) where
  pub not_read : (error : E) → result ≡ Err error → number_of_text xs ≡ None
  not_read error refused = number_none xs
      (λ n small e.
      let reads : result ≡ Ok n = parse-decimal 64 n text result small small (is_text ∙ e) parses in
      cc)

  pub read : (m : ℕ) → result ≡ Ok m → is_led xs ≡ false → number_of_text xs ≡ Some m
  read m reads not_led =
      let not_led' : is_led text ≡ false = subst (λ (ds : List ℕ). is_led ds ≡ false) (sym is_text) not_led in
      let plain = parse_plain own 64 text result parses (λ plus. no_plus text not_led' plus) in
      let is = OkIff-at_ok result ((all_ascii_digits text ≡ true) × (0 < length text) × (digits_value 0 text < 2 ^ 64)) (digits_value 0 text) m plain reads in
      let written : decimal (digits_value 0 text) ≡ text = decimal-digits_value own text is.0.0 is.0.1 (λ zero. one_zero text not_led' is.0.1 zero) is.0.2 in
      let value : digits_value 0 text ≡ m = sym is.1 in
      let small : m < 2 ^ 64 = subst (λ (k : ℕ). k < 2 ^ 64) value is.0.2 in
      subst (λ (ds : List ℕ). number_of_text ds ≡ Some m) is_text (number_some text m small value (sym written ∙ ap decimal value))
