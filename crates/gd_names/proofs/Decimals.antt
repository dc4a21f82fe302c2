-- Bytes against the decimal digits of a number.
use Rattle.std.proofs.Common.{◌≡◌, ℕ, ◌^◌, ◌<◌, ◌≤◌, true, false, List, [], ◌∷◌, ◌++◌, length, get_or, nat_eq, Option, Some, None, IfSome, MatchOption, Result, Ok, Err, sym, refl, ap, ◌∙◌, subst, arith}
use Rattle.std.specs.Char.{to_ascii_lowercase, is_ascii_digit}
use Rattle.std.specs.Cmp.{both_ways}
use Rattle.std.specs.Cmp.Lexicographic.{bytes_decides}
use Rattle.std.specs.Fmt.{decimal}
use Rattle.std.specs.Str.{IsUtf8, all_ascii_digits}
use Rattle.std.specs.Str.Parse.{ParsesUnsigned, AllDigits, digits_value}
use Rattle.std.proofs.lemmas.Bool.{false_from_ne_true, and_parts, eqb-true, eq-eqb, leb-true, le-leb, and_from, both_ways as both}
use Rattle.std.proofs.lemmas.Bool.Decides.{nat_tests}
use Rattle.std.proofs.lemmas.Fmt.{digits_decimal, decimal_injective, decimal-digits_value, first_decimal, decimal_nonempty, decimal_digit, IsAscii-decimal, parse-decimal}
use Rattle.std.proofs.lemmas.Result.{OkIff-at_ok}
use Rattle.std.proofs.lemmas.Str.{IsUtf8-from_ascii}
use Rattle.std.proofs.lemmas.Str.Parse.{IsNumeralModel, numerals_by_value, tells_all_ascii_digits, tells_digits, digit_at, parse_plain}
use Rattle.gd_names.specs.Caseless.{lower_case, equal_caseless}
use Rattle.gd_names.specs.Escapes.{is_between}
use Rattle.gd_names.specs.Numbered.{IsNumberBetween}

-- the digits of a number, and the number that they write
pub own : IsNumeralModel (λ ds. all_ascii_digits ds ≡ true) (digits_value 10)
own = numerals_by_value (λ ds. all_ascii_digits ds ≡ true) tells_all_ascii_digits

-- a digit has no case
digit_has_no_case : (x d : ℕ) → is_ascii_digit d ≡ true → nat_eq (to_ascii_lowercase x) (to_ascii_lowercase d) ≡ true → x ≡ d
digit_has_no_case x d is same =
    let parts = and_parts _ _ is in
    let low : 48 ≤ d = leb-true 48 d parts.0 in
    let high : d ≤ 57 = leb-true d 57 parts.1 in
    grind (arith, nat_tests)

digits_have_no_case : (xs ds : List ℕ) → all_ascii_digits ds ≡ true → equal_caseless xs ds ≡ true → xs ≡ ds
digits_have_no_case [] [] are same = refl
digits_have_no_case [] (d ∷ ds) are same = cc
digits_have_no_case (x ∷ xs) [] are same = cc
digits_have_no_case (x ∷ xs) (d ∷ ds) are same =
    let digits = and_parts _ _ are in
    let parts = and_parts _ _ same in
    let first : x ≡ d = digit_has_no_case x d digits.0 parts.0 in
    let rest : xs ≡ ds = digits_have_no_case xs ds digits.1 parts.1 in
    cc

equal_decimal : (xs : List ℕ) (n : ℕ) → n < 2 ^ 64 → equal_caseless xs (decimal n) ≡ true → xs ≡ decimal n
equal_decimal xs n small same = digits_have_no_case xs (decimal n) (digits_decimal own n small) same

unequal : (xs : List ℕ) (n : ℕ) → n < 2 ^ 64 → (xs ≡ decimal n → ⊥) → equal_caseless xs (decimal n) ≡ false
unequal xs n small differ = false_from_ne_true (equal_caseless xs (decimal n)) (λ same. differ (equal_decimal xs n small same))

-- what is no text is no number
pub not_text : (xs : List ℕ) → (IsUtf8 xs → ⊥) → (n : ℕ) → n < 2 ^ 32 → equal_caseless xs (decimal n) ≡ false
not_text xs other n small =
    let fits : n < 2 ^ 64 = omega arith in
    unequal xs n fits (λ e. other (subst IsUtf8 (sym e) (IsUtf8-from_ascii (decimal n) (IsAscii-decimal n fits))))

first_between : (n : ℕ) → 1 ≤ n → n < 2 ^ 64 → is_between 49 57 (get_or (decimal n) 0 0) ≡ true
first_between n some fits =
    let above : 48 < get_or (decimal n) 0 0 = first_decimal n (omega arith) fits in
    let within : get_or (decimal n) 0 0 ≤ 57 = (digit_at (decimal n) 0 (digits_decimal (numerals_by_value (AllDigits 10) tells_digits) n fits) (decimal_nonempty n fits)).1 in
    and_from _ _ (le-leb 49 (get_or (decimal n) 0 0) (omega arith)) (le-leb (get_or (decimal n) 0 0) 57 within)

-- what begins with no digit from 1 to 9 is no number from 1
pub not_begun : (xs : List ℕ) → is_between 49 57 (get_or xs 0 0) ≡ false → (n : ℕ) → 1 ≤ n → n < 2 ^ 32 → equal_caseless xs (decimal n) ≡ false
not_begun xs other n some small =
    let fits : n < 2 ^ 64 = omega arith in
    unequal xs n fits (λ e. both (is_between 49 57 (get_or xs 0 0)) other (ap (λ ds. is_between 49 57 (get_or ds 0 0)) e ∙ first_between n some fits))

-- what `parse` refuses is no number, and what it reads is that number alone
module _ {E : Type 0} (xs text : List ℕ) (result : Result ℕ E) (is_text : text ≡ xs) (parses : ParsesUnsigned 32 10 text result) where
  pub not_read : (error : E) → result ≡ Err error → (n : ℕ) → n < 2 ^ 32 → equal_caseless xs (decimal n) ≡ false
  not_read error refused n small =
      let fits : n < 2 ^ 64 = omega arith in
      unequal xs n fits
      (λ e.
      let reads : result ≡ Ok n = parse-decimal 32 n text result small fits (is_text ∙ e) parses in
      cc)

  module _ (m : ℕ) (reads : result ≡ Ok m) (begun : is_between 49 57 (get_or xs 0 0) ≡ true) where
    first : 49 ≤ get_or xs 0 0
    first = leb-true 49 (get_or xs 0 0) (and_parts _ _ begun).0

    is-number : ((all_ascii_digits text ≡ true) × (0 < length text) × (digits_value 10 text < 2 ^ 32)) × (m ≡ digits_value 10 text)
    is-number =
        let low : 49 ≤ get_or text 0 0 = subst (λ (ds : List ℕ). 49 ≤ get_or ds 0 0) (sym is_text) first in
        let plain = parse_plain own 32 text result parses (λ plus. subst (λ (c : ℕ). 49 ≤ c → ⊥) (sym plus) (λ h. omega arith) low) in
        OkIff-at_ok result ((all_ascii_digits text ≡ true) × (0 < length text) × (digits_value 10 text < 2 ^ 32)) (digits_value 10 text) m plain reads

    small-number : m < 2 ^ 32
    small-number = let is = is-number in omega (arith, is.0.2, is.1)

    written : decimal m ≡ xs
    written =
        let is = is-number in
        let low : 49 ≤ get_or text 0 0 = subst (λ (ds : List ℕ). 49 ≤ get_or ds 0 0) (sym is_text) first in
        ap decimal is.1 ∙ decimal-digits_value own text is.0.0 is.0.1 (λ zero. absurd (omega arith)) (omega arith) ∙ is_text

    pub read : (n : ℕ) → n < 2 ^ 32 → equal_caseless xs (decimal n) ≡ nat_eq n m
    read n small =
        let fits : n < 2 ^ 64 = omega arith in
        let small_m = small-number in
        both_ways (equal_caseless xs (decimal n)) (nat_eq n m)
        (λ equal. eq-eqb n m (decimal_injective n m fits (omega arith) (sym (equal_decimal xs n fits equal) ∙ sym written)))
        (λ equal. (bytes_decides (lower_case xs) (lower_case (decimal n))).1 (ap lower_case (sym written ∙ ap decimal (sym (eqb-true n m equal)))))

    pub read-range : (1 ≤ m) × (m < 2 ^ 32)
    read-range =
        let some : m ≡ 0 → ⊥ = λ none.
        let zero : 48 ∷ [] ≡ xs = sym (decimal_digit 0 (omega arith)) ∙ ap decimal (sym none) ∙ written in
        subst (λ (ds : List ℕ). 49 ≤ get_or ds 0 0 → ⊥) zero (λ h. omega arith) first in
        (omega arith, small-number)

-- a number between two ends that were stripped
pub number-between : (text front end left digits : List ℕ) → ((rest : List ℕ) → equal_caseless text (rest ++ end) ≡ equal_caseless left rest) → ((rest : List ℕ) → equal_caseless left (front ++ rest) ≡ equal_caseless digits rest)
    → (found : Option ℕ) → MatchOption found ((n : ℕ) → 1 ≤ n → n < 2 ^ 32 → equal_caseless digits (decimal n) ≡ false) (λ number. (n : ℕ) → 1 ≤ n → n < 2 ^ 32 → equal_caseless digits (decimal n) ≡ nat_eq n number)
    → IfSome found (λ number. (1 ≤ number) × (number < 2 ^ 32)) → IfSome found (λ number. IsNumberBetween text front end number)
number-between text front end left digits before behind None numbers range = tt
number-between text front end left digits before behind (Some number) numbers range =
    record {
      from_one = range.0;
      fits = range.1;
      is = before (front ++ decimal number) ∙ (behind (decimal number) ∙ (numbers number range.0 range.1 ∙ eq-eqb number number refl));
    }
