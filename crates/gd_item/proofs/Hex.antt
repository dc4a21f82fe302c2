-- The sixteen digits of an id: how `{:016X}` writes them, and that they are read back as the number.
use Rattle.std.proofs.Common.{◌≡◌, ℕ, zero, suc, ◌+◌, ◌-◌, ◌*◌, ◌/◌, ◌%◌, ◌^◌, ◌<◌, ◌≤◌, true, false, List, [], ◌∷◌, ◌++◌, length, get_or, take, drop, nat_eq, if◌then◌else◌, Some, None, refl, sym, ap, ◌∙◌, inl, inr, arith, append_assoc, append-nil, length-append, codes, eq-eqb}
use Rattle.std.proofs.Math.ListN.{replicate}
use Rattle.std.proofs.Math.Nat.{pow-suc, pow-le-pow_right}
use Rattle.std.proofs.lemmas.Bool.{ne_eqb, cases_Bool}
use Rattle.std.proofs.lemmas.Bool.Decides.{nat_tests}
use Rattle.std.proofs.lemmas.Grind.{pow_more}
use Rattle.std.proofs.lemmas.List.{take_more}
use Rattle.std.proofs.lemmas.List.Folds.{list_all-append}
use Rattle.std.specs.Fmt.{digit_glyph, digits_onto, digits, padded_integral, format_spec, char_count}
use Rattle.std.specs.List.{list_all, starts_with}
use Rattle.gd_item.specs.Ids.{hex_digits, is_upper_hex, hex_value, hex_number_from, id_of_text}

-- sixteen times as many numbers have one digit more
shorter : (k n : ℕ) → n < 16 ^ suc k → n / 16 < 16 ^ k
shorter k n small = omega (arith, pow-suc 16 k)

-- zeros before zeros
replicate_more : (k : ℕ) (zero_glyph : ℕ) → replicate k zero_glyph ++ zero_glyph ∷ [] ≡ replicate (suc k) zero_glyph
replicate_more zero zero_glyph = refl
replicate_more (suc k) zero_glyph = ap (λ l. zero_glyph ∷ l) (replicate_more k zero_glyph)

-- the digits of zero
hex_digits_zero : (k : ℕ) → hex_digits k 0 ≡ replicate k 48
hex_digits_zero zero = refl
hex_digits_zero (suc k) = ap (λ l. l ++ 48 ∷ []) (hex_digits_zero k) ∙ replicate_more k 48

-- one digit with zeros before it
one_hex : (k n pad : ℕ) (acc : List ℕ) → n / 16 ≡ 0 → pad + suc (length acc) ≡ suc k + length acc
    → replicate pad 48 ++ (digit_glyph true (n % 16) ∷ acc) ≡ hex_digits (suc k) n ++ acc
one_hex k n pad acc none long =
    let same : pad ≡ k = omega arith in
    rw (same, none, hex_digits_zero k, append_assoc)

-- the digits that `{:X}` writes, with zeros before them
padded_hex : (k j n pad : ℕ) (acc : List ℕ) → n < 16 ^ suc k → k < j → pad + length (digits_onto j 16 true n acc) ≡ suc k + length acc
    → replicate pad 48 ++ digits_onto j 16 true n acc ≡ hex_digits (suc k) n ++ acc
padded_hex k zero n pad acc small less long = absurd (omega arith)
padded_hex zero (suc j) n pad acc small less long =
    let none : n / 16 ≡ 0 = omega arith in
    let long' : pad + length (digit_glyph true (n % 16) ∷ acc) ≡ suc zero + length acc = rw none at long in
    rw none (one_hex zero n pad acc none long')
padded_hex (suc k) (suc j) n pad acc small less long = elim (cases_Bool (nat_eq (n / 16) 0)) [
  | inl none ↦
      let nothing : n / 16 ≡ 0 = grind (arith, nat_tests) in
      let long' : pad + length (digit_glyph true (n % 16) ∷ acc) ≡ suc (suc k) + length acc = rw none at long in
      rw none (one_hex (suc k) n pad acc nothing long')
  | inr some ↦
      let long' : pad + length (digits_onto j 16 true (n / 16) (digit_glyph true (n % 16) ∷ acc)) ≡ suc (suc k) + length acc = rw some at long in
      rw some (padded_hex k j (n / 16) pad (digit_glyph true (n % 16) ∷ acc) (shorter (suc k) n small) (omega arith) (omega arith)
      ∙ sym (append_assoc (hex_digits (suc k) (n / 16)) (digit_glyph true (n % 16) ∷ []) acc))
]

pub length-hex_digits : (k n : ℕ) → length (hex_digits k n) ≡ k
length-hex_digits zero n = refl
length-hex_digits (suc k) n = omega (arith, length-append (hex_digits k (n / 16)) (digit_glyph true (n % 16) ∷ []), length-hex_digits k (n / 16))

glyph_is_hex : (d : ℕ) → d < 16 → is_upper_hex (digit_glyph true d) ≡ true
glyph_is_hex d h = grind (arith, nat_tests)

glyph_value : (d : ℕ) → d < 16 → hex_value (digit_glyph true d) ≡ d
glyph_value d h = grind (arith, nat_tests)

pub list_all-hex_digits : (k n : ℕ) → list_all is_upper_hex (hex_digits k n) ≡ true
list_all-hex_digits zero n = refl
list_all-hex_digits (suc k) n =
    rw (list_all-append is_upper_hex (hex_digits k (n / 16)) (digit_glyph true (n % 16) ∷ []), list_all-hex_digits k (n / 16), glyph_is_hex (n % 16) (omega arith))

-- one more digit
pub hex_number_from-append : (high : ℕ) (digits : List ℕ) (digit : ℕ) → hex_number_from high (digits ++ digit ∷ []) ≡ 16 * hex_number_from high digits + hex_value digit
hex_number_from-append high [] digit = refl
hex_number_from-append high (b ∷ digits) digit = hex_number_from-append (16 * high + hex_value b) digits digit

pub hex_number_from-hex_digits : (k n : ℕ) → n < 16 ^ k → hex_number_from 0 (hex_digits k n) ≡ n
hex_number_from-hex_digits zero n small = omega arith
hex_number_from-hex_digits (suc k) n small =
    omega (arith, hex_number_from-append 0 (hex_digits k (n / 16)) (digit_glyph true (n % 16)), hex_number_from-hex_digits k (n / 16) (shorter k n small), glyph_value (n % 16) (omega arith))

-- the text with these digits
pub read_digits : (digits : List ℕ) (n : ℕ) → length digits ≡ 16 → list_all is_upper_hex digits ≡ true → hex_number_from 0 digits ≡ n → 0 < n → id_of_text (codes "01GD" ++ digits) ≡ Some n
read_digits digits n long hex number some =
    let nonzero : nat_eq n 0 ≡ false = ne_eqb n 0 (omega arith) in
    let long' : nat_eq (length (codes "01GD" ++ digits)) 20 ≡ true = eq-eqb _ _ (omega arith) in
    rw (long', hex, number, nonzero)

-- what `{:016X}` makes of digits
padded_list : (digits : List ℕ) → padded_integral (format_spec 32 0 4 16 (2 ^ 64 - 1)) false [] digits ≡ replicate (16 - length digits) 48 ++ digits
unfolding padded_integral char_count
padded_list digits =
    let same : 16 - length digits - 0 - 0 ≡ 16 - length digits = omega arith in
    rw (append-nil, same)

-- a number below sixteen to a power has as many digits at most
length_onto : (k j n : ℕ) (acc : List ℕ) → n < 16 ^ suc k → length (digits_onto j 16 true n acc) ≤ suc k + length acc
length_onto k zero n acc small = omega arith
length_onto zero (suc j) n acc small =
    let none : n / 16 ≡ 0 = omega arith in
    rw none (omega arith)
length_onto (suc k) (suc j) n acc small = elim (cases_Bool (nat_eq (n / 16) 0)) [
  | inl none ↦ rw none (omega arith)
  | inr some ↦ rw some (omega (arith, length_onto k j (n / 16) (digit_glyph true (n % 16) ∷ acc) (shorter (suc k) n small)))
]

padded_is_hex : (j n : ℕ) (digits : List ℕ) → n < 2 ^ 64 → 15 < j → digits ≡ digits_onto j 16 true n []
    → padded_integral (format_spec 32 0 4 16 (2 ^ 64 - 1)) false [] digits ≡ hex_digits 16 n
padded_is_hex j n digits small less is =
    let long : length digits ≤ 16 = rw is (omega (arith, length_onto 15 j n [] small)) in
    let pads : (16 - length digits) + length (digits_onto j 16 true n []) ≡ 16 = omega (arith, ap length is) in
    padded_list digits ∙ ap (λ l. replicate (16 - length digits) 48 ++ l) is ∙ padded_hex 15 j n (16 - length digits) [] small less pads ∙ append-nil (hex_digits 16 n)

-- what `{:016X}` writes
pub id_written : (n : ℕ) → n < 2 ^ 64 → padded_integral (format_spec 32 0 4 16 (2 ^ 64 - 1)) false [] (digits 16 true n) ≡ hex_digits 16 n
unfolding digits
id_written n small = padded_is_hex 64 n (digits 16 true n) small (omega arith) refl

-- one more digit fits
pub digit_room : (number i : ℕ) → number < 16 ^ i → i < 16 → 16 * number + 16 ≤ 2 ^ 64
digit_room number i small more =
    let highest : 16 ^ suc i ≤ 16 ^ 16 = pow-le-pow_right {n = 16} (omega arith) {i = suc i} {j = 16} (omega arith) in
    omega (arith, highest, pow-suc 16 i)

pub digit_below : (number value i : ℕ) → number < 16 ^ i → value < 16 → 16 * number + value < 16 ^ (i + 1)
digit_below number value i small digit = omega (arith, pow_more 16 i)

-- the digit at an index is read
digit_is : (b value : ℕ) → Some value ≡ (if is_upper_hex b then Some (hex_value b) else None) → (is_upper_hex b ≡ true) × (value ≡ hex_value b)
digit_is b value is = grind arith

pub digit_number : (digits : List ℕ) (i number value : ℕ) → i < length digits → number ≡ hex_number_from 0 (take i digits)
    → Some value ≡ (if is_upper_hex (get_or digits i 0) then Some (hex_value (get_or digits i 0)) else None) → 16 * number + value ≡ hex_number_from 0 (take (i + 1) digits)
digit_number digits i number value more so_far is =
    rw (take_more digits i 0 more, hex_number_from-append 0 (take i digits) (get_or digits i 0), (digit_is (get_or digits i 0) value is).1, so_far)

pub digit_hex : (digits : List ℕ) (i value : ℕ) → i < length digits → list_all is_upper_hex (take i digits) ≡ true
    → Some value ≡ (if is_upper_hex (get_or digits i 0) then Some (hex_value (get_or digits i 0)) else None) → list_all is_upper_hex (take (i + 1) digits) ≡ true
digit_hex digits i value more so_far is =
    rw (take_more digits i 0 more, list_all-append is_upper_hex (take i digits) (get_or digits i 0 ∷ []), so_far, (digit_is (get_or digits i 0) value is).0)

-- the text of a number that is not 0
pub read_some : (text spelt : List ℕ) (number : ℕ) → length text ≡ 20 → starts_with nat_eq text (codes "01GD") ≡ true → spelt ≡ drop 4 text
    → Some number ≡ (if list_all is_upper_hex spelt then Some (hex_number_from 0 spelt) else None) → (number ≡ 0 → ⊥) → Some number ≡ id_of_text text
read_some text spelt number long begins are is some = elim (cases_Bool (list_all is_upper_hex spelt)) [
  | inl hex ↦
      let all : list_all is_upper_hex (drop 4 text) ≡ true = rw are at hex in
      let found : Some number ≡ Some (hex_number_from 0 spelt) = rw hex at is in
      let same : hex_number_from 0 spelt ≡ hex_number_from 0 (drop 4 text) = ap (hex_number_from 0) are in
      let number_is : hex_number_from 0 (drop 4 text) ≡ number = cc in
      let nonzero : nat_eq number 0 ≡ false = ne_eqb number 0 some in
      rw (long, begins, all, number_is, nonzero)
  | inr other ↦
      let never : Some number ≡ None = rw other at is in
      cc
]
