-- The first line of a text.
use Rattle.std.proofs.Common.{◌≡◌, ℕ, ◌+◌, ◌<◌, Bool, false, ◌==◌, List, [], ◌∷◌, length, take, drop, nat_eq, nat_lt, Some, None, refl, sym, ap, ◌∙◌, inl, inr, arith}
use Rattle.std.proofs.lemmas.Bool.{ne_eqb, cases_Bool}
use Rattle.std.proofs.lemmas.Bool.Decides.{nat_tests}
use Rattle.std.proofs.lemmas.Grind.{common_steps}
use Rattle.std.proofs.lemmas.List.Splits.{slice_split-cons_no, slice_split_first, length-slice_split}
use Rattle.std.specs.List.{position, position_or_len, slice_split, onto_first}
use Rattle.std.proofs.lemmas.Str.{IsUtf8-from_is_utf8}
use Rattle.std.specs.Str.{IsUtf8, is_utf8}
use Rattle.std.specs.Str.Lines.{lines, lines_of_parts, strip_carriage_return}

-- a part before others is a line that ends with LF
lines_of_parts-cons : (part : List ℕ) (parts : List (List ℕ)) → 0 < length parts → lines_of_parts (part ∷ parts) ≡ strip_carriage_return part ∷ lines_of_parts parts
lines_of_parts-cons part [] some = absurd (omega arith)
lines_of_parts-cons part (next ∷ parts) some = refl

-- LF
abbrev is_break : ℕ → Bool
is_break b = b == 10

break_is : (bytes : List ℕ) (at : ℕ) → position is_break bytes ≡ Some at → (position_or_len is_break bytes ≡ at) × (position_or_len is_break bytes < length bytes)
break_is bytes at is = elim (cases_Bool (nat_lt (position_or_len is_break bytes) (length bytes))) [
  | inl below ↦ let found : Some (position_or_len is_break bytes) ≡ Some at = rw below at is in (cc, grind (arith, nat_tests))
  | inr past ↦ let none : None ≡ Some at = rw past at is in absurd (cc)
]

pub lines_at_break : (bytes : List ℕ) (at : ℕ) → position (λ b. b == 10) bytes ≡ Some at → lines bytes ≡ strip_carriage_return (take at bytes) ∷ lines (drop (at + 1) bytes)
lines_at_break bytes at is =
    let place = break_is bytes at is in
    let parts : slice_split is_break bytes ≡ take at bytes ∷ slice_split is_break (drop (at + 1) bytes) = rw (place.0) at (slice_split_first is_break bytes 0 place.1) in
    ap lines_of_parts parts ∙ lines_of_parts-cons (take at bytes) (slice_split is_break (drop (at + 1) bytes)) (omega (arith, length-slice_split is_break (drop (at + 1) bytes)))

one_part : (bytes : List ℕ) → nat_lt (position_or_len is_break bytes) (length bytes) ≡ false → slice_split is_break bytes ≡ bytes ∷ []
one_part [] past = refl
one_part (b ∷ bytes) past = elim (cases_Bool (is_break b)) [
  | inl here ↦ absurd (grind (arith, nat_tests, common_steps))
  | inr other ↦
      let later : nat_lt (position_or_len is_break bytes) (length bytes) ≡ false = grind (arith, nat_tests, common_steps) in
      slice_split-cons_no is_break b bytes other ∙ ap (onto_first b) (one_part bytes later)
]

pub lines_without_break : (bytes : List ℕ) → 0 < length bytes → position (λ b. b == 10) bytes ≡ None → lines bytes ≡ bytes ∷ []
lines_without_break [] some is = absurd (omega arith)
lines_without_break (b ∷ bytes) some is = elim (cases_Bool (nat_lt (position_or_len is_break (b ∷ bytes)) (length (b ∷ bytes)))) [
  | inl below ↦ let found : Some (position_or_len is_break (b ∷ bytes)) ≡ None = rw below at is in absurd (cc)
  | inr past ↦
      let filled : nat_eq (length (b ∷ bytes)) 0 ≡ false = ne_eqb _ _ (omega arith) in
      ap lines_of_parts (one_part (b ∷ bytes) past) ∙ rw filled refl
]

-- bytes that are no UTF-8 fail the test
pub is_utf8_false : (bytes : List ℕ) → ¬ (IsUtf8 bytes) → false ≡ is_utf8 bytes
is_utf8_false bytes other = elim (cases_Bool (is_utf8 bytes)) [
  | inl text ↦ absurd (other (IsUtf8-from_is_utf8 bytes text))
  | inr no_text ↦ sym no_text
]
