-- A name with a number before its extension is one that an item may have, where the name is one and the whole is not too
-- long: a blank and digits are good bytes, and no reserved name has a blank.
use Rattle.std.proofs.Common.{◌≡◌, ℕ, suc, ◌+◌, ◌-◌, ◌^◌, ◌<◌, ◌≤◌, Bool, true, false, ◌&&◌, ◌||◌, not, cond, nat_eq, nat_lt, nat_le, leb, List, [], ◌∷◌, ◌++◌, length, take, drop, codes, Option, Some, None, unwrap_or, refl, sym, ap, ◌∙◌, subst, arith}
use Rattle.std.specs.Char.{to_ascii_lowercase, is_ascii_digit}
use Rattle.std.specs.Cmp.Lexicographic.{pointwise, bytes_decides}
use Rattle.std.specs.Fmt.{decimal}
use Rattle.std.specs.List.{list_any, starts_with, ends_with}
use Rattle.std.specs.Str.{all_ascii_digits}
use Rattle.std.specs.Str.Parse.{digits_value}
use Rattle.std.proofs.Math.Seq.{take-append_seam, drop-append-add}
use Rattle.std.proofs.lemmas.Bool.{both_ways, false_from_ne_true, and_parts, or_parts, or_right, leb-true, le-ltb, ne_eqb}
use Rattle.std.proofs.lemmas.Fmt.{digits_decimal, decimal_nonempty}
use Rattle.std.proofs.lemmas.List.{append-nil, append_assoc, length-append, map-append}
use Rattle.std.proofs.lemmas.List.Folds.{list_any-append}
use Rattle.std.proofs.lemmas.Str.Parse.{IsNumeralModel, numerals_by_value, tells_all_ascii_digits}
use Rattle.gd_names.specs.Caseless.{lower_case, equal_caseless}
use Rattle.gd_names.specs.Names.{is_bad_byte, is_dots, has_space_at_edge, reserved_names, holds_part, is_reserved, name_fault}
use Rattle.gd_names.specs.Numbered.{from_last_dot, dot_before, file_extension, extension, stem, numbered}
use Rattle.gd_names.specs.Settling.{is_taken, least_number, sibling_named, free_within, settled_at, settled}
use Rattle.gd_names.specs.declared.conflict.Conflict.{Conflict}
use Rattle.gd_names.specs.declared.conflict.Conflict.TheVariants.{Fail, Replace, Rename}
use Rattle.gd_names.specs.declared.conflict.Settle.TheVariants.{Free, Over, Refuse}
use Rattle.gd_names.specs.declared.conflict.Sibling.{Sibling}
use Rattle.gd_names.specs.declared.name.NameFault.{NameFault}
use Rattle.gd_names.specs.declared.name.NameFault.TheVariants.{Empty, TooLong, BadByte, Edge, Reserved}
use Rattle.gd_names.proofs.Settled.{digits_in_lower_case, over_is_not_free}
use Rattle.gd_names.proofs.Small.{clear}

pub or-none : (a b : Bool) → a ≡ false → b ≡ false → (a || b) ≡ false
or-none true b none also = absurd cc
or-none false b none also = also

and-none : (a : Bool) → (a && false) ≡ false
and-none true = refl
and-none false = refl

-- ---- digits
digit-low : (d : ℕ) → is_ascii_digit d ≡ true → (48 ≤ d) × (d ≤ 57)
digit-low d is =
    let parts = and_parts (leb 48 d) (leb d 57) is in
    (leb-true 48 d parts.0, leb-true d 57 parts.1)

good-digit : (d : ℕ) → is_ascii_digit d ≡ true → is_bad_byte d ≡ false
good-digit d is =
    let range = digit-low d is in
    let low : 48 ≤ d = range.0 in
    let high : d ≤ 57 = range.1 in
    or-none (nat_lt d 32 || nat_eq d 127) (list_any (nat_eq d) (codes "\"*:<>?/\\|"))
    (or-none (nat_lt d 32) (nat_eq d 127) (le-ltb d 32 (omega arith)) (ne_eqb d 127 (λ e. omega arith)))
    (or-none (nat_eq d 34) (list_any (nat_eq d) (codes "*:<>?/\\|")) (ne_eqb d 34 (λ e. omega arith))
    (or-none (nat_eq d 42) (list_any (nat_eq d) (codes ":<>?/\\|")) (ne_eqb d 42 (λ e. omega arith))
    (or-none (nat_eq d 58) (list_any (nat_eq d) (codes "<>?/\\|")) (ne_eqb d 58 (λ e. omega arith))
    (or-none (nat_eq d 60) (list_any (nat_eq d) (codes ">?/\\|")) (ne_eqb d 60 (λ e. omega arith))
    (or-none (nat_eq d 62) (list_any (nat_eq d) (codes "?/\\|")) (ne_eqb d 62 (λ e. omega arith))
    (or-none (nat_eq d 63) (list_any (nat_eq d) (codes "/\\|")) (ne_eqb d 63 (λ e. omega arith))
    (or-none (nat_eq d 47) (list_any (nat_eq d) (codes "\\|")) (ne_eqb d 47 (λ e. omega arith))
    (or-none (nat_eq d 92) (list_any (nat_eq d) (codes "|")) (ne_eqb d 92 (λ e. omega arith))
    (or-none (nat_eq d 124) false (ne_eqb d 124 (λ e. omega arith)) refl)))))))))

good-digits : (ds : List ℕ) → all_ascii_digits ds ≡ true → list_any is_bad_byte ds ≡ false
good-digits [] are = refl
good-digits (d ∷ ds) are =
    let parts = and_parts (is_ascii_digit d) (all_ascii_digits ds) are in
    or-none (is_bad_byte d) (list_any is_bad_byte ds) (good-digit d parts.0) (good-digits ds parts.1)

-- the last one is no blank
last-digit : (ds : List ℕ) → all_ascii_digits ds ≡ true → 0 < length ds → pointwise nat_eq (codes " ") (drop (length ds - 1) ds) ≡ false
last-digit [] are some = absurd (omega arith)
last-digit (d ∷ []) are some =
    let low : 48 ≤ d = (digit-low d (and_parts (is_ascii_digit d) true are).0).0 in
    ap (λ b. b && true) (ne_eqb 32 d (λ e. omega arith))
last-digit (d ∷ e ∷ ds) are some =
    let rest = last-digit (e ∷ ds) (and_parts (is_ascii_digit d) (all_ascii_digits (e ∷ ds)) are).1 (omega arith) in
    let at : length (d ∷ e ∷ ds) - 1 ≡ suc (length (e ∷ ds) - 1) = omega arith in
    ap (λ k. pointwise nat_eq (codes " ") (drop k (d ∷ e ∷ ds))) at ∙ rest

-- ---- a blank in a name
blank-in : (xs ys : List ℕ) → list_any (nat_eq 32) (lower_case (xs ++ (32 ∷ ys))) ≡ true
blank-in [] ys = refl
blank-in (x ∷ xs) ys = or_right (nat_eq 32 (to_ascii_lowercase x)) (list_any (nat_eq 32) (lower_case (xs ++ (32 ∷ ys)))) (blank-in xs ys)

blank-there : (xs ys : List ℕ) → list_any (nat_eq 32) (xs ++ (32 ∷ ys)) ≡ true
blank-there [] ys = refl
blank-there (x ∷ xs) ys = or_right (nat_eq 32 x) (list_any (nat_eq 32) (xs ++ (32 ∷ ys))) (blank-there xs ys)

-- a text with a blank is none without one
other-than : (text other : List ℕ) → list_any (nat_eq 32) text ≡ true → list_any (nat_eq 32) other ≡ false → pointwise nat_eq text other ≡ false
other-than text other has lacks =
    false_from_ne_true (pointwise nat_eq text other) (λ is.
    let same : text ≡ other = (bytes_decides text other).0 is in
    both_ways (list_any (nat_eq 32) text) (ap (list_any (nat_eq 32)) same ∙ lacks) has)

none-equal : (text : List ℕ) (names : List (List ℕ)) → list_any (nat_eq 32) (lower_case text) ≡ true → list_any (λ name. list_any (nat_eq 32) (lower_case name)) names ≡ false
    → list_any (equal_caseless text) names ≡ false
none-equal text [] has lack = refl
none-equal text (name ∷ names) has lack =
    let parts = or_parts (list_any (nat_eq 32) (lower_case name)) (list_any (λ n. list_any (nat_eq 32) (lower_case n)) names) lack in
    or-none (equal_caseless text name) (list_any (equal_caseless text) names) (other-than (lower_case text) (lower_case name) has parts.0) (none-equal text names has parts.1)

-- ---- where a part begins
-- a part that has no such byte begins before it or nowhere
begins-apart : (part xs ys : List ℕ) (m : ℕ) → list_any (λ p. nat_eq p m) part ≡ false → starts_with nat_eq (xs ++ (m ∷ ys)) part ≡ true → starts_with nat_eq xs part ≡ true
begins-apart [] xs ys m lacks is = refl
begins-apart (p ∷ part) [] ys m lacks is =
    let other : nat_eq p m ≡ false = (or_parts (nat_eq p m) (list_any (λ q. nat_eq q m) part) lacks).0 in
    absurd (both_ways (nat_eq p m) other (and_parts (nat_eq p m) (starts_with nat_eq ys part) is).0)
begins-apart (p ∷ part) (x ∷ xs) ys m lacks is =
    let here = and_parts (nat_eq p x) (starts_with nat_eq (xs ++ (m ∷ ys)) part) is in
    ap (λ b. b && starts_with nat_eq xs part) here.0 ∙ begins-apart part xs ys m (or_parts (nat_eq p m) (list_any (λ q. nat_eq q m) part) lacks).1 here.1

begins-longer : (part xs ys : List ℕ) → starts_with nat_eq xs part ≡ true → starts_with nat_eq (xs ++ ys) part ≡ true
begins-longer [] xs ys is = refl
begins-longer (p ∷ part) [] ys is = absurd cc
begins-longer (p ∷ part) (x ∷ xs) ys is =
    let here = and_parts (nat_eq p x) (starts_with nat_eq xs part) is in
    ap (λ b. b && starts_with nat_eq (xs ++ ys) part) here.0 ∙ begins-longer part xs ys here.1

-- ---- a part that is held
holds-apart : (part xs ys : List ℕ) (m : ℕ) → list_any (λ p. nat_eq p m) part ≡ false → holds_part part xs ≡ false → holds_part part ys ≡ false → holds_part part (xs ++ (m ∷ ys)) ≡ false
holds-apart part [] ys m lacks first second =
    or-none (starts_with nat_eq (m ∷ ys) part) (holds_part part ys)
    (false_from_ne_true (starts_with nat_eq (m ∷ ys) part) (λ is. both_ways (starts_with nat_eq [] part) first (begins-apart part [] ys m lacks is))) second
holds-apart part (x ∷ xs) ys m lacks first second =
    let parts = or_parts (starts_with nat_eq (x ∷ xs) part) (holds_part part xs) first in
    or-none (starts_with nat_eq ((x ∷ xs) ++ (m ∷ ys)) part) (holds_part part (xs ++ (m ∷ ys)))
    (false_from_ne_true (starts_with nat_eq ((x ∷ xs) ++ (m ∷ ys)) part) (λ is. both_ways (starts_with nat_eq (x ∷ xs) part) parts.0 (begins-apart part (x ∷ xs) ys m lacks is)))
    (holds-apart part xs ys m lacks parts.1 second)

holds-first : (p : ℕ) (part xs ys : List ℕ) → holds_part (p ∷ part) (xs ++ ys) ≡ false → holds_part (p ∷ part) xs ≡ false
holds-first p part [] ys none = refl
holds-first p part (x ∷ xs) ys none =
    let parts = or_parts (starts_with nat_eq ((x ∷ xs) ++ ys) (p ∷ part)) (holds_part (p ∷ part) (xs ++ ys)) none in
    or-none (starts_with nat_eq (x ∷ xs) (p ∷ part)) (holds_part (p ∷ part) xs)
    (false_from_ne_true (starts_with nat_eq (x ∷ xs) (p ∷ part)) (λ is. both_ways (starts_with nat_eq ((x ∷ xs) ++ ys) (p ∷ part)) parts.0 (begins-longer (p ∷ part) (x ∷ xs) ys is)))
    (holds-first p part xs ys parts.1)

holds-second : (part xs ys : List ℕ) → holds_part part (xs ++ ys) ≡ false → holds_part part ys ≡ false
holds-second part [] ys none = none
holds-second part (x ∷ xs) ys none = holds-second part xs ys (or_parts (starts_with nat_eq ((x ∷ xs) ++ ys) part) (holds_part part (xs ++ ys)) none).1

-- the part that no name may hold
abbrev vti : List ℕ
vti = codes "_vti_"

digit-apart : (d : ℕ) → is_ascii_digit d ≡ true → list_any (λ p. nat_eq p d) vti ≡ false
digit-apart d is =
    let high : d ≤ 57 = (digit-low d is).1 in
    or-none (nat_eq 95 d) _ (ne_eqb 95 d (λ e. omega arith))
    (or-none (nat_eq 118 d) _ (ne_eqb 118 d (λ e. omega arith))
    (or-none (nat_eq 116 d) _ (ne_eqb 116 d (λ e. omega arith))
    (or-none (nat_eq 105 d) _ (ne_eqb 105 d (λ e. omega arith))
    (or-none (nat_eq 95 d) _ (ne_eqb 95 d (λ e. omega arith)) refl))))

holds-digits : (ds ys : List ℕ) → all_ascii_digits ds ≡ true → holds_part vti ys ≡ false → holds_part vti (ds ++ ys) ≡ false
holds-digits [] ys are none = none
holds-digits (d ∷ ds) ys are none =
    let parts = and_parts (is_ascii_digit d) (all_ascii_digits ds) are in
    holds-apart vti [] (ds ++ ys) d (digit-apart d parts.0) refl (holds-digits ds ys parts.1 none)

-- ---- a blank and digits before the end of a name
drop-last : (xs ys : List ℕ) → 0 < length ys → drop (length (xs ++ ys) - 1) (xs ++ ys) ≡ drop (length ys - 1) ys
drop-last xs ys some =
    let at : length (xs ++ ys) - 1 ≡ length xs + (length ys - 1) = omega (arith, length-append xs ys) in
    ap (λ k. drop k (xs ++ ys)) at ∙ drop-append-add xs ys (length ys - 1)

-- why the text is no name, from its tests
abbrev fault_by : Bool → Bool → Bool → Bool → Bool → Option NameFault
fault_by empty long bad edge reserved =
    cond empty (Some Empty) (cond long (Some TooLong) (cond bad (Some BadByte) (cond edge (Some Edge) (cond reserved (Some Reserved) None))))

no-fault : (empty long bad edge reserved : Bool) → empty ≡ false → long ≡ false → bad ≡ false → edge ≡ false → reserved ≡ false → fault_by empty long bad edge reserved ≡ None
no-fault empty long bad edge reserved a b c d e =
    ap (λ t. fault_by t long bad edge reserved) a ∙ ap (λ t. fault_by false t bad edge reserved) b ∙ ap (λ t. fault_by false false t edge reserved) c
    ∙ ap (λ t. fault_by false false false t reserved) d ∙ ap (λ t. fault_by false false false false t) e

module _ (first : ℕ) (front digits end : List ℕ) (are : all_ascii_digits digits ≡ true) (some : 0 < length digits) where
  abbrev name : List ℕ
  name = (first ∷ front) ++ end

  abbrev made : List ℕ
  made = (first ∷ front) ++ (32 ∷ (digits ++ end))

  good-bytes : list_any is_bad_byte name ≡ false → list_any is_bad_byte made ≡ false
  good-bytes good =
      let parts = or_parts (list_any is_bad_byte (first ∷ front)) (list_any is_bad_byte end) (sym (list_any-append is_bad_byte (first ∷ front) end) ∙ good) in
      list_any-append is_bad_byte (first ∷ front) (32 ∷ (digits ++ end))
      ∙ or-none (list_any is_bad_byte (first ∷ front)) (list_any is_bad_byte (digits ++ end)) parts.0
      (list_any-append is_bad_byte digits end ∙ or-none (list_any is_bad_byte digits) (list_any is_bad_byte end) (good-digits digits are) parts.1)

  no-dots : is_dots made ≡ false
  no-dots =
      or-none (pointwise nat_eq made (codes ".")) (pointwise nat_eq made (codes ".."))
      (other-than made (codes ".") (blank-there (first ∷ front) (digits ++ end)) refl)
      (other-than made (codes "..") (blank-there (first ∷ front) (digits ++ end)) refl)

  last-of : (tail : List ℕ) → end ≡ tail → ends_with nat_eq name (codes " ") ≡ false → ends_with nat_eq made (codes " ") ≡ false
  last-of [] is none =
      let same : made ≡ ((first ∷ front) ++ (32 ∷ [])) ++ digits =
      ap (λ t. (first ∷ front) ++ (32 ∷ (digits ++ t))) is ∙ ap (λ ds. (first ∷ front) ++ (32 ∷ ds)) (append-nil digits) ∙ sym (append_assoc (first ∷ front) (32 ∷ []) digits) in
      ap (λ text. ends_with nat_eq text (codes " ")) same
      ∙ ap (pointwise nat_eq (codes " ")) (drop-last ((first ∷ front) ++ (32 ∷ [])) digits some)
      ∙ last-digit digits are some
  last-of (t ∷ tail) is none =
      let long : 0 < length end = subst (λ ts. 0 < length ts) (sym is) (omega arith) in
      let same : made ≡ ((first ∷ front) ++ (32 ∷ digits)) ++ end = sym (append_assoc (first ∷ front) (32 ∷ digits) end) in
      ap (λ text. ends_with nat_eq text (codes " ")) same
      ∙ ap (pointwise nat_eq (codes " ")) (drop-last ((first ∷ front) ++ (32 ∷ digits)) end long ∙ sym (drop-last (first ∷ front) end long))
      ∙ none

  no-blank-edge : has_space_at_edge name ≡ false → has_space_at_edge made ≡ false
  no-blank-edge none =
      let parts = or_parts (starts_with nat_eq name (codes " ")) (ends_with nat_eq name (codes " ")) none in
      or-none (starts_with nat_eq made (codes " ")) (ends_with nat_eq made (codes " ")) parts.0 (last-of end refl parts.1)

  no-lock : (rest : List ℕ) → front ≡ rest → starts_with nat_eq name (codes "~$") ≡ false → starts_with nat_eq made (codes "~$") ≡ false
  no-lock [] is none =
      ap (λ text. starts_with nat_eq ((first ∷ text) ++ (32 ∷ (digits ++ end))) (codes "~$")) is ∙ and-none (nat_eq 126 first)
  no-lock (next ∷ rest) is none =
      ap (λ text. starts_with nat_eq ((first ∷ text) ++ (32 ∷ (digits ++ end))) (codes "~$")) is
      ∙ sym (ap (λ text. starts_with nat_eq ((first ∷ text) ++ end) (codes "~$")) is)
      ∙ none

  no-vti : holds_part vti (lower_case name) ≡ false → holds_part vti (lower_case made) ≡ false
  no-vti none =
      let apart : holds_part vti (lower_case (first ∷ front) ++ lower_case end) ≡ false = sym (ap (holds_part vti) (map-append to_ascii_lowercase (first ∷ front) end)) ∙ none in
      let before : holds_part vti (lower_case (first ∷ front)) ≡ false = holds-first 95 (codes "vti_") (lower_case (first ∷ front)) (lower_case end) apart in
      let after : holds_part vti (lower_case end) ≡ false = holds-second vti (lower_case (first ∷ front)) (lower_case end) apart in
      let inside : lower_case (digits ++ end) ≡ digits ++ lower_case end = map-append to_ascii_lowercase digits end ∙ ap (λ ds. ds ++ lower_case end) (digits_in_lower_case digits are) in
      ap (holds_part vti) (map-append to_ascii_lowercase (first ∷ front) (32 ∷ (digits ++ end)) ∙ ap (λ text. lower_case (first ∷ front) ++ (32 ∷ text)) inside)
      ∙ holds-apart vti (lower_case (first ∷ front)) (digits ++ lower_case end) 32 refl before (holds-digits digits (lower_case end) are after)

  not-reserved : is_reserved name ≡ false → is_reserved made ≡ false
  not-reserved none =
      let a = or_parts (list_any (equal_caseless name) reserved_names || starts_with nat_eq name (codes "~$")) (holds_part vti (lower_case name)) none in
      let b = or_parts (list_any (equal_caseless name) reserved_names) (starts_with nat_eq name (codes "~$")) a.0 in
      or-none (list_any (equal_caseless made) reserved_names || starts_with nat_eq made (codes "~$")) (holds_part vti (lower_case made))
      (or-none (list_any (equal_caseless made) reserved_names) (starts_with nat_eq made (codes "~$"))
      (none-equal made reserved_names (blank-in (first ∷ front) (digits ++ end)) refl) (no-lock front refl b.1))
      (no-vti a.1)

  digits-named : name_fault name ≡ None → length made ≤ 255 → name_fault made ≡ None
  digits-named named short =
      let a = clear (nat_eq (length name) 0) Empty _ (sym named) in
      let b = clear (nat_lt 255 (length name)) TooLong _ a.1 in
      let c = clear (list_any is_bad_byte name || is_dots name) BadByte _ b.1 in
      let d = clear (has_space_at_edge name) Edge _ c.1 in
      let e = clear (is_reserved name) Reserved _ d.1 in
      no-fault (nat_eq (length made) 0) (nat_lt 255 (length made)) (list_any is_bad_byte made || is_dots made) (has_space_at_edge made) (is_reserved made)
      (ne_eqb (length made) 0 (λ is. omega arith)) (le-ltb 255 (length made) short)
      (or-none (list_any is_bad_byte made) (is_dots made) (good-bytes (or_parts (list_any is_bad_byte name) (is_dots name) c.0).0) no-dots)
      (no-blank-edge d.0) (not-reserved e.0)

-- ---- the parts of a name
-- what begins at the last dot ends the text
at-dot : (b : ℕ) (text : List ℕ) (found : Option (List ℕ)) (last : List ℕ) → ((end : List ℕ) → found ≡ Some end → (front : List ℕ) × (text ≡ front ++ end)) → dot_before b text found ≡ Some last
    → (front : List ℕ) × (b ∷ text ≡ front ++ last)
at-dot b text None last ends is =
    (elim (nat_eq b 46) as (λ t. cond t (Some (b ∷ text)) None ≡ Some last → (front : List ℕ) × (b ∷ text ≡ front ++ last)) [
      | true ↦ λ here. ([], let same : b ∷ text ≡ last = cc in same)
      | false ↦ λ none. absurd cc
    ]) is
at-dot b text (Some end) last ends is =
    let rest : (front : List ℕ) × (text ≡ front ++ end) = ends end refl in
    let same : end ≡ last = cc in
    (b ∷ rest.0, ap (λ t. b ∷ t) (rest.1 ∙ ap (λ t. rest.0 ++ t) same))

dot-ends : (text last : List ℕ) → from_last_dot text ≡ Some last → (front : List ℕ) × (text ≡ front ++ last)
dot-ends [] last is = absurd cc
dot-ends (b ∷ text) last is = at-dot b text (from_last_dot text) last (dot-ends text) is

found-ends : (text : List ℕ) (found : Option (List ℕ)) → from_last_dot text ≡ found → (front : List ℕ) × (text ≡ front ++ unwrap_or found [])
found-ends text None is = (text, sym (append-nil text))
found-ends text (Some last) is = dot-ends text last is

extension-ends : (b : ℕ) (text : List ℕ) (folder : Bool) → (front : List ℕ) × (b ∷ text ≡ (b ∷ front) ++ extension (b ∷ text) folder)
extension-ends b text true = (text, sym (append-nil (b ∷ text)))
extension-ends b text false =
    let parts : (front : List ℕ) × (text ≡ front ++ file_extension (b ∷ text)) = found-ends text (from_last_dot text) refl in
    (parts.0, ap (λ t. b ∷ t) parts.1)

-- what stands before the end of a text
stem-is : (text front end : List ℕ) → text ≡ front ++ end → take (length text - length end) text ≡ front
stem-is text front end is =
    let long : length text ≡ length front + length end = ap length is ∙ length-append front end in
    let at : length text - length end ≡ length front = omega arith in
    ap (λ k. take k text) at ∙ ap (take (length front)) is ∙ take-append_seam front end

own : IsNumeralModel (λ ds. all_ascii_digits ds ≡ true) (digits_value 10)
own = numerals_by_value (λ ds. all_ascii_digits ds ≡ true) tells_all_ascii_digits

parts-joined : (stem front digits end : List ℕ) → stem ≡ front → ((stem ++ codes " ") ++ digits) ++ end ≡ front ++ (32 ∷ (digits ++ end))
parts-joined stem front digits end is =
    append_assoc (stem ++ codes " ") digits end ∙ append_assoc stem (codes " ") (digits ++ end) ∙ ap (λ t. t ++ (32 ∷ (digits ++ end))) is

pub numbered-named : (name : List ℕ) (folder : Bool) (n : ℕ) → n < 2 ^ 64 → name_fault name ≡ None → length (numbered name folder n) ≤ 255 → name_fault (numbered name folder n) ≡ None
numbered-named [] folder n low named short = absurd cc
numbered-named (b ∷ text) folder n low named short =
    let parts : (front : List ℕ) × (b ∷ text ≡ (b ∷ front) ++ extension (b ∷ text) folder) = extension-ends b text folder in
    let front : List ℕ = parts.0 in
    let end : List ℕ = extension (b ∷ text) folder in
    let before : stem (b ∷ text) folder ≡ b ∷ front = stem-is (b ∷ text) (b ∷ front) end parts.1 in
    let same : numbered (b ∷ text) folder n ≡ (b ∷ front) ++ (32 ∷ (decimal n ++ end)) = parts-joined (stem (b ∷ text) folder) (b ∷ front) (decimal n) end before in
    ap name_fault same
    ∙ digits-named b front (decimal n) end (digits_decimal own n low) (decimal_nonempty n low) (sym (ap name_fault parts.1) ∙ named)
    (subst (λ t. length t ≤ 255) same short)

-- ---- a settled name
least-low : (fuel siblings : List Sibling) (name : List ℕ) (folder : Bool) (n : ℕ) → least_number fuel siblings name folder n ≤ n + length fuel
least-low [] siblings name folder n = omega arith
least-low (sibling ∷ fuel) siblings name folder n =
    let rest : least_number fuel siblings name folder (n + 1) ≤ n + 1 + length fuel = least-low fuel siblings name folder (n + 1) in
    elim (is_taken siblings (numbered name folder n)) as (λ b. cond b (least_number fuel siblings name folder (n + 1)) n ≤ n + length (sibling ∷ fuel))
    [ true ↦ omega arith | false ↦ omega arith ]

free-short : (made free : List ℕ) → free_within made ≡ Free free → (made ≡ free) × (length made ≤ 255)
free-short made free is = by (nat_le (length made) 255) refl is
  where
    by : (b : Bool) → nat_le (length made) 255 ≡ b → cond b (Free made) Refuse ≡ Free free → (made ≡ free) × (length made ≤ 255)
    by true short is = (cc, leb-true (length made) 255 short)
    by false long is = absurd cc

named-at : (found : Option Sibling) (behaviour : Conflict) (siblings : List Sibling) (name free : List ℕ) (folder : Bool) → length siblings < 100000 → name_fault name ≡ None
    → settled_at found behaviour siblings name folder ≡ Free free → name_fault free ≡ None
named-at None behaviour siblings name free folder few named is = let same : name ≡ free = cc in subst (λ t. name_fault t ≡ None) same named
named-at (Some other) Fail siblings name free folder few named is = absurd cc
named-at (Some other) Replace siblings name free folder few named is = absurd (over_is_not_free (not folder && not other.folder) other.id free is)
named-at (Some other) Rename siblings name free folder few named is =
    let n : ℕ = least_number siblings siblings name folder 1 in
    let low : n ≤ 1 + length siblings = least-low siblings siblings name folder 1 in
    let short = free-short (numbered name folder n) free is in
    subst (λ t. name_fault t ≡ None) short.0 (numbered-named name folder n (omega arith) named short.1)

-- a name that is settled as free is one that an item may have
pub settled-named : (behaviour : Conflict) (siblings : List Sibling) (name free : List ℕ) (folder : Bool) → length siblings < 100000 → name_fault name ≡ None
    → settled behaviour siblings name folder ≡ Free free → name_fault free ≡ None
settled-named behaviour siblings name free folder few named is = named-at (sibling_named name siblings) behaviour siblings name free folder few named is
