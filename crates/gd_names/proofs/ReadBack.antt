-- What is written is read back: names from their segments, and paths from their texts.
use Rattle.std.proofs.Common.{◌≡◌, ℕ, ◌+◌, ◌*◌, ◌/◌, ◌%◌, ◌<◌, true, false, List, [], ◌∷◌, ◌++◌, length, map, nat_eq, Some, None, All, sym, refl, ap, ◌∙◌, subst, ⊎_elim, arith}
use Rattle.std.specs.Char.{digit_value, is_digit}
use Rattle.std.specs.Fmt.{digit_glyph}
use Rattle.std.proofs.lemmas.Bool.{cases_Bool, both_ways, cond-true, cond-false, cond_both, ne_eqb, lt-ltb}
use Rattle.std.proofs.lemmas.Bool.Decides.{nat_tests}
use Rattle.std.proofs.lemmas.List.{append-nil, append_assoc}
use Rattle.std.proofs.lemmas.List.Elements.{All-nil, All-cons, All-head, All-tail, All-append}
use Rattle.gd_names.specs.Escapes.{is_unreserved, escaped_byte, escaped, before_rest, decoded, is_segment_name, kept_name, unescaped, IsSegmentName}
use Rattle.gd_names.specs.Paths.{segments_text, path_text, parts_from, with_name, names_of, path_after_slash, path_of_text}
use Rattle.gd_names.proofs.Escapes.{escaped_itself, escaped_code, decoded_plain, decoded_escape}

-- ---- names

-- a number below 16 is read back from its digit
digit_read_back : (d : ℕ) → d < 16 → digit_value (digit_glyph true d) ≡ d
digit_read_back d small = grind (arith, nat_tests)

unreserved_is_not : (b other : ℕ) → is_unreserved other ≡ false → is_unreserved b ≡ true → nat_eq b other ≡ false
unreserved_is_not b other is_other plain = ne_eqb b other (λ e. both_ways (is_unreserved other) is_other (subst (λ (x : ℕ). is_unreserved x ≡ true) e plain))

byte_read_back : (b : ℕ) (rest : List ℕ) → b < 256 → decoded (escaped_byte b ++ rest) ≡ before_rest b (decoded rest)
byte_read_back b rest small =
    let high = b / 16 % 16 in
    let low = b % 16 in
    let is_high = digit_read_back high (omega arith) in
    let is_low = digit_read_back low (omega arith) in
    let value : 16 * digit_value (digit_glyph true high) + digit_value (digit_glyph true low) ≡ b = rw (is_high, is_low) (omega arith) in
    let reads_high : is_digit (digit_glyph true high) 16 ≡ true = lt-ltb (digit_value (digit_glyph true high)) 16 (rw is_high (omega arith)) in
    let reads_low : is_digit (digit_glyph true low) 16 ≡ true = lt-ltb (digit_value (digit_glyph true low)) 16 (rw is_low (omega arith)) in
    ⊎_elim
    (λ plain. ap (λ xs. decoded (xs ++ rest)) (escaped_itself b plain) ∙ decoded_plain b rest (unreserved_is_not b 37 refl plain))
    (λ other.
    ap (λ xs. decoded (xs ++ rest)) (escaped_code b other)
    ∙ (decoded_escape 37 (digit_glyph true high) (digit_glyph true low) rest refl reads_high reads_low ∙ ap (λ x. before_rest x (decoded rest)) value))
    (cases_Bool (is_unreserved b))

name_decoded : (name : List ℕ) → All (λ b. b < 256) name → decoded (escaped name) ≡ Some name
name_decoded [] small = refl
name_decoded (b ∷ name) small =
    byte_read_back b (escaped name) (All-head (λ b. b < 256) b name small) ∙ ap (before_rest b) (name_decoded name (All-tail (λ b. b < 256) b name small))

some_escaped : (b : ℕ) (rest : List ℕ) → 0 < length (escaped_byte b ++ rest)
some_escaped b rest = cond_both (is_unreserved b) (b ∷ []) (37 ∷ digit_glyph true (b / 16 % 16) ∷ digit_glyph true (b % 16) ∷ []) (λ xs. 0 < length (xs ++ rest)) (λ _. omega arith) (λ _. omega arith)

unescaped_decoded : (segment : List ℕ) → 0 < length segment → unescaped segment ≡ kept_name (decoded segment)
unescaped_decoded [] some = absurd (omega arith)
unescaped_decoded (b ∷ segment) some = refl

nonempty_escaped : (name : List ℕ) → 0 < length name → 0 < length (escaped name)
nonempty_escaped [] some = absurd (omega arith)
nonempty_escaped (b ∷ name) some = some_escaped b (escaped name)

pub escapes_read_back : (name : List ℕ) → IsSegmentName name → unescaped (escaped name) ≡ Some name
escapes_read_back name is =
    unescaped_decoded (escaped name) (nonempty_escaped name is.some) ∙ (ap kept_name (name_decoded name is.bytes) ∙ cond-true (is_segment_name name) (Some name) None is.kept)

-- ---- paths

abbrev IsNoSlash : ℕ → Type 0
IsNoSlash b = nat_eq b 47 ≡ false

glyph_no_slash : (d : ℕ) → d < 16 → IsNoSlash (digit_glyph true d)
glyph_no_slash d small = grind (arith, nat_tests)

byte_no_slash : (b : ℕ) → All IsNoSlash (escaped_byte b)
byte_no_slash b =
    let high = digit_glyph true (b / 16 % 16) in
    let low = digit_glyph true (b % 16) in
    cond_both (is_unreserved b) (b ∷ []) (37 ∷ high ∷ low ∷ []) (All IsNoSlash)
    (λ e. All-cons IsNoSlash b [] (unreserved_is_not b 47 refl e) (All-nil IsNoSlash))
    (λ _.
    All-cons IsNoSlash 37 (high ∷ low ∷ []) refl
    (All-cons IsNoSlash high (low ∷ []) (glyph_no_slash (b / 16 % 16) (omega arith)) (All-cons IsNoSlash low [] (glyph_no_slash (b % 16) (omega arith)) (All-nil IsNoSlash))))

no_slash : (name : List ℕ) → All IsNoSlash (escaped name)
no_slash [] = All-nil IsNoSlash
no_slash (b ∷ name) = All-append IsNoSlash (escaped_byte b) (escaped name) (byte_no_slash b) (no_slash name)

-- what has no `/` stays in one part, up to the end or the next `/`
last_part : (current part : List ℕ) → All IsNoSlash part → parts_from current part ≡ (current ++ part) ∷ []
last_part current [] clean = ap (λ xs. xs ∷ []) (sym (append-nil current))
last_part current (b ∷ part) clean =
    cond-false (nat_eq b 47) _ _ (All-head IsNoSlash b part clean)
    ∙ (last_part (current ++ b ∷ []) part (All-tail IsNoSlash b part clean) ∙ ap (λ xs. xs ∷ []) (append_assoc current (b ∷ []) part))

front_part : (current part rest : List ℕ) → All IsNoSlash part → parts_from current (part ++ 47 ∷ rest) ≡ (current ++ part) ∷ parts_from [] rest
front_part current [] rest clean = ap (λ xs. xs ∷ parts_from [] rest) (sym (append-nil current))
front_part current (b ∷ part) rest clean =
    cond-false (nat_eq b 47) _ _ (All-head IsNoSlash b part clean)
    ∙ (front_part (current ++ b ∷ []) part rest (All-tail IsNoSlash b part clean) ∙ ap (λ xs. xs ∷ parts_from [] rest) (append_assoc current (b ∷ []) part))

parts_of_names : (name : List ℕ) (path : List (List ℕ)) → parts_from [] (escaped name ++ segments_text path) ≡ escaped name ∷ map escaped path
parts_of_names name [] = ap (parts_from []) (append-nil (escaped name)) ∙ last_part [] (escaped name) (no_slash name)
parts_of_names name (next ∷ path) = front_part [] (escaped name) (escaped next ++ segments_text path) (no_slash name) ∙ ap (λ xs. escaped name ∷ xs) (parts_of_names next path)

names_read_back : (path : List (List ℕ)) → All IsSegmentName path → names_of (map escaped path) ≡ Some path
names_read_back [] are = refl
names_read_back (name ∷ path) are =
    ap (λ first. with_name first (names_of (map escaped path))) (escapes_read_back name (All-head IsSegmentName name path are))
    ∙ ap (with_name (Some name)) (names_read_back path (All-tail IsSegmentName name path are))

after_slash : (text : List ℕ) → 0 < length text → path_after_slash text ≡ names_of (parts_from [] text)
after_slash [] some = absurd (omega arith)
after_slash (b ∷ text) some = refl

nonempty_front : (xs ys : List ℕ) → 0 < length xs → 0 < length (xs ++ ys)
nonempty_front [] ys some = absurd (omega arith)
nonempty_front (x ∷ xs) ys some = omega arith

pub paths_read_back : (path : List (List ℕ)) → All IsSegmentName path → path_of_text (path_text path) ≡ Some path
paths_read_back [] are = refl
paths_read_back (name ∷ path) are =
    let first = All-head IsSegmentName name path are in
    after_slash (escaped name ++ segments_text path) (nonempty_front (escaped name) (segments_text path) (nonempty_escaped name first.some))
    ∙ (ap names_of (parts_of_names name path) ∙ names_read_back (name ∷ path) are)
