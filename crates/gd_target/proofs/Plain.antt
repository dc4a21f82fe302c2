-- The bytes of what is written into targets.
use Rattle.std.proofs.Common.{◌≡◌, ℕ, zero, suc, ◌/◌, ◌%◌, ◌^◌, ◌<◌, ◌≤◌, Bool, true, false, not, ◌&&◌, ◌||◌, List, [], ◌∷◌, ◌++◌, length, nat_eq, All, refl, sym, ap, ◌∙◌, subst, arith}
use Rattle.std.specs.Prelude.{codes}
use Rattle.std.specs.Fmt.{decimal, digit_glyph}
use Rattle.std.specs.List.{list_all}
use Rattle.std.specs.Str.Parse.{AllDigits}
use Rattle.std.proofs.lemmas.Bool.{agree_below_at, both_ways, cond_both, ne_eqb, and_from, and_parts}
use Rattle.std.proofs.lemmas.Bool.Decides.{nat_tests}
use Rattle.std.proofs.lemmas.Fmt.{decimal_is_IsNumeral}
use Rattle.std.proofs.lemmas.List.Elements.{All-nil, All-cons, All-head, All-tail, All-append, All-weaker}
use Rattle.std.proofs.lemmas.Str.Parse.{digit_from_value}
use Rattle.gd_names.specs.Escapes.{is_between, is_unreserved, escaped_byte, escaped}
use Rattle.gd_names.specs.Paths.{segments_text, path_text}
use Rattle.gd_item.specs.Ids.{hex_digits, id_text}
use Rattle.gd_item.specs.declared.id.ItemId.{ItemId}
use Rattle.gd_json.specs.Numbers.{id_written}

-- each byte passes the test
abbrev pub Passes : (ℕ → Bool) → List ℕ → Type 0
Passes test text = All (λ b. test b ≡ true) text

pub literal : (test : ℕ → Bool) (text : List ℕ) → list_all test text ≡ true → Passes test text
literal test [] e = All-nil (λ b. test b ≡ true)
literal test (b ∷ text) e =
    let parts = and_parts (test b) (list_all test text) e in
    All-cons (λ b. test b ≡ true) b text parts.0 (literal test text parts.1)

pub joined : (test : ℕ → Bool) (a b : List ℕ) → Passes test a → Passes test b → Passes test (a ++ b)
joined test a b first last = All-append (λ b. test b ≡ true) a b first last

pub weaker : (test other : ℕ → Bool) → ((b : ℕ) → test b ≡ true → other b ≡ true) → (text : List ℕ) → Passes test text → Passes other text
weaker test other so text all = All-weaker (λ b. test b ≡ true) (λ b. other b ≡ true) so text all

-- a byte of an escaped name
abbrev pub is_plain : ℕ → Bool
is_plain b = is_unreserved b || nat_eq b 37

-- a byte of a path, and one of a query's member
abbrev pub is_visible : ℕ → Bool
is_visible b = is_between 33 126 b

abbrev pub is_path_byte : ℕ → Bool
is_path_byte b = is_visible b && not (nat_eq b 63)

abbrev pub is_member_byte : ℕ → Bool
is_member_byte b = is_visible b && not (nat_eq b 38)

plain_is_not : (b other : ℕ) → is_plain other ≡ false → is_plain b ≡ true → not (nat_eq b other) ≡ true
plain_is_not b other is_other plain = ap not (ne_eqb b other (λ e. both_ways (is_plain other) is_other (subst (λ (x : ℕ). is_plain x ≡ true) e plain)))

pub plain_visible : (b : ℕ) → is_plain b ≡ true → is_visible b ≡ true
plain_visible b plain = grind (arith, nat_tests)

pub plain_path : (b : ℕ) → is_plain b ≡ true → is_path_byte b ≡ true
plain_path b plain = and_from (is_visible b) (not (nat_eq b 63)) (plain_visible b plain) (plain_is_not b 63 refl plain)

pub plain_member : (b : ℕ) → is_plain b ≡ true → is_member_byte b ≡ true
plain_member b plain = and_from (is_visible b) (not (nat_eq b 38)) (plain_visible b plain) (plain_is_not b 38 refl plain)

pub plain_no_colon : (b : ℕ) → is_plain b ≡ true → not (nat_eq b 58) ≡ true
plain_no_colon b plain = plain_is_not b 58 refl plain

pub path_visible : (b : ℕ) → is_path_byte b ≡ true → is_visible b ≡ true
path_visible b path = (and_parts (is_visible b) (not (nat_eq b 63)) path).0

pub path_no_mark : (b : ℕ) → is_path_byte b ≡ true → not (nat_eq b 63) ≡ true
path_no_mark b path = (and_parts (is_visible b) (not (nat_eq b 63)) path).1

pub member_visible : (b : ℕ) → is_member_byte b ≡ true → is_visible b ≡ true
member_visible b member = (and_parts (is_visible b) (not (nat_eq b 38)) member).0

pub member_no_and : (b : ℕ) → is_member_byte b ≡ true → not (nat_eq b 38) ≡ true
member_no_and b member = (and_parts (is_visible b) (not (nat_eq b 38)) member).1

-- ---- what is written

glyph_plain : (d : ℕ) → d < 16 → is_plain (digit_glyph true d) ≡ true
glyph_plain d small = agree_below_at (λ d. is_plain (digit_glyph true d)) (λ d. true) 16 d refl small

unreserved_plain : (b : ℕ) (t : Bool) → is_unreserved b ≡ true → (is_unreserved b || t) ≡ true
unreserved_plain b t e = rw e refl

byte_plain : (b : ℕ) → Passes is_plain (escaped_byte b)
byte_plain b =
    let high = digit_glyph true (b / 16 % 16) in
    let low = digit_glyph true (b % 16) in
    cond_both (is_unreserved b) (b ∷ []) (37 ∷ high ∷ low ∷ []) (Passes is_plain)
    (λ e. All-cons (λ b. is_plain b ≡ true) b [] (unreserved_plain b (nat_eq b 37) e) (All-nil (λ b. is_plain b ≡ true)))
    (λ _.
    All-cons (λ b. is_plain b ≡ true) 37 (high ∷ low ∷ []) refl
    (All-cons (λ b. is_plain b ≡ true) high (low ∷ []) (glyph_plain (b / 16 % 16) (omega arith))
    (All-cons (λ b. is_plain b ≡ true) low [] (glyph_plain (b % 16) (omega arith)) (All-nil (λ b. is_plain b ≡ true)))))

pub name_plain : (name : List ℕ) → Passes is_plain (escaped name)
name_plain [] = All-nil (λ b. is_plain b ≡ true)
name_plain (b ∷ name) = joined is_plain (escaped_byte b) (escaped name) (byte_plain b) (name_plain name)

pub segments_pass : (test : ℕ → Bool) → test 47 ≡ true → ((b : ℕ) → is_plain b ≡ true → test b ≡ true) → (path : List (List ℕ)) → Passes test (segments_text path)
segments_pass test slash so [] = All-nil (λ b. test b ≡ true)
segments_pass test slash so (name ∷ path) =
    All-cons (λ b. test b ≡ true) 47 (escaped name ++ segments_text path) slash
    (joined test (escaped name) (segments_text path) (weaker is_plain test so (escaped name) (name_plain name)) (segments_pass test slash so path))

pub path_pass : (test : ℕ → Bool) → test 47 ≡ true → ((b : ℕ) → is_plain b ≡ true → test b ≡ true) → (path : List (List ℕ)) → Passes test (path_text path)
path_pass test slash so [] = All-cons (λ b. test b ≡ true) 47 [] slash (All-nil (λ b. test b ≡ true))
path_pass test slash so (name ∷ path) = segments_pass test slash so (name ∷ path)

hex_plain : (k n : ℕ) → Passes is_plain (hex_digits k n)
hex_plain zero n = All-nil (λ b. is_plain b ≡ true)
hex_plain (suc k) n =
    joined is_plain (hex_digits k (n / 16)) (digit_glyph true (n % 16) ∷ []) (hex_plain k (n / 16))
    (All-cons (λ b. is_plain b ≡ true) (digit_glyph true (n % 16)) [] (glyph_plain (n % 16) (omega arith)) (All-nil (λ b. is_plain b ≡ true)))

pub id_plain : (id : ItemId) → Passes is_plain (id_written id)
unfolding id_written
id_plain id = joined is_plain (codes "01GD") (hex_digits 16 id.0) (literal is_plain (codes "01GD") refl) (hex_plain 16 id.0)

digit_plain : (b : ℕ) → 48 ≤ b → b ≤ 57 → is_plain b ≡ true
digit_plain b low high = grind (arith, nat_tests)

digits_plain : (ds : List ℕ) → AllDigits 10 ds → Passes is_plain ds
digits_plain [] all = All-nil (λ b. is_plain b ≡ true)
digits_plain (d ∷ ds) all =
    let range = digit_from_value d all.0 in
    All-cons (λ b. is_plain b ≡ true) d ds (digit_plain d (omega arith) (omega arith)) (digits_plain ds all.1)

pub decimal_plain : (n : ℕ) → n < 2 ^ 64 → Passes is_plain (decimal n)
decimal_plain n small = digits_plain (decimal n) (decimal_is_IsNumeral n small).0.1
