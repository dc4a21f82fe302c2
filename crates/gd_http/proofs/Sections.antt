-- Written headers are fields of the grammar, and their values are read as they were written.
use Rattle.std.proofs.Common.{◌≡◌, ℕ, ◌+◌, ◌-◌, ◌*◌, ◌^◌, ◌<◌, ◌≤◌, zero, suc, Bool, true, false, ◌&&◌, List, [], ◌∷◌, ◌++◌, map, length, reverse, take, drop, nat_eq, nat_le, nat_lt, All, Some, None, Ok, refl, sym, ap, ◌∙◌, subst, ⊎_elim, arith, append_assoc, append-nil}
use Rattle.std.specs.Prelude.{codes, slice_index}
use Rattle.std.specs.Char.{is_ascii_digit}
use Rattle.std.specs.Cmp.Lexicographic.{bytes_decides}
use Rattle.std.specs.Fmt.{decimal}
use Rattle.std.specs.List.{flat_map, starts_with}
use Rattle.std.specs.Str.{IsAscii, is_utf8, all_ascii_digits}
use Rattle.std.specs.Str.Parse.{AllDigits, digits_value}
use Rattle.std.proofs.lemmas.Bool.{cond-true, cond-false, cases_Bool, and_parts, eqb-true, lt-ltb, le-leb}
use Rattle.std.proofs.lemmas.Bool.Decides.{nat_tests}
use Rattle.std.proofs.lemmas.Fmt.{decimal_is_IsNumeral}
use Rattle.std.proofs.lemmas.Grind.{flat_map-append}
use Rattle.std.proofs.lemmas.List.{reverse-append, length-reverse, take-append-drop}
use Rattle.std.proofs.lemmas.List.Concat.{flat_map-cons}
use Rattle.std.proofs.lemmas.List.Elements.{All-nil, All-cons, All-head, All-tail, All-append}
use Rattle.std.proofs.lemmas.Str.{IsUtf8-from_ascii, is_utf8-from_IsUtf8}
use Rattle.std.proofs.lemmas.Str.Parse.{FoldsDigits, digit_from_value, numerals_by_fold, tells_digits}
use Rattle.httparse.specs.Grammar.{Field, IsField, IsToken, AllPass, is_token_byte, is_value_byte, is_ows, skip_ows, trim_ows, crlf, print_field}
use Rattle.httparse.specs.Spans.{name_and_value}
use Rattle.httparse.proofs.TrimLemmas.{AllPass-reverse, trim_ows_space}
use Rattle.gd_names.specs.Escapes.{is_between}
use Rattle.gd_json.specs.Bases.{is_host_byte, is_port, is_authority, is_base}
use Rattle.gd_target.proofs.Plain.{Passes, literal, joined, weaker, is_plain, is_visible, plain_visible, decimal_plain}
use Rattle.gd_frame.specs.Framing.{is_digit, number_after, decimal_of, number_of, if_allowed}
use Rattle.gd_http.specs.Written.{line_end, field_text}

-- ---- visible bytes

pub visible_value : (b : ℕ) → is_visible b ≡ true → is_value_byte b ≡ true
visible_value b visible = grind (arith, nat_tests)

visible_small : (b : ℕ) → is_visible b ≡ true → b < 128
visible_small b visible = grind (arith, nat_tests)

visible_no_blank : (b : ℕ) → is_visible b ≡ true → is_ows b ≡ false
visible_no_blank b visible = grind (arith, nat_tests)

pub ascii : (text : List ℕ) → Passes is_visible text → IsAscii text
ascii [] all i = omega arith
ascii (b ∷ text) all zero = visible_small b (All-head (λ b. is_visible b ≡ true) b text all)
ascii (b ∷ text) all (suc i) = ascii text (All-tail (λ b. is_visible b ≡ true) b text all) i

pub visible_utf8 : (text : List ℕ) → Passes is_visible text → is_utf8 text ≡ true
visible_utf8 text all = is_utf8-from_IsUtf8 text (IsUtf8-from_ascii text (ascii text all))

-- blanks are skipped before no visible byte
skip_first : (text rest : List ℕ) → 0 < length text → Passes is_visible text → skip_ows (text ++ rest) ≡ text ++ rest
skip_first [] rest some all = absurd (omega arith)
skip_first (b ∷ text) rest some all = cond-false (is_ows b) (skip_ows (text ++ rest)) (b ∷ (text ++ rest)) (visible_no_blank b (All-head (λ b. is_visible b ≡ true) b text all))

skip_visible : (text : List ℕ) → Passes is_visible text → skip_ows text ≡ text
skip_visible [] all = refl
skip_visible (b ∷ text) all = cond-false (is_ows b) (skip_ows text) (b ∷ text) (visible_no_blank b (All-head (λ b. is_visible b ≡ true) b text all))

pub visible_trimmed : (text : List ℕ) → Passes is_visible text → trim_ows (32 ∷ text) ≡ text
visible_trimmed text all = trim_ows_space text (skip_visible text all) (skip_visible (reverse text) (AllPass-reverse is_visible text all))

-- the same of a text with visible bytes at both ends
some_reversed : (text : List ℕ) → 0 < length text → 0 < length (reverse text)
some_reversed text some = omega (arith, length-reverse text)

pub ends_trimmed : (b : ℕ) (text last : List ℕ) → is_visible b ≡ true → 0 < length last → Passes is_visible last → trim_ows (32 ∷ b ∷ (text ++ last)) ≡ b ∷ (text ++ last)
ends_trimmed b text last first some all =
    let back : reverse (b ∷ (text ++ last)) ≡ reverse last ++ reverse (b ∷ text) = reverse-append (b ∷ text) last in
    trim_ows_space (b ∷ (text ++ last)) (cond-false (is_ows b) (skip_ows (text ++ last)) (b ∷ (text ++ last)) (visible_no_blank b first))
    (rw back (skip_first (reverse last) (reverse (b ∷ text)) (some_reversed last some) (AllPass-reverse is_visible last all)))

-- ---- the base of links

host_visible : (b : ℕ) → is_host_byte b ≡ true → is_visible b ≡ true
host_visible b host = grind (arith, nat_tests)

digit_byte_visible : (b : ℕ) → is_ascii_digit b ≡ true → is_visible b ≡ true
digit_byte_visible b digit = grind (arith, nat_tests)

digits_visible : (text : List ℕ) → all_ascii_digits text ≡ true → Passes is_visible text
digits_visible [] e = All-nil (λ b. is_visible b ≡ true)
digits_visible (b ∷ text) e =
    let parts = and_parts (is_ascii_digit b) (all_ascii_digits text) e in
    All-cons (λ b. is_visible b ≡ true) b text (digit_byte_visible b parts.0) (digits_visible text parts.1)

port_visible : (text : List ℕ) → is_port text ≡ true → Passes is_visible text
unfolding is_port
port_visible text e =
    let first : Bool = is_between 49 57 (slice_index text 0) in
    digits_visible text (and_parts first (all_ascii_digits text) (and_parts (first && all_ascii_digits text) (nat_le (digits_value 10 text) 65535) e).0).1

authority_visible : (some : Bool) (text : List ℕ) → is_authority some text ≡ true → Passes is_visible text
unfolding is_authority
authority_visible some [] e = absurd cc
authority_visible some (b ∷ text) e =
    ⊎_elim
    (λ colon.
    let port : (some && is_port text) ≡ true = sym (cond-true (nat_eq b 58) (some && is_port text) (is_host_byte b && is_authority true text) colon) ∙ e in
    All-cons (λ b. is_visible b ≡ true) b text (subst (λ x. is_visible x ≡ true) (sym (eqb-true b 58 colon)) refl) (port_visible text (and_parts some (is_port text) port).1))
    (λ other.
    let host : (is_host_byte b && is_authority true text) ≡ true = sym (cond-false (nat_eq b 58) (some && is_port text) (is_host_byte b && is_authority true text) other) ∙ e in
    let parts = and_parts (is_host_byte b) (is_authority true text) host in
    All-cons (λ b. is_visible b ≡ true) b text (host_visible b parts.0) (authority_visible true text parts.1))
    (cases_Bool (nat_eq b 58))

pub host_is_visible : (base : List ℕ) → is_base base ≡ true → Passes is_visible (drop 7 base)
unfolding is_base
host_is_visible base e = authority_visible false (drop 7 base) (and_parts (starts_with nat_eq base (codes "http://")) (is_authority false (drop 7 base)) e).1

pub base_is_visible : (base : List ℕ) → is_base base ≡ true → Passes is_visible base
unfolding is_base
base_is_visible base e =
    let front = (and_parts (starts_with nat_eq base (codes "http://")) (is_authority false (drop 7 base)) e).0 in
    let same : codes "http://" ≡ take 7 base = (bytes_decides (codes "http://") (take 7 base)).0 front in
    subst (Passes is_visible) (take-append-drop 7 base)
    (joined is_visible (take 7 base) (drop 7 base) (subst (Passes is_visible) same (literal is_visible (codes "http://") refl)) (host_is_visible base e))

-- ---- numbers

abbrev value_after : ℕ → List ℕ → ℕ
value_after high [] = high
value_after high (d ∷ ds) = value_after (10 * high + (d - 48)) ds

folds : FoldsDigits value_after
folds = record { empty = λ n. refl; more = λ n c cs k. ap (λ m. value_after m cs) (omega arith) }

digit_told : (d : ℕ) → 48 ≤ d → d ≤ 57 → is_digit d ≡ true
digit_told d low high = grind (arith, nat_tests)

number_after_is : (high : ℕ) (ds : List ℕ) → AllDigits 10 ds → number_after high ds ≡ Some (value_after high ds)
number_after_is high [] all = refl
number_after_is high (d ∷ ds) all =
    let range = digit_from_value d all.0 in
    cond-true (is_digit d) (number_after (10 * high + (d - 48)) ds) None (digit_told d (omega arith) (omega arith)) ∙ number_after_is (10 * high + (d - 48)) ds all.1

some_decimal : (ds : List ℕ) → 0 < length ds → decimal_of ds ≡ number_after 0 ds
some_decimal [] some = absurd (omega arith)
some_decimal (d ∷ ds) some = refl

decimal_again : (n : ℕ) → n < 2 ^ 64 → decimal_of (decimal n) ≡ Some n
decimal_again n small =
    let is = decimal_is_IsNumeral n small in
    let value : value_after 0 (decimal n) ≡ n = (numerals_by_fold (AllDigits 10) tells_digits value_after folds).same (decimal n) is.0.1 ∙ is.1 in
    some_decimal (decimal n) is.0.0 ∙ number_after_is 0 (decimal n) is.0.1 ∙ ap Some value

pub length_again : (n : ℕ) → n ≤ 67108864 → if_allowed (number_of (decimal n)) ≡ Ok n
length_again n short =
    let below : nat_lt n (2 ^ 64) ≡ true = lt-ltb n (2 ^ 64) (omega arith) in
    let allowed : nat_le n 67108864 ≡ true = le-leb n 67108864 short in
    rw (decimal_again n (omega arith), below, allowed) refl

-- ---- headers

-- a name and a value that are read as they are written
pub record IsHeader (p : List ℕ × List ℕ) : Type 0 where
  pub name : IsToken p.0
  pub value : AllPass is_value_byte p.1
  pub trimmed : trim_ows (32 ∷ p.1) ≡ p.1

pub line_of : List ℕ × List ℕ → Field
line_of p = record { name = p.0; raw = 32 ∷ p.1; end = crlf }

pub visible_header : (name value : List ℕ) → IsToken name → Passes is_visible value → IsHeader (name, value)
visible_header name value token all = record { name = token; value = weaker is_visible is_value_byte visible_value value all; trimmed = visible_trimmed value all }

pub printed : (name value : List ℕ) → field_text name value ≡ print_field (line_of (name, value))
unfolding field_text line_of
printed name value = sym (append_assoc (name ++ codes ": ") value line_end) ∙ ap (λ (x : List ℕ). x ++ line_end) (append_assoc name (codes ": ") value)

field_is : (p : List ℕ × List ℕ) → IsHeader p → IsField (line_of p)
unfolding line_of
field_is p h = record { name = h.name; raw = All-cons (λ b. is_value_byte b ≡ true) 32 p.1 refl h.value }

pub fields_are : (hs : List (List ℕ × List ℕ)) → All IsHeader hs → All IsField (map line_of hs)
fields_are [] all = All-nil IsField
fields_are (h ∷ hs) all = All-cons IsField (line_of h) (map line_of hs) (field_is h (All-head IsHeader h hs all)) (fields_are hs (All-tail IsHeader h hs all))

pub values_are : (hs : List (List ℕ × List ℕ)) → All IsHeader hs → map name_and_value (map line_of hs) ≡ hs
unfolding line_of
values_are [] all = refl
values_are (h ∷ hs) all = rw ((All-head IsHeader h hs all).trimmed, values_are hs (All-tail IsHeader h hs all)) refl

-- a text that is these headers
pub record Prints (t : List ℕ) (hs : List (List ℕ × List ℕ)) : Type 0 where
  pub text : t ≡ flat_map print_field (map line_of hs)
  pub headers : All IsHeader hs

pub prints_none : Prints [] []
prints_none = record { text = refl; headers = All-nil IsHeader }

pub prints_one : (name value : List ℕ) → IsHeader (name, value) → Prints (field_text name value) ((name, value) ∷ [])
prints_one name value h = record {
  text = printed name value ∙ sym (flat_map-cons print_field (line_of (name, value)) [] ∙ append-nil (print_field (line_of (name, value))));
  headers = All-cons IsHeader (name, value) [] h (All-nil IsHeader);
}

map_append : (hs ks : List (List ℕ × List ℕ)) → map line_of (hs ++ ks) ≡ map line_of hs ++ map line_of ks
map_append [] ks = refl
map_append (h ∷ hs) ks = ap (λ fs. line_of h ∷ fs) (map_append hs ks)

pub prints_both : (a b : List ℕ) (hs ks : List (List ℕ × List ℕ)) → Prints a hs → Prints b ks → Prints (a ++ b) (hs ++ ks)
prints_both a b hs ks x y = record {
  text = rw (x.text, y.text) (sym (ap (flat_map print_field) (map_append hs ks) ∙ flat_map-append print_field (map line_of hs) (map line_of ks)));
  headers = All-append IsHeader hs ks x.headers y.headers;
}

-- ---- the names of headers

pub host_token : IsToken (codes "Host")
unfolding is_token_byte
host_token = (omega arith, literal is_token_byte (codes "Host") refl)

pub match_token : IsToken (codes "If-Match")
unfolding is_token_byte
match_token = (omega arith, literal is_token_byte (codes "If-Match") refl)

pub range_token : IsToken (codes "Content-Range")
unfolding is_token_byte
range_token = (omega arith, literal is_token_byte (codes "Content-Range") refl)

pub type_token : IsToken (codes "Content-Type")
unfolding is_token_byte
type_token = (omega arith, literal is_token_byte (codes "Content-Type") refl)

pub length_token : IsToken (codes "Content-Length")
unfolding is_token_byte
length_token = (omega arith, literal is_token_byte (codes "Content-Length") refl)

pub location_token : IsToken (codes "Location")
unfolding is_token_byte
location_token = (omega arith, literal is_token_byte (codes "Location") refl)

pub length_header_is : (n : ℕ) → n < 2 ^ 64 → IsHeader (codes "Content-Length", decimal n)
length_header_is n small = visible_header (codes "Content-Length") (decimal n) length_token (weaker is_plain is_visible plain_visible (decimal n) (decimal_plain n small))
