-- Bytes of numbers, tokens and bases of links: all of them are ASCII.
use Rattle.std.proofs.Common.{◌≡◌, ◌≢◌, ℕ, ◌<◌, ◌≤◌, ◌^◌, Bool, true, false, not, ◌&&◌, ◌||◌, List, [], ◌∷◌, ◌++◌, length, get_or, take, drop, Some, None, Result, Ok, Err, All, cond, refl, sym, ap, subst, ⊎_elim, arith, lit≤}
use Rattle.std.specs.Prelude.{codes, nat_eq, nat_le, nat_lt}
use Rattle.std.specs.Cmp.Lexicographic.{bytes_decides}
use Rattle.std.specs.List.{list_all}
use Rattle.std.specs.Result.{OkIff}
use Rattle.std.specs.Str.{IsUtf8, IsAscii, all_ascii_digits}
use Rattle.std.specs.Str.Parse.{digits_value, ParsesUnsigned}
use Rattle.std.proofs.lemmas.Bool.{and_parts, or_cases, eqb-true, eqb-false, leb-true, lt-ltb, ltb-true, le-leb, ne_eqb}
use Rattle.std.proofs.lemmas.Fmt.{IsAscii-from_digits}
use Rattle.std.proofs.lemmas.List.{take-append-drop}
use Rattle.std.proofs.lemmas.List.Elements.{All-cons, All-nil}
use Rattle.std.proofs.lemmas.Result.{OkIff-at_ok}
use Rattle.std.proofs.lemmas.Str.Parse.{parse_plain}
use Rattle.std.proofs.lemmas.Str.{IsUtf8-from_ascii, IsAscii-append}
use Rattle.std.proofs.lemmas.Str.Ascii.{IsAscii-from_all, IsAscii-cons}
use Rattle.serde_json.specs.View.{items_view}
use Rattle.serde_json.specs.declared.value.Value.{Value}
use Rattle.gd_names.specs.Escapes.{is_between}
use Rattle.gd_json.specs.Bases.{is_letter_or_digit, is_host_byte, is_port, is_authority, is_base}
use Rattle.gd_json.specs.Links.{is_token_byte, is_token}
use Rattle.gd_json.specs.Numbers.{number_of_text}
use Rattle.gd_json.specs.Sessions.{expected_in}
use Rattle.gd_json.proofs.Ids.{own}

abbrev Small : ℕ → Type 0
Small b = b < 128

all_small : (p : ℕ → Bool) → ((b : ℕ) → p b ≡ true → b < 128) → (xs : List ℕ) → list_all p xs ≡ true → All Small xs
all_small p each [] e = All-nil Small
all_small p each (x ∷ xs) e = let parts = and_parts (p x) (list_all p xs) e in All-cons Small x xs (each x parts.0) (all_small p each xs parts.1)

between_small : (low high b : ℕ) → high < 128 → is_between low high b ≡ true → b < 128
between_small low high b less e = let parts = and_parts (nat_le low b) (nat_le b high) e in let below : b ≤ high = leb-true b high parts.1 in omega arith

letter_small : (b : ℕ) → is_letter_or_digit b ≡ true → b < 128
letter_small b e =
    ⊎_elim
    (λ more. ⊎_elim (λ d. between_small 48 57 b (lit≤ tt) d) (λ u. between_small 65 90 b (lit≤ tt) u) (or_cases (is_between 48 57 b) (is_between 65 90 b) more))
    (λ l. between_small 97 122 b (lit≤ tt) l)
    (or_cases (is_between 48 57 b || is_between 65 90 b) (is_between 97 122 b) e)

equal_small : (n b : ℕ) → n < 128 → nat_eq b n ≡ true → b < 128
equal_small n b less e = let same : b ≡ n = eqb-true b n e in omega arith

token_byte_small : (b : ℕ) → is_token_byte b ≡ true → b < 128
unfolding is_token_byte
token_byte_small b e = ⊎_elim (letter_small b) (equal_small 46 b (lit≤ tt)) (or_cases (is_letter_or_digit b) (nat_eq b 46) e)

pub token_text : (token : List ℕ) → is_token token ≡ true → IsUtf8 token
unfolding is_token
token_text token e =
    let parts = and_parts (not (nat_eq (length token) 0)) (list_all is_token_byte token) e in
    IsUtf8-from_ascii token (IsAscii-from_all token (all_small is_token_byte token_byte_small token parts.1))

digits_ascii : (text : List ℕ) → all_ascii_digits text ≡ true → IsAscii text
digits_ascii text e = IsAscii-from_digits text (own.to text e)

some_length : (text : List ℕ) → not (nat_eq (length text) 0) ≡ true → 0 < length text
some_length [] e = absurd cc
some_length (b ∷ text) e = omega arith

begun_length : (text : List ℕ) → is_between 49 57 (get_or text 0 0) ≡ true → 0 < length text
begun_length [] e = absurd cc
begun_length (b ∷ text) e = omega arith

-- ---- numbers

number_by : (text : List ℕ) (b : Bool) → ((all_ascii_digits text ≡ true) × (0 < length text) × (digits_value 10 text < 2 ^ 64) → ⊥)
    → (not (nat_eq (length text) 0) && all_ascii_digits text && nat_lt (digits_value 10 text) (2 ^ 64)) ≡ b → None ≡ cond b (Some (digits_value 10 text)) None
number_by text false other e = refl
number_by text true other e =
    let one = and_parts (not (nat_eq (length text) 0) && all_ascii_digits text) (nat_lt (digits_value 10 text) (2 ^ 64)) e in
    let two = and_parts (not (nat_eq (length text) 0)) (all_ascii_digits text) one.0 in
    absurd (other (two.1, some_length text two.0, ltb-true (digits_value 10 text) (2 ^ 64) one.1))

pub no_number : (text : List ℕ) → ((all_ascii_digits text ≡ true) × (0 < length text) × (digits_value 10 text < 2 ^ 64) → ⊥) → None ≡ number_of_text text
unfolding number_of_text
no_number text other = number_by text _ other refl

pub not_text : (text : List ℕ) → (IsUtf8 text → ⊥) → None ≡ number_of_text text
not_text text other = no_number text (λ h. other (IsUtf8-from_ascii text (digits_ascii text h.0)))

pub the_number : (text : List ℕ) (n : ℕ) → (all_ascii_digits text ≡ true) × (0 < length text) × (digits_value 10 text < 2 ^ 64) → n ≡ digits_value 10 text → Some n ≡ number_of_text text
unfolding number_of_text
the_number text n h e =
    let some : nat_eq (length text) 0 ≡ false = ne_eqb (length text) 0 (λ z. omega (arith, h.1)) in
    rw (some, h.0, lt-ltb (digits_value 10 text) (2 ^ 64) h.2) (ap Some e)

-- a text of digits begins with none but these
pub no_plus : (text : List ℕ) → nat_eq (get_or text 0 0) 43 ≡ true → all_ascii_digits text ≡ true → ⊥
no_plus [] e d = cc
no_plus (b ∷ text) e d = let parts = and_parts _ _ d in let between = and_parts (nat_le 48 b) (nat_le b 57) parts.0 in let low : 48 ≤ b = leb-true 48 b between.0 in let same : b ≡ 43 = eqb-true b 43 e in omega arith

-- ---- bases

port_ascii : (text : List ℕ) → is_port text ≡ true → IsAscii text
unfolding is_port
port_ascii text e =
    let one = and_parts (is_between 49 57 (get_or text 0 0) && all_ascii_digits text) (nat_le (digits_value 10 text) 65535) e in
    digits_ascii text (and_parts (is_between 49 57 (get_or text 0 0)) (all_ascii_digits text) one.0).1

host_small : (b : ℕ) → is_host_byte b ≡ true → b < 128
host_small b e =
    ⊎_elim
    (λ more. ⊎_elim (letter_small b) (equal_small 45 b (lit≤ tt)) (or_cases (is_letter_or_digit b) (nat_eq b 45) more))
    (equal_small 46 b (lit≤ tt))
    (or_cases (is_letter_or_digit b || nat_eq b 45) (nat_eq b 46) e)

authority_by : (b : ℕ) (text : List ℕ) (some colon : Bool) → nat_eq b 58 ≡ colon → (is_authority true text ≡ true → IsAscii text)
    → cond colon (some && is_port text) (is_host_byte b && is_authority true text) ≡ true → IsAscii (b ∷ text)
authority_by b text some true is later e = IsAscii-cons b text (equal_small 58 b (lit≤ tt) is) (port_ascii text (and_parts some (is_port text) e).1)
authority_by b text some false is later e =
    let parts = and_parts (is_host_byte b) (is_authority true text) e in
    IsAscii-cons b text (host_small b parts.0) (later parts.1)

authority_ascii : (some : Bool) (text : List ℕ) → is_authority some text ≡ true → IsAscii text
unfolding is_authority
authority_ascii some [] e = absurd cc
authority_ascii some (b ∷ text) e = authority_by b text some (nat_eq b 58) refl (authority_ascii true text) e

pub base_text : (text : List ℕ) → is_base text ≡ true → IsUtf8 text
unfolding is_base
base_text text e =
    let parts = and_parts _ (is_authority false (drop 7 text)) e in
    let front : codes "http://" ≡ take 7 text = (bytes_decides (codes "http://") (take 7 text)).0 parts.0 in
    let all : IsAscii (take 7 text ++ drop 7 text) = IsAscii-append (take 7 text) (drop 7 text)
    (subst IsAscii front (IsAscii-from_all (codes "http://") (all_small (λ b. nat_lt b 128) (λ b h. ltb-true b 128 h) (codes "http://") refl))) (authority_ascii false (drop 7 text) parts.1) in
    IsUtf8-from_ascii text (subst IsAscii (take-append-drop 7 text) all)

-- the port that is parsed
pub the_port : (text : List ℕ) (n : ℕ) → is_between 49 57 (get_or text 0 0) ≡ true → (all_ascii_digits text ≡ true) × (0 < length text) × (digits_value 10 text < 2 ^ 16) → true ≡ is_port text
unfolding is_port
the_port text n begun h = let below : nat_le (digits_value 10 text) 65535 ≡ true = le-leb (digits_value 10 text) 65535 (omega (arith, h.2)) in rw (begun, h.0, below) refl

port_by : (text : List ℕ) (b : Bool) → ((all_ascii_digits text ≡ true) × (0 < length text) × (digits_value 10 text < 2 ^ 16) → ⊥) → is_port text ≡ b → false ≡ b
unfolding is_port
port_by text false other e = refl
port_by text true other e =
    let one = and_parts (is_between 49 57 (get_or text 0 0) && all_ascii_digits text) (nat_le (digits_value 10 text) 65535) e in
    let two = and_parts (is_between 49 57 (get_or text 0 0)) (all_ascii_digits text) one.0 in
    let small : digits_value 10 text ≤ 65535 = leb-true (digits_value 10 text) 65535 one.1 in
    absurd (other (two.1, begun_length text two.0, omega arith))

pub no_port : (text : List ℕ) → ((all_ascii_digits text ≡ true) × (0 < length text) × (digits_value 10 text < 2 ^ 16) → ⊥) → false ≡ is_port text
no_port text other = port_by text (is_port text) other refl

pub no_text_port : (text : List ℕ) → (IsUtf8 text → ⊥) → false ≡ is_port text
no_text_port text other = no_port text (λ h. other (IsUtf8-from_ascii text (digits_ascii text h.0)))

pub no_plus_begun : (text : List ℕ) → is_between 49 57 (get_or text 0 0) ≡ true → get_or text 0 0 ≢ 43
no_plus_begun text begun plus = let parts = and_parts (nat_le 49 (get_or text 0 0)) (nat_le (get_or text 0 0) 57) begun in let low : 49 ≤ get_or text 0 0 = leb-true 49 (get_or text 0 0) parts.0 in omega arith

-- ---- what `parse` answers, of a text that has these bytes

module _ {E : Type 0} (bytes text : List ℕ) (result : Result ℕ E) (same : text ≡ bytes) where
  plus_apart : nat_eq (get_or bytes 0 0) 43 ≡ false → get_or text 0 0 ≢ 43
  plus_apart e = subst (λ (xs : List ℕ). get_or xs 0 0 ≢ 43) (sym same) (eqb-false (get_or bytes 0 0) 43 e)

  pub number_parsed : nat_eq (get_or bytes 0 0) 43 ≡ false → ParsesUnsigned 64 10 text result → (n : ℕ) → result ≡ Ok n → Some n ≡ number_of_text bytes
  number_parsed apart parses n is =
      let p = OkIff-at_ok result ((all_ascii_digits text ≡ true) × (0 < length text) × (digits_value 10 text < 2 ^ 64)) (digits_value 10 text) n (parse_plain own 64 text result parses (plus_apart apart)) is in
      subst (λ (xs : List ℕ). Some n ≡ number_of_text xs) same (the_number text n p.0 p.1)

  pub number_refused : nat_eq (get_or bytes 0 0) 43 ≡ false → ParsesUnsigned 64 10 text result → (e : E) → result ≡ Err e → None ≡ number_of_text bytes
  number_refused apart parses e is =
      let none = subst (λ (r : Result ℕ E). OkIff r ((all_ascii_digits text ≡ true) × (0 < length text) × (digits_value 10 text < 2 ^ 64)) (digits_value 10 text)) is (parse_plain own 64 text result parses (plus_apart apart)) in
      subst (λ (xs : List ℕ). None ≡ number_of_text xs) same (no_number text none)

  begun_apart : is_between 49 57 (get_or bytes 0 0) ≡ true → get_or text 0 0 ≢ 43
  begun_apart e = subst (λ (xs : List ℕ). get_or xs 0 0 ≢ 43) (sym same) (no_plus_begun bytes e)

  pub port_parsed : is_between 49 57 (get_or bytes 0 0) ≡ true → ParsesUnsigned 16 10 text result → (n : ℕ) → result ≡ Ok n → true ≡ is_port bytes
  port_parsed begun parses n is =
      let p = OkIff-at_ok result ((all_ascii_digits text ≡ true) × (0 < length text) × (digits_value 10 text < 2 ^ 16)) (digits_value 10 text) n (parse_plain own 16 text result parses (begun_apart begun)) is in
      subst (λ (xs : List ℕ). true ≡ is_port xs) same (the_port text n (subst (λ (xs : List ℕ). is_between 49 57 (get_or xs 0 0) ≡ true) (sym same) begun) p.0)

  pub port_refused : is_between 49 57 (get_or bytes 0 0) ≡ true → ParsesUnsigned 16 10 text result → (e : E) → result ≡ Err e → false ≡ is_port bytes
  port_refused begun parses e is =
      let none = subst (λ (r : Result ℕ E). OkIff r ((all_ascii_digits text ≡ true) × (0 < length text) × (digits_value 10 text < 2 ^ 16)) (digits_value 10 text)) is (parse_plain own 16 text result parses (begun_apart begun)) in
      subst (λ (xs : List ℕ). false ≡ is_port xs) same (no_port text none)

-- a list of no range, or of several, tells of none
pub other_count : (vs : List Value) → (length vs ≡ 1 → ⊥) → expected_in (items_view vs) ≡ None
other_count [] other = refl
other_count (v ∷ []) other = absurd (other (omega arith))
other_count (v ∷ w ∷ vs) other = refl
