-- The text of a token is read back, and no other text is read as the token.
use Rattle.std.proofs.Common.{rules, ◌≡◌, ℕ, ◌^◌, ◌<◌, ◌≤◌, Bool, true, false, ◌&&◌, cond, nat_eq, nat_lt, List, [], ◌∷◌, ◌++◌, codes, decimal, Option, Some, None, refl, sym, ap, ◌∙◌, subst, arith}
use Rattle.std.specs.Cmp.Lexicographic.{pointwise, bytes_decides}
use Rattle.std.specs.Char.{is_ascii_digit}
use Rattle.std.specs.Str.{all_ascii_digits}
use Rattle.std.proofs.lemmas.Bool.{eqb-true, leb-true, ltb-true, lt-ltb, ne_eqb, and_parts}
use Rattle.std.proofs.lemmas.Fmt.{digits_decimal, digits_value-decimal}
use Rattle.std.proofs.lemmas.List.{append-nil, append_assoc}
use Rattle.std.proofs.lemmas.Str.Parse.{IsNumeralModel, numerals_by_fold, tells_all_ascii_digits}
use Rattle.gd_item.specs.Tokens.{token_text, fields_from, digits_value, number_of_text, token_of, token_of_fields, token_of_text}
use Rattle.gd_item.specs.declared.token.Token.{Token}

own : IsNumeralModel (λ ds. all_ascii_digits ds ≡ true) (digits_value 0)
own = numerals_by_fold (λ ds. all_ascii_digits ds ≡ true) tells_all_ascii_digits digits_value (search rules)

-- a number below 2 ^ 64 is read from its decimal text
number-read : (n : ℕ) → n < 2 ^ 64 → number_of_text (decimal n) ≡ Some n
number-read n fits =
    ap (λ m. cond (nat_lt m (2 ^ 64) && pointwise nat_eq (decimal n) (decimal m)) (Some m) None) (digits_value-decimal own n fits)
    ∙ ap (λ b. cond (b && pointwise nat_eq (decimal n) (decimal n)) (Some n) None) (lt-ltb n (2 ^ 64) fits)
    ∙ ap (λ b. cond b (Some n) None) ((bytes_decides (decimal n) (decimal n)).1 refl)

-- and from no other
number-exact : (text : List ℕ) (n : ℕ) → number_of_text text ≡ Some n → (text ≡ decimal n) × (n < 2 ^ 64)
number-exact text n read = by (nat_lt (digits_value 0 text) (2 ^ 64) && pointwise nat_eq text (decimal (digits_value 0 text))) refl read
  where
    by : (b : Bool) → (nat_lt (digits_value 0 text) (2 ^ 64) && pointwise nat_eq text (decimal (digits_value 0 text))) ≡ b → cond b (Some (digits_value 0 text)) None ≡ Some n
        → (text ≡ decimal n) × (n < 2 ^ 64)
    by true is found =
        let parts = and_parts (nat_lt (digits_value 0 text) (2 ^ 64)) (pointwise nat_eq text (decimal (digits_value 0 text))) is in
        let value : digits_value 0 text ≡ n = cc in
        let fits : digits_value 0 text < 2 ^ 64 = ltb-true (digits_value 0 text) (2 ^ 64) parts.0 in
        ((bytes_decides text (decimal (digits_value 0 text))).0 parts.1 ∙ ap decimal value, subst (λ m. m < 2 ^ 64) value fits)
    by false is found = absurd cc

-- digits hold no dot
fields-digits : (digits current rest : List ℕ) → all_ascii_digits digits ≡ true → fields_from current (digits ++ rest) ≡ fields_from (current ++ digits) rest
fields-digits [] current rest are = ap (λ c. fields_from c rest) (sym (append-nil current))
fields-digits (d ∷ digits) current rest are =
    let parts = and_parts (is_ascii_digit d) (all_ascii_digits digits) are in
    let low : 48 ≤ d = leb-true 48 d (and_parts _ _ parts.0).0 in
    let dot : nat_eq d 46 ≡ false = ne_eqb d 46 (λ e. omega (arith, e, low)) in
    ap (λ b. cond b (current ∷ fields_from [] (digits ++ rest)) (fields_from (current ++ d ∷ []) (digits ++ rest))) dot
    ∙ fields-digits digits (current ++ d ∷ []) rest parts.1 ∙ ap (λ c. fields_from c rest) (append_assoc current (d ∷ []) digits)

three-fields : (a b c : List ℕ) → all_ascii_digits a ≡ true → all_ascii_digits b ≡ true → all_ascii_digits c ≡ true
    → fields_from [] (a ++ codes "." ++ b ++ codes "." ++ c) ≡ a ∷ b ∷ c ∷ []
three-fields a b c a_are b_are c_are =
    let one : a ++ codes "." ++ b ++ codes "." ++ c ≡ a ++ (46 ∷ (b ++ (46 ∷ c))) =
    append_assoc (a ++ codes "." ++ b) (codes ".") c ∙ append_assoc (a ++ codes ".") b (46 ∷ c) ∙ append_assoc a (codes ".") (b ++ (46 ∷ c)) in
    ap (fields_from []) one
    ∙ fields-digits a [] (46 ∷ (b ++ (46 ∷ c))) a_are
    ∙ ap (λ fs. a ∷ fs) (fields-digits b [] (46 ∷ c) b_are
    ∙ ap (λ fs. b ∷ fs) (ap (fields_from []) (sym (append-nil c)) ∙ fields-digits c [] [] c_are))

pub token-read : (token : Token) → token.epoch < 2 ^ 64 → token.position < 2 ^ 64 → token.start < 2 ^ 64 → token_of_text (token_text token) ≡ Some token
token-read token epoch position start =
    ap token_of_fields (three-fields (decimal token.epoch) (decimal token.position) (decimal token.start) (digits_decimal own token.epoch epoch) (digits_decimal own token.position position) (digits_decimal own token.start start))
    ∙ ap (λ e. token_of e (number_of_text (decimal token.position)) (number_of_text (decimal token.start))) (number-read token.epoch epoch)
    ∙ ap (λ p. token_of (Some token.epoch) p (number_of_text (decimal token.start))) (number-read token.position position)
    ∙ ap (λ s. token_of (Some token.epoch) (Some token.position) s) (number-read token.start start)

-- fields with dots between them
abbrev after_dot : List (List ℕ) → List ℕ
after_dot [] = []
after_dot (field ∷ fields) = 46 ∷ (field ++ after_dot fields)

abbrev joined : List (List ℕ) → List ℕ
joined [] = []
joined (field ∷ fields) = field ++ after_dot fields

joined-dot : (current text : List ℕ) → after_dot (fields_from current text) ≡ 46 ∷ joined (fields_from current text)
joined-dot current [] = refl
joined-dot current (b ∷ text) = by (nat_eq b 46) (joined-dot (current ++ b ∷ []) text)
  where
    by : (t : Bool) → after_dot (fields_from (current ++ b ∷ []) text) ≡ 46 ∷ joined (fields_from (current ++ b ∷ []) text)
        → after_dot (cond t (current ∷ fields_from [] text) (fields_from (current ++ b ∷ []) text)) ≡ 46 ∷ joined (cond t (current ∷ fields_from [] text) (fields_from (current ++ b ∷ []) text))
    by true rest = refl
    by false rest = rest

joined-fields : (current text : List ℕ) → joined (fields_from current text) ≡ current ++ text
joined-fields current [] = refl
joined-fields current (b ∷ text) = by (nat_eq b 46) refl (joined-fields [] text) (joined-fields (current ++ b ∷ []) text)
  where
    by : (t : Bool) → nat_eq b 46 ≡ t → joined (fields_from [] text) ≡ text → joined (fields_from (current ++ b ∷ []) text) ≡ current ++ b ∷ [] ++ text
        → joined (cond t (current ∷ fields_from [] text) (fields_from (current ++ b ∷ []) text)) ≡ current ++ (b ∷ text)
    by true is fresh more =
        ap (λ l. current ++ l) (joined-dot [] text ∙ ap (λ l. 46 ∷ l) fresh ∙ ap (λ d. d ∷ text) (sym (eqb-true b 46 is)))
    by false is fresh more = more ∙ append_assoc current (b ∷ []) text

abbrev IsText : List ℕ → List ℕ → List ℕ → Token → Type 0
IsText a b c token = (a ≡ decimal token.epoch) × (b ≡ decimal token.position) × (c ≡ decimal token.start) × (token.epoch < 2 ^ 64) × (token.position < 2 ^ 64) × (token.start < 2 ^ 64)

fields-exact : (a b c : List ℕ) (token : Token) (epoch position start : Option ℕ) → number_of_text a ≡ epoch → number_of_text b ≡ position → number_of_text c ≡ start
    → token_of epoch position start ≡ Some token → IsText a b c token
fields-exact a b c token None position start is_a is_b is_c found = absurd cc
fields-exact a b c token (Some epoch) None start is_a is_b is_c found = absurd cc
fields-exact a b c token (Some epoch) (Some position) None is_a is_b is_c found = absurd cc
fields-exact a b c token (Some epoch) (Some position) (Some start) is_a is_b is_c found =
    let made : record { epoch = epoch; position = position; start = start } ≡ token = cc in
    let read_a = number-exact a epoch is_a in
    let read_b = number-exact b position is_b in
    let read_c = number-exact c start is_c in
    subst (IsText a b c) made (read_a.0, read_b.0, read_c.0, read_a.1, read_b.1, read_c.1)

-- whether a token has this text after its letter
pub record IsWritten (text : List ℕ) (token : Token) : Type 0 where
  pub spelt : text ≡ decimal token.epoch ++ (46 ∷ (decimal token.position ++ (46 ∷ decimal token.start)))
  pub epoch : token.epoch < 2 ^ 64
  pub position : token.position < 2 ^ 64
  pub start : token.start < 2 ^ 64

fields-written : (fields : List (List ℕ)) (token : Token) → token_of_fields fields ≡ Some token → IsWritten (joined fields) token
fields-written [] token found = absurd cc
fields-written (a ∷ []) token found = absurd cc
fields-written (a ∷ b ∷ []) token found = absurd cc
fields-written (a ∷ b ∷ c ∷ []) token found =
    let is = fields-exact a b c token (number_of_text a) (number_of_text b) (number_of_text c) refl refl refl found in
    record {
      spelt = ap (λ x. x ++ (46 ∷ (b ++ (46 ∷ (c ++ []))))) is.0
          ∙ ap (λ x. decimal token.epoch ++ (46 ∷ (x ++ (46 ∷ (c ++ []))))) is.1
          ∙ ap (λ x. decimal token.epoch ++ (46 ∷ (decimal token.position ++ (46 ∷ x)))) (append-nil c ∙ is.2);
      epoch = is.3;
      position = is.4;
      start = is.5;
    }
fields-written (a ∷ b ∷ c ∷ d ∷ fields) token found = absurd cc

written : (text : List ℕ) (token : Token) → token_of_fields (fields_from [] text) ≡ Some token → IsWritten text token
written text token found = subst (λ t. IsWritten t token) (joined-fields [] text) (fields-written (fields_from [] text) token found)

text-is : (a b c : List ℕ) → codes "t" ++ a ++ codes "." ++ b ++ codes "." ++ c ≡ 116 ∷ (a ++ (46 ∷ (b ++ (46 ∷ c))))
text-is a b c =
    ap (λ l. 116 ∷ l) (append_assoc (a ++ codes "." ++ b) (codes ".") c ∙ append_assoc (a ++ codes ".") b (46 ∷ c) ∙ append_assoc a (codes ".") (b ++ (46 ∷ c)))

pub token-exact : (text : List ℕ) (token : Token) → token_of_text text ≡ Some token
    → (text ≡ token_text token) × (token.epoch < 2 ^ 64) × (token.position < 2 ^ 64) × (token.start < 2 ^ 64)
token-exact [] token found = absurd cc
token-exact (b ∷ text) token found = by (nat_eq b 116) refl found
  where
    by : (t : Bool) → nat_eq b 116 ≡ t → cond t (token_of_fields (fields_from [] text)) None ≡ Some token
        → (b ∷ text ≡ token_text token) × (token.epoch < 2 ^ 64) × (token.position < 2 ^ 64) × (token.start < 2 ^ 64)
    by true is read =
        let made = written text token read in
        (ap (λ x. x ∷ text) (eqb-true b 116 is) ∙ ap (λ l. 116 ∷ l) made.spelt ∙ sym (text-is (decimal token.epoch) (decimal token.position) (decimal token.start)), made.epoch, made.position, made.start)
    by false is read = absurd cc
