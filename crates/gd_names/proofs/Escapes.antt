-- The escapes of this crate against those of `percent_encoding`, and what a text of escapes decodes to.
use Rattle.std.proofs.Common.{◌≡◌, ℕ, ◌+◌, ◌-◌, ◌*◌, ◌/◌, ◌%◌, ◌<◌, ◌≤◌, true, false, not, ◌&&◌, List, [], ◌∷◌, length, get_or, take, drop, nat_eq, Option, Some, None, is_some, All, sym, refl, ap, ◌∙◌, subst, ⊎_elim, arith, length-drop}
use Rattle.std.specs.Char.{digit_value, is_digit}
use Rattle.std.specs.Fmt.{digit_glyph}
use Rattle.std.proofs.lemmas.Bool.{agree_below, agree_below_at, cases_Bool, both_ways, ltb-true, cond-true, cond-false, eqb-true, eqb-false, eq-eqb, and_from, and_parts, not_from_true}
use Rattle.std.proofs.lemmas.List.{take_rest, get_or-drop, drop-drop}
use Rattle.std.proofs.lemmas.List.Elements.{All-head, All-tail}
use Rattle.percent_encoding.specs.AsciiSet.{should_percent_encode}
use Rattle.percent_encoding.specs.Percent.{percent_encode, percent_encode_byte, percent_decode}
use Rattle.percent_encoding.proofs.PercentLemmas.{percent_encode-nil, percent_encode_escaped, percent_encode_kept, percent_decode-nil, percent_decode_escape, percent_decode_not_percent}
use Rattle.gd_names.specs.declared.escape.TheConstants.{RESERVED}
use Rattle.gd_names.specs.Escapes.{is_unreserved, escaped_byte, escaped, before_rest, decoded}

-- ---- writing escapes

same_bytes : agree_below (should_percent_encode RESERVED) (λ b. not (is_unreserved b)) 256 ≡ true
unfolding should_percent_encode
same_bytes = refl

pub escaped_itself : (b : ℕ) → is_unreserved b ≡ true → escaped_byte b ≡ b ∷ []
escaped_itself b plain = cond-true (is_unreserved b) _ _ plain

pub escaped_code : (b : ℕ) → is_unreserved b ≡ false → escaped_byte b ≡ 37 ∷ digit_glyph true (b / 16 % 16) ∷ digit_glyph true (b % 16) ∷ []
escaped_code b other = cond-false (is_unreserved b) _ _ other

pub escaped_is : (name : List ℕ) → All (λ b. b < 256) name → percent_encode RESERVED name ≡ escaped name
unfolding percent_encode_byte
escaped_is [] small = percent_encode-nil RESERVED
escaped_is (b ∷ name) small =
    let same : should_percent_encode RESERVED b ≡ not (is_unreserved b) = agree_below_at (should_percent_encode RESERVED) (λ b. not (is_unreserved b)) 256 b same_bytes (All-head (λ b. b < 256) b name small) in
    let rest = escaped_is name (All-tail (λ b. b < 256) b name small) in
    ⊎_elim
    (λ e. percent_encode_kept RESERVED b name (same ∙ not_from_true (is_unreserved b) e) ∙ rw (escaped_itself b e, rest) refl)
    (λ e. percent_encode_escaped RESERVED b name (same ∙ ap not e) ∙ rw (escaped_code b e, rest) refl)
    (cases_Bool (is_unreserved b))

-- ---- reading escapes

some_before : (b : ℕ) (rest : Option (List ℕ)) → is_some (before_rest b rest) ≡ is_some rest
some_before b None = refl
some_before b (Some rest) = refl

-- a byte that is no `%` stands for itself
pub decoded_plain : (b : ℕ) (rest : List ℕ) → nat_eq b 37 ≡ false → decoded (b ∷ rest) ≡ before_rest b (decoded rest)
decoded_plain b [] plain = cond-false (nat_eq b 37) None (Some (b ∷ [])) plain
decoded_plain b (c ∷ []) plain = cond-false (nat_eq b 37) None (before_rest b (decoded (c ∷ []))) plain
decoded_plain b (high ∷ low ∷ rest) plain = cond-false (nat_eq b 37) _ (before_rest b (decoded (high ∷ low ∷ rest))) plain

-- an escape stands for one byte
pub decoded_escape : (b high low : ℕ) (rest : List ℕ) → nat_eq b 37 ≡ true → is_digit high 16 ≡ true → is_digit low 16 ≡ true → decoded (b ∷ high ∷ low ∷ rest) ≡ before_rest (16 * digit_value high + digit_value low) (decoded rest)
decoded_escape b high low rest percent is_high is_low =
    cond-true (nat_eq b 37) _ _ percent ∙ cond-true (is_digit high 16 && is_digit low 16) _ _ (and_from _ _ is_high is_low)

-- a `%` with no two digits after it stands for nothing
decoded_broken : (b high low : ℕ) (rest : List ℕ) → nat_eq b 37 ≡ true → (is_digit high 16 && is_digit low 16) ≡ false → decoded (b ∷ high ∷ low ∷ rest) ≡ None
decoded_broken b high low rest percent broken =
    cond-true (nat_eq b 37) _ _ percent ∙ cond-false (is_digit high 16 && is_digit low 16) _ _ broken

-- the place after an escape, in a text that is read from its front
pub decoded_after_escape : (text : List ℕ) → 3 ≤ length text → get_or text 0 0 ≡ 37 → is_digit (get_or text 1 0) 16 ≡ true → is_digit (get_or text 2 0) 16 ≡ true → is_some (decoded (drop 3 text)) ≡ is_some (decoded text)
decoded_after_escape [] long percent is_high is_low = absurd (omega arith)
decoded_after_escape (b ∷ []) long percent is_high is_low = absurd (omega arith)
decoded_after_escape (b ∷ c ∷ []) long percent is_high is_low = absurd (omega arith)
decoded_after_escape (b ∷ high ∷ low ∷ rest) long percent is_high is_low =
    sym (ap (λ o. is_some o) (decoded_escape b high low rest (eq-eqb b 37 percent) is_high is_low) ∙ some_before (16 * digit_value high + digit_value low) (decoded rest))

-- the same where the rest is cut twice
pub decoded_after_cuts : (text : List ℕ) → 1 ≤ length text → get_or text 0 0 ≡ 37 → 2 ≤ length (take (length text - 1) (drop 1 text))
    → true ≡ is_digit (get_or (take (length text - 1) (drop 1 text)) 0 0) 16 → true ≡ is_digit (get_or (take (length text - 1) (drop 1 text)) 1 0) 16
    → is_some (decoded (take (length (take (length text - 1) (drop 1 text)) - 2) (drop 2 (take (length text - 1) (drop 1 text))))) ≡ is_some (decoded text)
decoded_after_cuts text nonempty percent long is_high is_low =
    let whole : take (length text - 1) (drop 1 text) ≡ drop 1 text = take_rest text 1 in
    let long : 2 ≤ length (drop 1 text) = subst (λ (xs : List ℕ). 2 ≤ length xs) whole long in
    let is_high : true ≡ is_digit (get_or text 1 0) 16 = is_high ∙ ap (λ (xs : List ℕ). is_digit (get_or xs 0 0) 16) whole ∙ ap (λ x. is_digit x 16) (get_or-drop 1 text 0 0) in
    let is_low : true ≡ is_digit (get_or text 2 0) 16 = is_low ∙ ap (λ (xs : List ℕ). is_digit (get_or xs 1 0) 16) whole ∙ ap (λ x. is_digit x 16) (get_or-drop 1 text 1 0) in
    let cut : take (length (take (length text - 1) (drop 1 text)) - 2) (drop 2 (take (length text - 1) (drop 1 text))) ≡ drop 3 text =
    take_rest (take (length text - 1) (drop 1 text)) 2 ∙ ap (drop 2) whole ∙ drop-drop 2 1 text
    in
    ap (λ xs. is_some (decoded xs)) cut ∙ decoded_after_escape text (omega (arith, length-drop 1 text)) percent (sym is_high) (sym is_low)

plain_step : (b : ℕ) (rest : List ℕ) → nat_eq b 37 ≡ false → (is_some (decoded rest) ≡ true → decoded rest ≡ Some (percent_decode rest))
    → is_some (decoded (b ∷ rest)) ≡ true → decoded (b ∷ rest) ≡ Some (percent_decode (b ∷ rest))
plain_step b rest plain below whole =
    let step = decoded_plain b rest plain in
    let inner : is_some (decoded rest) ≡ true = sym (some_before b (decoded rest)) ∙ sym (ap (λ o. is_some o) step) ∙ whole in
    step ∙ ap (before_rest b) (below inner) ∙ ap Some (sym (percent_decode_not_percent b rest (eqb-false b 37 plain)))

escape_step : (b high low : ℕ) (rest : List ℕ) → nat_eq b 37 ≡ true → (is_digit high 16 && is_digit low 16) ≡ true → (is_some (decoded rest) ≡ true → decoded rest ≡ Some (percent_decode rest))
    → is_some (decoded (b ∷ high ∷ low ∷ rest)) ≡ true → decoded (b ∷ high ∷ low ∷ rest) ≡ Some (percent_decode (b ∷ high ∷ low ∷ rest))
escape_step b high low rest percent digits below whole =
    let both = and_parts (is_digit high 16) (is_digit low 16) digits in
    let step = decoded_escape b high low rest percent both.0 both.1 in
    let inner : is_some (decoded rest) ≡ true = sym (some_before (16 * digit_value high + digit_value low) (decoded rest)) ∙ sym (ap (λ o. is_some o) step) ∙ whole in
    step ∙ ap (before_rest (16 * digit_value high + digit_value low)) (below inner)
    ∙ ap Some (sym (percent_decode_escape b high low rest (eqb-true b 37 percent) (ltb-true (digit_value high) 16 both.0) (ltb-true (digit_value low) 16 both.1)))

none_left : (text : List ℕ) (P : Type 0) → decoded text ≡ None → is_some (decoded text) ≡ true → P
none_left text P nothing whole = absurd (both_ways (is_some (decoded text)) (ap (λ o. is_some o) nothing) whole)

-- what whole escapes decode to
pub decoded_is : (text : List ℕ) → is_some (decoded text) ≡ true → decoded text ≡ Some (percent_decode text)
decoded_is [] whole = ap Some (sym percent_decode-nil)
decoded_is (b ∷ []) whole =
    ⊎_elim
    (λ e. none_left (b ∷ []) _ (cond-true (nat_eq b 37) None (Some (b ∷ [])) e) whole)
    (λ e. plain_step b [] e (decoded_is []) whole)
    (cases_Bool (nat_eq b 37))
decoded_is (b ∷ c ∷ []) whole =
    ⊎_elim
    (λ e. none_left (b ∷ c ∷ []) _ (cond-true (nat_eq b 37) None (before_rest b (decoded (c ∷ []))) e) whole)
    (λ e. plain_step b (c ∷ []) e (decoded_is (c ∷ [])) whole)
    (cases_Bool (nat_eq b 37))
decoded_is (b ∷ high ∷ low ∷ rest) whole =
    ⊎_elim
    (λ percent.
    ⊎_elim
    (λ digits. escape_step b high low rest percent digits (decoded_is rest) whole)
    (λ broken. none_left (b ∷ high ∷ low ∷ rest) _ (decoded_broken b high low rest percent broken) whole)
    (cases_Bool (is_digit high 16 && is_digit low 16)))
    (λ e. plain_step b (high ∷ low ∷ rest) e (decoded_is (high ∷ low ∷ rest)) whole)
    (cases_Bool (nat_eq b 37))
