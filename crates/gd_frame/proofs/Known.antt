-- While a head is open its spot is known: so a reading of the whole head decides it.
use Rattle.std.proofs.Common.{◌≡◌, ℕ, zero, suc, ◌+◌, ◌-◌, ◌/◌, ◌<◌, ◌≤◌, ◌⊎◌, Bool, true, false, ◌==◌, List, [], ◌∷◌, ◌++◌, length, take, cond, inl, inr, refl, sym, ap, subst, ◌∙◌, arith, append_assoc, append-nil, length-append, All, Option, Some, None, IsUtf8}
use Rattle.std.specs.List.{flat_map}
use Rattle.std.specs.Char.{is_ascii_digit}
use Rattle.std.specs.Int.{is_in_range}
use Rattle.std.proofs.Math.Utf8.{encode, encodes, next, scalar, scalars, scalar_cases}
use Rattle.std.proofs.Math.Seq.{take-append_seam, take-append-add}
use Rattle.std.proofs.lemmas.Bool.{cond_both, cond-true, cond-false, cases_lt, and_parts, true≢false}
use Rattle.std.proofs.lemmas.Bool.Decides.{nat_tests}
use Rattle.std.proofs.lemmas.List.Concat.{flat_map-cons}
use Rattle.std.proofs.lemmas.List.Elements.{All-nil, All-cons, All-head, All-tail}
use Rattle.std.proofs.lemmas.Str.{encode_ascii}
use Rattle.httparse.specs.Grammar.{is_token_byte, is_uri_byte, is_value_byte, AllPass, IsToken, LineEnd, crlf, lf, print_end, print_blank, print_version, Field, IsField, print_field, print_section, RequestHead, IsRequestHead, print_request, ResponseHead, IsResponseHead, print_response, print_reason, reason_phrase}
use Rattle.httparse.proofs.GrammarLemmas.{print_request-append, print_response-append}
use Rattle.gd_frame.specs.declared.message.Kind.{Kind}
use Rattle.gd_frame.specs.declared.message.Kind.TheVariants.{Request, Reply}
use Rattle.gd_frame.specs.declared.spot.Spot.{Spot}
use Rattle.gd_frame.specs.declared.spot.Spot.TheVariants as spot
use Rattle.gd_frame.specs.Messages.{HasOpenHead}
use Rattle.gd_frame.specs.Spots.{line_after, target_after, character_after, spot_after, spot_of, is_request, is_known, EndsAtSpot}
use Rattle.gd_frame.specs.Syntax.{syntax_of, Reads, HasNoHead}
use Rattle.gd_frame.proofs.Characters.{two, three, four}
use Rattle.gd_frame.proofs.Parts.{waits_not}
use Rattle.gd_frame.proofs.Spots.{spots_append, high_uri}
use Rattle.gd_frame.proofs.Targets.{token_differs, blank_none, return_none}

on : (kind : Kind) (at mid next : Spot) (a b : List ℕ) → spot_of kind at a ≡ mid → spot_of kind mid b ≡ next → spot_of kind at (a ++ b) ≡ next
on kind at mid next a b e f = spots_append kind at a b ∙ ap (λ (s : Spot). spot_of kind s b) e ∙ f

-- bytes of one class, behind which the spot is the same
run : (kind : Kind) (at : Spot) (test : ℕ → Bool) → ((b : ℕ) → test b ≡ true → spot_after kind at b ≡ at) → (bytes : List ℕ) → AllPass test bytes → spot_of kind at bytes ≡ at
run kind at test stays [] all = refl
run kind at test stays (b ∷ bytes) all =
    ap (λ (s : Spot). spot_of kind s bytes) (stays b (All-head (λ b. test b ≡ true) b bytes all)) ∙ run kind at test stays bytes (All-tail (λ b. test b ≡ true) b bytes all)

-- ---- a target

within : (low high b : ℕ) → low ≤ b → b ≤ high → is_in_range low high b ≡ true
within low high b least most = grind (arith, nat_tests)

later : (low high : ℕ) (next : Spot) (b : ℕ) → 128 ≤ low → low ≤ b → b ≤ high → character_after low high next b ≡ next
later low high next b big least most =
    cond-true (is_uri_byte b) (cond (is_in_range low high b) next spot.TargetBroken) spot.Unknown (high_uri b (omega (arith, big, least)))
    ∙ cond-true (is_in_range low high b) next spot.TargetBroken (within low high b least most)

first_small : (b : ℕ) → b < 128 → target_after b ≡ spot.Target
first_small b small = grind (arith, nat_tests)

first_two : (b : ℕ) → 194 ≤ b → b ≤ 223 → target_after b ≡ spot.TargetOne
first_two b least most = grind (arith, nat_tests)

first_low : (b : ℕ) → 225 ≤ b → b ≤ 236 → target_after b ≡ spot.TargetTwo
first_low b least most = grind (arith, nat_tests)

first_high : (b : ℕ) → 238 ≤ b → b ≤ 239 → target_after b ≡ spot.TargetTwo
first_high b least most = grind (arith, nat_tests)

first_four : (b : ℕ) → 241 ≤ b → b ≤ 243 → target_after b ≡ spot.TargetThree
first_four b least most = grind (arith, nat_tests)

-- a character begins there
abbrev Starts : Kind → Spot → Type 0
Starts kind at = (b : ℕ) → is_uri_byte b ≡ true → spot_after kind at b ≡ target_after b

start_starts : (kind : Kind) → Starts kind spot.TargetStart
start_starts kind b is = cond-true (is_uri_byte b) (target_after b) spot.Unknown is

target_starts : (kind : Kind) → Starts kind spot.Target
target_starts kind b is = cond-true (is_uri_byte b) (target_after b) (cond (b == 32) spot.Version0 spot.Unknown) is

walk_two : (kind : Kind) (at : Spot) (a b : ℕ) → Starts kind at → 194 ≤ a → a ≤ 223 → 128 ≤ b → b ≤ 191 → spot_of kind at (a ∷ b ∷ []) ≡ spot.Target
walk_two kind at a b starts a_least a_most b_least b_most =
    ap (λ (s : Spot). spot_after kind s b) (starts a (high_uri a (omega arith)) ∙ first_two a a_least a_most) ∙ later 128 191 spot.Target b (omega arith) b_least b_most

walk_three : (kind : Kind) (at first : Spot) (low high a b d : ℕ) → Starts kind at → 128 ≤ a → target_after a ≡ first → spot_after kind first b ≡ character_after low high spot.TargetOne b
    → 128 ≤ low → low ≤ b → b ≤ high → 128 ≤ d → d ≤ 191 → spot_of kind at (a ∷ b ∷ d ∷ []) ≡ spot.Target
walk_three kind at first low high a b d starts big e goes low_big b_least b_most d_least d_most =
    ap (λ (s : Spot). spot_after kind (spot_after kind s b) d) (starts a (high_uri a big) ∙ e)
    ∙ ap (λ (s : Spot). spot_after kind s d) (goes ∙ later low high spot.TargetOne b low_big b_least b_most)
    ∙ later 128 191 spot.Target d (omega arith) d_least d_most

walk_four : (kind : Kind) (at first : Spot) (low high a b d e : ℕ) → Starts kind at → 128 ≤ a → target_after a ≡ first → spot_after kind first b ≡ character_after low high spot.TargetTwo b
    → 128 ≤ low → low ≤ b → b ≤ high → 128 ≤ d → d ≤ 191 → 128 ≤ e → e ≤ 191 → spot_of kind at (a ∷ b ∷ d ∷ e ∷ []) ≡ spot.Target
walk_four kind at first low high a b d e starts big is goes low_big b_least b_most d_least d_most e_least e_most =
    ap (λ (s : Spot). spot_after kind (spot_after kind (spot_after kind s b) d) e) (starts a (high_uri a big) ∙ is)
    ∙ ap (λ (s : Spot). spot_after kind (spot_after kind s d) e) (goes ∙ later low high spot.TargetTwo b low_big b_least b_most)
    ∙ ap (λ (s : Spot). spot_after kind s e) (later 128 191 spot.TargetOne d (omega arith) d_least d_most)
    ∙ later 128 191 spot.Target e (omega arith) e_least e_most

three_walk : (kind : Kind) (at : Spot) (c : ℕ) → Starts kind at → 2048 ≤ c → c < 65536 → (c < 55296) ⊎ ((57344 ≤ c) × (c < 1114112)) → spot_of kind at ((224 + c / 4096) ∷ next (c / 64) ∷ next c ∷ []) ≡ spot.Target
three_walk kind at c starts least most (inl low) = elim (cases_lt c 4096) [
  | inl small ↦
      let a : 224 + c / 4096 ≡ 224 = omega arith in
      walk_three kind at spot.TargetE0 160 191 (224 + c / 4096) (next (c / 64)) (next c) starts (omega arith) (ap target_after a) refl (omega arith) (omega arith) (omega arith) (omega arith) (omega arith)
  | inr big ↦ elim (cases_lt c 53248) [
    | inl below ↦
        walk_three kind at spot.TargetTwo 128 191 (224 + c / 4096) (next (c / 64)) (next c) starts (omega arith) (first_low (224 + c / 4096) (omega arith) (omega arith)) refl (omega arith) (omega arith) (omega arith)
        (omega arith) (omega arith)
    | inr above ↦
        let a : 224 + c / 4096 ≡ 237 = omega arith in
        walk_three kind at spot.TargetEd 128 159 (224 + c / 4096) (next (c / 64)) (next c) starts (omega arith) (ap target_after a) refl (omega arith) (omega arith) (omega arith) (omega arith) (omega arith)
  ]
]
three_walk kind at c starts least most (inr high) =
    walk_three kind at spot.TargetTwo 128 191 (224 + c / 4096) (next (c / 64)) (next c) starts (omega arith) (first_high (224 + c / 4096) (omega (arith, high.0)) (omega arith)) refl (omega arith) (omega arith)
    (omega arith) (omega arith) (omega arith)

four_walk : (kind : Kind) (at : Spot) (c : ℕ) → Starts kind at → 65536 ≤ c → c < 1114112 → spot_of kind at ((240 + c / 262144) ∷ next (c / 4096) ∷ next (c / 64) ∷ next c ∷ []) ≡ spot.Target
four_walk kind at c starts least most = elim (cases_lt c 262144) [
  | inl small ↦
      let a : 240 + c / 262144 ≡ 240 = omega arith in
      walk_four kind at spot.TargetF0 144 191 (240 + c / 262144) (next (c / 4096)) (next (c / 64)) (next c) starts (omega arith) (ap target_after a) refl (omega arith) (omega arith) (omega arith) (omega arith)
      (omega arith) (omega arith) (omega arith)
  | inr big ↦ elim (cases_lt c 1048576) [
    | inl below ↦
        walk_four kind at spot.TargetThree 128 191 (240 + c / 262144) (next (c / 4096)) (next (c / 64)) (next c) starts (omega arith) (first_four (240 + c / 262144) (omega arith) (omega arith)) refl (omega arith)
        (omega arith) (omega arith) (omega arith) (omega arith) (omega arith) (omega arith)
    | inr above ↦
        let a : 240 + c / 262144 ≡ 244 = omega arith in
        walk_four kind at spot.TargetF4 128 143 (240 + c / 262144) (next (c / 4096)) (next (c / 64)) (next c) starts (omega arith) (ap target_after a) refl (omega arith) (omega arith) (omega arith) (omega arith)
        (omega arith) (omega arith) (omega arith)
  ]
]

below_end : (c : ℕ) → (c < 55296) ⊎ ((57344 ≤ c) × (c < 1114112)) → c < 1114112
below_end c (inl low) = omega (arith, low)
below_end c (inr high) = high.1

character_walk : (kind : Kind) (at : Spot) (c : ℕ) → Starts kind at → scalar c ≡ true → AllPass is_uri_byte (encode c) → spot_of kind at (encode c) ≡ spot.Target
character_walk kind at c starts is all =
    let ranges = scalar_cases c is in
    elim (cases_lt c 128) [
      | inl small ↦
          let e = encode_ascii c small in
          let uri : is_uri_byte c ≡ true = All-head (λ b. is_uri_byte b ≡ true) c [] (subst (AllPass is_uri_byte) e all) in
          subst (λ (l : List ℕ). spot_of kind at l ≡ spot.Target) (sym e) (starts c uri ∙ first_small c small)
      | inr b128 ↦ elim (cases_lt c 2048) [
        | inl b2 ↦
            subst (λ (l : List ℕ). spot_of kind at l ≡ spot.Target) (sym (two c b128 b2)) (walk_two kind at (192 + c / 64) (next c) starts (omega arith) (omega arith) (omega arith) (omega arith))
        | inr b2048 ↦ elim (cases_lt c 65536) [
          | inl b3 ↦ subst (λ (l : List ℕ). spot_of kind at l ≡ spot.Target) (sym (three c b2048 b3)) (three_walk kind at c starts b2048 b3 ranges)
          | inr b4 ↦ subst (λ (l : List ℕ). spot_of kind at l ≡ spot.Target) (sym (four c b4)) (four_walk kind at c starts b4 (below_end c ranges))
        ]
      ]
    ]

uri_parts : (a b : List ℕ) → AllPass is_uri_byte (a ++ b) → AllPass is_uri_byte a × AllPass is_uri_byte b
uri_parts [] b all = (All-nil (λ b. is_uri_byte b ≡ true), all)
uri_parts (c ∷ a) b all =
    let r = uri_parts a b (All-tail (λ b. is_uri_byte b ≡ true) c (a ++ b) all) in
    (All-cons (λ b. is_uri_byte b ≡ true) c a (All-head (λ b. is_uri_byte b ≡ true) c (a ++ b) all) r.0, r.1)

text_walk : (kind : Kind) (cs : List ℕ) → scalars cs ≡ true → AllPass is_uri_byte (encodes cs) → spot_of kind spot.Target (encodes cs) ≡ spot.Target
text_walk kind [] is all = refl
text_walk kind (c ∷ cs) is all =
    let s = and_parts (scalar c) (scalars cs) is in
    let parts = uri_parts (encode c) (encodes cs) all in
    on kind spot.Target spot.Target spot.Target (encode c) (encodes cs) (character_walk kind spot.Target c (target_starts kind) s.0 parts.0) (text_walk kind cs s.1 parts.1)

target_by : (kind : Kind) (cs : List ℕ) → scalars cs ≡ true → 0 < length (encodes cs) → AllPass is_uri_byte (encodes cs) → spot_of kind spot.TargetStart (encodes cs) ≡ spot.Target
target_by kind [] is some all = absurd (omega (arith, some))
target_by kind (c ∷ cs) is some all =
    let s = and_parts (scalar c) (scalars cs) is in
    let parts = uri_parts (encode c) (encodes cs) all in
    on kind spot.TargetStart spot.Target spot.Target (encode c) (encodes cs) (character_walk kind spot.TargetStart c (start_starts kind) s.0 parts.0) (text_walk kind cs s.1 parts.1)

target_walk : (kind : Kind) (u : List ℕ) → 0 < length u → AllPass is_uri_byte u → IsUtf8 u → spot_of kind spot.TargetStart u ≡ spot.Target
target_walk kind u some all text =
    let e = text.1.1 in
    subst (λ (l : List ℕ). spot_of kind spot.TargetStart l ≡ spot.Target) e
    (target_by kind text.0 text.1.0 (subst (λ (l : List ℕ). 0 < length l) (sym e) some) (subst (AllPass is_uri_byte) (sym e) all))

-- ---- the other parts

blank_walk : (kind : Kind) (blank : List LineEnd) → spot_of kind spot.Empty (print_blank blank) ≡ spot.Empty
blank_walk kind [] = refl
blank_walk kind (lf ∷ blank) = blank_walk kind blank
blank_walk kind (crlf ∷ blank) = blank_walk kind blank

method_first : (b : ℕ) → is_token_byte b ≡ true → spot_after Request spot.Empty b ≡ spot.Method
method_first b is =
    let first : Spot = cond (is_token_byte b) spot.Method spot.Unknown in
    let other = token_differs b is in
    cond-false (b == 10) spot.Empty (cond (b == 13) spot.EmptyReturn first) other.0 ∙ cond-false (b == 13) spot.EmptyReturn first other.1 ∙ cond-true (is_token_byte b) spot.Method spot.Unknown is

method_walk : (m : List ℕ) → IsToken m → spot_of Request spot.Empty m ≡ spot.Method
method_walk [] token = absurd (omega (arith, token.0))
method_walk (b ∷ m) token =
    ap (λ (s : Spot). spot_of Request s m) (method_first b (All-head (λ b. is_token_byte b ≡ true) b m token.1))
    ∙ run Request spot.Method is_token_byte (λ c is. cond-true (is_token_byte c) spot.Method (cond (c == 32) spot.TargetStart spot.Unknown) is) m (All-tail (λ b. is_token_byte b ≡ true) b m token.1)

method_end : spot_after Request spot.Method 32 ≡ spot.TargetStart
method_end = cond-false (is_token_byte 32) spot.Method spot.TargetStart blank_none

request_version : (minor : ℕ) → minor ≤ 1 → spot_of Request spot.Version0 (print_version minor) ≡ spot.LineEnd
request_version zero few = refl
request_version (suc zero) few = refl
request_version (suc (suc n)) few = absurd (omega (arith, few))

reply_version : (minor : ℕ) → minor ≤ 1 → spot_of Reply spot.Empty (print_version minor) ≡ spot.Status
reply_version zero few = refl
reply_version (suc zero) few = refl
reply_version (suc (suc n)) few = absurd (omega (arith, few))

digits_walk : (digits : List ℕ) → length digits ≡ 3 → AllPass is_ascii_digit digits → spot_of Reply spot.Code0 digits ≡ spot.Code3
digits_walk [] three all = absurd (omega (arith, three))
digits_walk (a ∷ []) three all = absurd (omega (arith, three))
digits_walk (a ∷ b ∷ []) three all = absurd (omega (arith, three))
digits_walk (a ∷ b ∷ c ∷ []) three all =
    let more = All-tail (λ b. is_ascii_digit b ≡ true) a (b ∷ c ∷ []) all in
    let last = All-tail (λ b. is_ascii_digit b ≡ true) b (c ∷ []) more in
    ap (λ (s : Spot). spot_after Reply (spot_after Reply s b) c) (cond-true (is_ascii_digit a) spot.Code1 spot.Unknown (All-head (λ b. is_ascii_digit b ≡ true) a (b ∷ c ∷ []) all))
    ∙ ap (λ (s : Spot). spot_after Reply s c) (cond-true (is_ascii_digit b) spot.Code2 spot.Unknown (All-head (λ b. is_ascii_digit b ≡ true) b (c ∷ []) more))
    ∙ cond-true (is_ascii_digit c) spot.Code3 spot.Unknown (All-head (λ b. is_ascii_digit b ≡ true) c [] last)
digits_walk (a ∷ b ∷ c ∷ d ∷ digits) three all = absurd (omega (arith, three))

line_end : (kind : Kind) (end : LineEnd) → spot_of kind spot.LineEnd (print_end end) ≡ spot.Line
line_end kind crlf = refl
line_end kind lf = refl

code_end : (kind : Kind) (end : LineEnd) → spot_of kind spot.Code3 (print_end end) ≡ spot.Line
code_end kind crlf = refl
code_end kind lf = refl

value_end : (kind : Kind) (end : LineEnd) → spot_of kind spot.Value (print_end end) ≡ spot.Line
value_end kind crlf = refl
value_end kind lf = refl

values : (kind : Kind) (raw : List ℕ) → AllPass is_value_byte raw → spot_of kind spot.Value raw ≡ spot.Value
values kind = run kind spot.Value is_value_byte (λ b is. cond-true (is_value_byte b) spot.Value (line_after b spot.Unknown) is)

colon_none : is_token_byte 58 ≡ false
unfolding is_token_byte
colon_none = refl

colon : (kind : Kind) → spot_after kind spot.Name 58 ≡ spot.Value
colon kind = cond-false (is_token_byte 58) spot.Name spot.Value colon_none

name_walk : (kind : Kind) (name : List ℕ) → IsToken name → spot_of kind spot.Line name ≡ spot.Name
name_walk kind [] token = absurd (omega (arith, token.0))
name_walk kind (b ∷ name) token =
    ap (λ (s : Spot). spot_of kind s name) (cond-true (is_token_byte b) spot.Name (cond (b == 13) spot.EndReturn spot.Unknown) (All-head (λ b. is_token_byte b ≡ true) b name token.1))
    ∙ run kind spot.Name is_token_byte (λ c is. cond-true (is_token_byte c) spot.Name (cond (c == 58) spot.Value spot.Unknown) is) name (All-tail (λ b. is_token_byte b ≡ true) b name token.1)

field_walk : (kind : Kind) (f : Field) → IsField f → spot_of kind spot.Line (print_field f) ≡ spot.Line
field_walk kind f is =
    on kind spot.Line spot.Value spot.Line (f.name ++ 58 ∷ f.raw) (print_end f.end)
    (on kind spot.Line spot.Name spot.Value f.name (58 ∷ f.raw) (name_walk kind f.name is.name) (ap (λ (s : Spot). spot_of kind s f.raw) (colon kind) ∙ values kind f.raw is.raw)) (value_end kind f.end)

fields_walk : (kind : Kind) (fields : List Field) → All IsField fields → spot_of kind spot.Line (flat_map print_field fields) ≡ spot.Line
fields_walk kind [] all = refl
fields_walk kind (f ∷ fields) all =
    ap (spot_of kind spot.Line) (flat_map-cons print_field f fields)
    ∙ on kind spot.Line spot.Line spot.Line (print_field f) (flat_map print_field fields) (field_walk kind f (All-head IsField f fields all)) (fields_walk kind fields (All-tail IsField f fields all))

-- ---- a whole head

-- no head is open there
abbrev is_lost : Spot → Bool
is_lost spot.Unknown = true
is_lost spot.TargetBroken = true
is_lost at = false

-- until the last byte the spot is not lost
abbrev Closes : Kind → Spot → List ℕ → Type 0
Closes kind at t = (front : List ℕ) × (t ≡ front ++ 10 ∷ []) × (is_lost (spot_of kind at front) ≡ false)

over : (kind : Kind) (at mid : Spot) (a t : List ℕ) → spot_of kind at a ≡ mid → Closes kind mid t → Closes kind at (a ++ t)
over kind at mid a t e x = (
  a ++ x.0,
  ap (λ (l : List ℕ). a ++ l) x.1 ∙ sym (append_assoc a x.0 (10 ∷ [])),
  ap is_lost (spots_append kind at a x.0 ∙ ap (λ (s : Spot). spot_of kind s x.0) e) ∙ x.2,
)

over_byte : (kind : Kind) (at mid : Spot) (b : ℕ) (t : List ℕ) → spot_after kind at b ≡ mid → Closes kind mid t → Closes kind at (b ∷ t)
over_byte kind at mid b t e x = over kind at mid (b ∷ []) t e x

end_closes : (kind : Kind) (last : LineEnd) → Closes kind spot.Line (print_end last)
end_closes kind crlf = (13 ∷ [], refl, ap is_lost (cond-false (is_token_byte 13) spot.Name spot.EndReturn return_none))
end_closes kind lf = ([], refl, refl)

section_closes : (kind : Kind) (fields : List Field) (last : LineEnd) → All IsField fields → Closes kind spot.Line (print_section fields last ++ [])
section_closes kind fields last all =
    subst (Closes kind spot.Line) (sym (append-nil (print_section fields last)))
    (over kind spot.Line spot.Line (flat_map print_field fields) (print_end last) (fields_walk kind fields all) (end_closes kind last))

request_closes : (h : RequestHead) → IsRequestHead h → Closes Request spot.Empty (print_request h ++ [])
request_closes h is =
    let section = print_section h.fields h.last ++ [] in
    let line = print_end h.line_end ++ section in
    let version = print_version h.minor ++ line in
    let target = h.target ++ 32 ∷ version in
    subst (Closes Request spot.Empty) (sym (print_request-append h []))
    (over Request spot.Empty spot.Empty (print_blank h.blank) (h.method ++ 32 ∷ target) (blank_walk Request h.blank)
    (over Request spot.Empty spot.Method h.method (32 ∷ target) (method_walk h.method is.method)
    (over_byte Request spot.Method spot.TargetStart 32 target method_end
    (over Request spot.TargetStart spot.Target h.target (32 ∷ version) (target_walk Request h.target is.target.0 is.target.1 is.target_text)
    (over_byte Request spot.Target spot.Version0 32 version refl
    (over Request spot.Version0 spot.LineEnd (print_version h.minor) line (request_version h.minor is.minor)
    (over Request spot.LineEnd spot.Line (print_end h.line_end) section (line_end Request h.line_end) (section_closes Request h.fields h.last is.fields))))))))

reason_closes : (reason : Option (List ℕ)) (end : LineEnd) (t : List ℕ) → AllPass is_value_byte (reason_phrase reason) → Closes Reply spot.Line t → Closes Reply spot.Code3 (print_reason reason ++ (print_end end ++ t))
reason_closes None end t all x = over Reply spot.Code3 spot.Line (print_end end) t (code_end Reply end) x
reason_closes (Some phrase) end t all x =
    over_byte Reply spot.Code3 spot.Value 32 (phrase ++ (print_end end ++ t)) refl
    (over Reply spot.Value spot.Value phrase (print_end end ++ t) (values Reply phrase all) (over Reply spot.Value spot.Line (print_end end) t (value_end Reply end) x))

reply_closes : (h : ResponseHead) → IsResponseHead h → Closes Reply spot.Empty (print_response h ++ [])
reply_closes h is =
    let section = print_section h.fields h.last ++ [] in
    let reason = print_reason h.reason ++ (print_end h.line_end ++ section) in
    let code = h.digits ++ reason in
    subst (Closes Reply spot.Empty) (sym (print_response-append h []))
    (over Reply spot.Empty spot.Empty (print_blank h.blank) (print_version h.minor ++ 32 ∷ code) (blank_walk Reply h.blank)
    (over Reply spot.Empty spot.Status (print_version h.minor) (32 ∷ code) (reply_version h.minor is.minor)
    (over_byte Reply spot.Status spot.Code0 32 code refl
    (over Reply spot.Code0 spot.Code3 h.digits reason (digits_walk h.digits is.digits.0 is.digits.1)
    (reason_closes h.reason h.line_end section is.reason (section_closes Reply h.fields h.last is.fields))))))

head_closes : (kind : Kind) (bytes : List ℕ) (h : (syntax_of kind).Head) → Reads (syntax_of kind) bytes h [] → Closes kind spot.Empty bytes
head_closes Request bytes h reads = subst (Closes Request spot.Empty) (sym reads.1) (request_closes h reads.0)
head_closes Reply bytes h reads = subst (Closes Reply spot.Empty) (sym reads.1) (reply_closes h reads.0)

-- ---- an open head

lost_stays : (kind : Kind) (t : List ℕ) → is_lost (spot_of kind spot.Unknown t) ≡ true
lost_stays kind [] = refl
lost_stays kind (b ∷ t) = lost_stays kind t

broken_stays : (kind : Kind) (t : List ℕ) → is_lost (spot_of kind spot.TargetBroken t) ≡ true
broken_stays kind [] = refl
broken_stays kind (b ∷ t) =
    cond_both (is_uri_byte b) spot.TargetBroken spot.Unknown (λ (s : Spot). is_lost (spot_of kind s t) ≡ true) (λ _. broken_stays kind t) (λ _. lost_stays kind t)

before_end : (kind : Kind) (at : Spot) (bytes more : List ℕ) → EndsAtSpot kind at bytes → ((t : List ℕ) → is_lost (spot_of kind at t) ≡ true) → 0 < length more → Closes kind spot.Empty (bytes ++ more) → ⊥
before_end kind at bytes more ends lost some x =
    let front = x.0 in
    let sizes : length bytes + length more ≡ length front + 1 = sym (length-append bytes more) ∙ ap length x.1 ∙ length-append front (10 ∷ []) in
    let size : length front ≡ length bytes + (length front - length bytes) = omega (arith, sizes, some) in
    let there : front ≡ bytes ++ take (length front - length bytes) more =
    sym (take-append_seam front (10 ∷ [])) ∙ ap (take (length front)) (sym x.1) ∙ ap (λ (n : ℕ). take n (bytes ++ more)) size ∙ take-append-add bytes more (length front - length bytes)
    in
    true≢false
    (sym (lost (take (length front - length bytes) more)) ∙ sym (ap is_lost (ap (spot_of kind spot.Empty) there ∙ spots_append kind spot.Empty bytes (take (length front - length bytes) more) ∙ ap (λ (s : Spot). spot_of kind s (take (length front - length bytes) more)) ends)) ∙ x.2)

some_more : (kind : Kind) (bytes more : List ℕ) (h : (syntax_of kind).Head) → HasNoHead (syntax_of kind) bytes → Reads (syntax_of kind) (bytes ++ more) h [] → 0 < length more
some_more kind bytes [] h none reads = absurd (none h [] (subst (λ (l : List ℕ). Reads (syntax_of kind) l h []) (append-nil bytes) reads))
some_more kind bytes (b ∷ more) h none reads = omega arith

waits_unknown : (kind : Kind) (bytes : List ℕ) → (syntax_of kind).Waits bytes → EndsAtSpot kind spot.Unknown bytes → ⊥
waits_unknown Request bytes waits ends = waits_not bytes ends waits
waits_unknown Reply bytes waits ends = absurd waits

unknown_closed : (kind : Kind) (bytes : List ℕ) → EndsAtSpot kind spot.Unknown bytes → HasOpenHead (syntax_of kind) bytes → ⊥
unknown_closed kind bytes ends o = elim o.may [
  | inl m ↦ before_end kind spot.Unknown bytes m.0 ends (lost_stays kind) (some_more kind bytes m.0 m.1 o.none m.2) (head_closes kind (bytes ++ m.0) m.1 m.2)
  | inr waits ↦ waits_unknown kind bytes waits ends
]

broken_closed : (bytes : List ℕ) → EndsAtSpot Reply spot.TargetBroken bytes → HasOpenHead (syntax_of Reply) bytes → ⊥
broken_closed bytes ends o = elim o.may [
  | inl m ↦ before_end Reply spot.TargetBroken bytes m.0 ends (broken_stays Reply) (some_more Reply bytes m.0 m.1 o.none m.2) (head_closes Reply (bytes ++ m.0) m.1 m.2)
  | inr waits ↦ absurd waits
]

-- the spots that are not known
abbrev Other : Kind → Spot → Type 0
Other kind at = (at ≡ spot.Unknown) ⊎ ((at ≡ spot.TargetBroken) × (kind ≡ Reply))

not_request : (kind : Kind) → is_request kind ≡ false → kind ≡ Reply
not_request Request e = absurd cc
not_request Reply e = refl

other : (kind : Kind) (at : Spot) → is_known kind at ≡ false → Other kind at
other kind spot.Empty e = absurd cc
other kind spot.EmptyReturn e = absurd cc
other kind spot.Method e = absurd cc
other kind spot.TargetStart e = absurd cc
other kind spot.Target e = absurd cc
other kind spot.TargetOne e = absurd cc
other kind spot.TargetTwo e = absurd cc
other kind spot.TargetThree e = absurd cc
other kind spot.TargetE0 e = absurd cc
other kind spot.TargetEd e = absurd cc
other kind spot.TargetF0 e = absurd cc
other kind spot.TargetF4 e = absurd cc
other kind spot.TargetBroken e = inr (refl, not_request kind e)
other kind spot.Version0 e = absurd cc
other kind spot.Version1 e = absurd cc
other kind spot.Version2 e = absurd cc
other kind spot.Version3 e = absurd cc
other kind spot.Version4 e = absurd cc
other kind spot.Version5 e = absurd cc
other kind spot.Version6 e = absurd cc
other kind spot.Version7 e = absurd cc
other kind spot.Status e = absurd cc
other kind spot.Code0 e = absurd cc
other kind spot.Code1 e = absurd cc
other kind spot.Code2 e = absurd cc
other kind spot.Code3 e = absurd cc
other kind spot.LineEnd e = absurd cc
other kind spot.Return e = absurd cc
other kind spot.Line e = absurd cc
other kind spot.Name e = absurd cc
other kind spot.Value e = absurd cc
other kind spot.EndReturn e = absurd cc
other kind spot.Unknown e = inl refl

closed_by : (kind : Kind) (at : Spot) (bytes : List ℕ) → EndsAtSpot kind at bytes → Other kind at → HasOpenHead (syntax_of kind) bytes → ⊥
closed_by kind at bytes ends (inl e) o = unknown_closed kind bytes (ends ∙ e) o
closed_by kind at bytes ends (inr e) o =
    broken_closed bytes (subst (λ (k : Kind). EndsAtSpot k spot.TargetBroken bytes) e.1 (ends ∙ e.0)) (subst (λ (k : Kind). HasOpenHead (syntax_of k) bytes) e.1 o)

-- where the spot is not known no head is open
pub closed_there : (kind : Kind) (at : Spot) (bytes : List ℕ) → EndsAtSpot kind at bytes → is_known kind at ≡ false → HasOpenHead (syntax_of kind) bytes → ⊥
closed_there kind at bytes ends unknown o = closed_by kind at bytes ends (other kind at unknown) o
