-- Where bytes end in a head: what may follow a byte more may follow the byte itself, and while a spot is known the head is open.
use Rattle.std.proofs.Common.{◌≡◌, ℕ, zero, suc, ◌+◌, ◌*◌, ◌<◌, ◌≤◌, ◌⊎◌, Bool, true, ◌==◌, List, [], ◌∷◌, ◌++◌, length, cond, inl, inr, refl, sym, ap, subst, ◌∙◌, arith, append_assoc, append-nil, length-append, lit≤, lit<, All, Some, None, IsUtf8}
use Rattle.std.specs.Prelude.{codes, replicate, nat_le}
use Rattle.std.specs.List.{flat_map}
use Rattle.std.specs.Char.{is_ascii_digit}
use Rattle.std.specs.Int.{is_in_range}
use Rattle.std.proofs.lemmas.Bool.{cond_both}
use Rattle.std.proofs.lemmas.Bool.Decides.{nat_tests}
use Rattle.std.proofs.lemmas.List.{length-replicate}
use Rattle.std.proofs.lemmas.List.Concat.{flat_map-cons}
use Rattle.std.proofs.lemmas.List.Elements.{All-nil, All-cons, All-append}
use Rattle.std.proofs.lemmas.Str.{IsUtf8-nil}
use Rattle.httparse.specs.Grammar.{is_token_byte, is_uri_byte, is_value_byte, AllPass, LineEnd, crlf, lf, print_end, print_blank, print_version, Field, IsField, print_field, print_section, RequestHead, print_request, ResponseHead, print_response}
use Rattle.httparse.proofs.GrammarLemmas.{print_request-append, print_response-append}
use Rattle.gd_frame.specs.declared.message.Kind.{Kind}
use Rattle.gd_frame.specs.declared.message.Kind.TheVariants.{Request, Reply}
use Rattle.gd_frame.specs.declared.spot.Spot.{Spot}
use Rattle.gd_frame.specs.declared.spot.Spot.TheVariants as spot
use Rattle.gd_frame.specs.Messages.{HasNoMessage}
use Rattle.gd_frame.specs.Spots.{line_after, first_after, behind_version, target_after, character_after, spot_after, spot_of, is_request, is_known, EndsAtSpot}
use Rattle.gd_frame.specs.Syntax.{Syntax, syntax_of, Reads, HasNoHead, MayBecomeHead}
use Rattle.gd_frame.proofs.Characters.{one_byte, two_bytes, three_low, three_high, four_bytes}
use Rattle.gd_frame.proofs.Following.{IsSection, IsEnded, IsReturned, IsValued, IsNamed, IsReasoned, IsCoded, IsBehind, IsVersion, IsTargeted, IsContinued, IsLed, IsMethod, IsBegun, Follows}
use Rattle.gd_frame.proofs.Heads.{plain, reads_more}
use Rattle.gd_frame.proofs.Parts.{broken_waits, broken_none}

is_eq : (b k : ℕ) → (b == k) ≡ true → b ≡ k
is_eq b k e = grind (arith, nat_tests)

-- ---- a byte more

abbrev Goes : Kind → Spot → ℕ → List ℕ → Spot → Type 0
Goes kind at b t next = Follows kind next t → Follows kind at (b ∷ t)

on_step : (kind : Kind) (at next other : Spot) (b k : ℕ) (t : List ℕ) → (Follows kind next t → Follows kind at (k ∷ t)) → Goes kind at b t other → Goes kind at b t (cond (b == k) next other)
on_step kind at next other b k t f g =
    cond_both (b == k) next other (Goes kind at b t) (λ e x. subst (λ c. Follows kind at (c ∷ t)) (sym (is_eq b k e)) (f x)) (λ _. g)

class_step : (kind : Kind) (at next other : Spot) (test : Bool) (b : ℕ) (t : List ℕ) → (test ≡ true → Goes kind at b t next) → Goes kind at b t other → Goes kind at b t (cond test next other)
class_step kind at next other test b t f g = cond_both test next other (Goes kind at b t) f (λ _. g)

nowhere : (kind : Kind) (at : Spot) (b : ℕ) (t : List ℕ) → Goes kind at b t spot.Unknown
nowhere kind at b t x = absurd x

line_step : (kind : Kind) (at other : Spot) (b : ℕ) (t : List ℕ) → (IsSection t → Follows kind at (10 ∷ t)) → (IsReturned t → Follows kind at (13 ∷ t)) → Goes kind at b t other → Goes kind at b t (line_after b other)
line_step kind at other b t f g h =
    on_step kind at spot.Line (cond (b == 13) spot.Return other) b 10 t f (on_step kind at spot.Return other b 13 t g h)

ended_line : (t : List ℕ) → IsSection t → IsEnded (10 ∷ t)
ended_line t x = (lf, t, x, refl)

ended_return : (t : List ℕ) → IsReturned t → IsEnded (13 ∷ t)
ended_return t x = (crlf, x.0, x.1, ap (λ (r : List ℕ). 13 ∷ r) x.2)

blank_more : (end : LineEnd) (blank : List LineEnd) (r : List ℕ) → print_end end ++ (print_blank blank ++ r) ≡ print_blank (end ∷ blank) ++ r
blank_more end blank r = sym (append_assoc (print_end end) (print_blank blank) r) ∙ ap (λ (x : List ℕ). x ++ r) (sym (flat_map-cons print_end end blank))

begun_line : (kind : Kind) (t : List ℕ) → IsBegun kind t → IsBegun kind (10 ∷ t)
begun_line kind t x = (lf ∷ x.0, x.1, x.2, ap (λ (r : List ℕ). 10 ∷ r) x.3 ∙ blank_more lf x.0 x.1)

begun_return : (kind : Kind) (t : List ℕ) → (r : List ℕ) × IsBegun kind r × (t ≡ 10 ∷ r) → IsBegun kind (13 ∷ t)
begun_return kind t x =
    let y = x.1 in
    (crlf ∷ y.0, y.1, y.2, ap (λ (r : List ℕ). 13 ∷ r) x.2 ∙ ap (λ (r : List ℕ). 13 ∷ 10 ∷ r) y.3 ∙ blank_more crlf y.0 y.1)

method_more : (kind : Kind) (least b : ℕ) (t : List ℕ) → is_token_byte b ≡ true → IsMethod kind 0 t → least ≤ 1 → IsMethod kind least (b ∷ t)
method_more kind least b t is x few = (b ∷ x.0, x.1, omega arith, All-cons (λ b. is_token_byte b ≡ true) b x.0 is x.3, x.4, ap (λ (r : List ℕ). b ∷ r) x.5)

-- ---- a target's characters

in_range : (low high b : ℕ) → is_in_range low high b ≡ true → (low ≤ b) × (b ≤ high)
in_range low high b is = (grind (arith, nat_tests), grind (arith, nat_tests))

pub high_uri : (b : ℕ) → 128 ≤ b → is_uri_byte b ≡ true
high_uri b least = grind (arith, nat_tests)

uri_none : AllPass is_uri_byte []
uri_none = All-nil (λ b. is_uri_byte b ≡ true)

uri_more : (b : ℕ) (bytes : List ℕ) → is_uri_byte b ≡ true → AllPass is_uri_byte bytes → AllPass is_uri_byte (b ∷ bytes)
uri_more b bytes is all = All-cons (λ b. is_uri_byte b ≡ true) b bytes is all

-- the bytes of a character before more of a target
character : (kind : Kind) (front r : List ℕ) → 1 ≤ length front → AllPass is_uri_byte front → ((text : List ℕ) → IsUtf8 text → IsUtf8 (front ++ text)) → IsTargeted kind 0 r → IsTargeted kind 1 (front ++ r)
character kind front r some all text x = (
  front ++ x.0,
  x.1,
  omega (arith, some, length-append front x.0),
  All-append (λ b. is_uri_byte b ≡ true) front x.0 all x.3,
  text x.0 x.4,
  x.5,
  ap (λ (l : List ℕ). front ++ l) x.6 ∙ sym (append_assoc front x.0 (32 ∷ x.1)),
)

abbrev Leads : Kind → ℕ → List ℕ → Spot → Type 0
Leads kind b t next = Follows kind next t → IsTargeted kind 1 (b ∷ t)

lead_one : (kind : Kind) (b : ℕ) (t : List ℕ) → is_uri_byte b ≡ true → b < 128 → Leads kind b t spot.Target
lead_one kind b t is small x = character kind (b ∷ []) t (lit≤ tt) (uri_more b [] is uri_none) (λ text u. one_byte b text small u) x

lead_two : (kind : Kind) (b : ℕ) (t : List ℕ) → 194 ≤ b → b ≤ 223 → Leads kind b t spot.TargetOne
lead_two kind b t least most x =
    let c = x.0 in
    let all = uri_more b (c ∷ []) (high_uri b (omega arith)) (uri_more c [] (high_uri c x.2) uri_none) in
    subst (λ (l : List ℕ). IsTargeted kind 1 (b ∷ l)) (sym x.5) (character kind (b ∷ c ∷ []) x.1 (lit≤ tt) all (λ text u. two_bytes b c text least most x.2 x.3 u) x.4)

-- with two later bytes
lead_three : (kind : Kind) (b low high : ℕ) (t : List ℕ) → 128 ≤ b → 128 ≤ low
    → ((c d : ℕ) (text : List ℕ) → low ≤ c → c ≤ high → 128 ≤ d → d ≤ 191 → IsUtf8 text → IsUtf8 (b ∷ c ∷ d ∷ text)) → IsLed kind low high 1 t → IsTargeted kind 1 (b ∷ t)
lead_three kind b low high t b_high low_high text x =
    let c = x.0 in
    let y = x.4 in
    let d = y.0 in
    let all = uri_more b (c ∷ d ∷ []) (high_uri b b_high) (uri_more c (d ∷ []) (high_uri c (omega (arith, x.2))) (uri_more d [] (high_uri d y.2) uri_none)) in
    subst (λ (l : List ℕ). IsTargeted kind 1 (b ∷ l)) (sym (x.5 ∙ ap (λ (l : List ℕ). c ∷ l) y.5))
    (character kind (b ∷ c ∷ d ∷ []) y.1 (lit≤ tt) all (λ rest u. text c d rest x.2 x.3 y.2 y.3 u) y.4)

-- with three
lead_four : (kind : Kind) (b low high : ℕ) (t : List ℕ) → 128 ≤ b → 128 ≤ low
    → ((c d e : ℕ) (text : List ℕ) → low ≤ c → c ≤ high → 128 ≤ d → d ≤ 191 → 128 ≤ e → e ≤ 191 → IsUtf8 text → IsUtf8 (b ∷ c ∷ d ∷ e ∷ text)) → IsLed kind low high 2 t → IsTargeted kind 1 (b ∷ t)
lead_four kind b low high t b_high low_high text x =
    let c = x.0 in
    let y = x.4 in
    let d = y.0 in
    let z = y.4 in
    let e = z.0 in
    let all = uri_more b (c ∷ d ∷ e ∷ []) (high_uri b b_high)
    (uri_more c (d ∷ e ∷ []) (high_uri c (omega (arith, x.2))) (uri_more d (e ∷ []) (high_uri d y.2) (uri_more e [] (high_uri e z.2) uri_none)))
    in
    subst (λ (l : List ℕ). IsTargeted kind 1 (b ∷ l)) (sym (x.5 ∙ ap (λ (l : List ℕ). c ∷ l) y.5 ∙ ap (λ (l : List ℕ). c ∷ d ∷ l) z.5))
    (character kind (b ∷ c ∷ d ∷ e ∷ []) z.1 (lit≤ tt) all (λ rest u. text c d e rest x.2 x.3 y.2 y.3 z.2 z.3 u) z.4)

lead_low : (kind : Kind) (b low high : ℕ) (t : List ℕ) → 224 ≤ b → b ≤ 237 → 128 ≤ low → high ≤ 191 → 14496 ≤ b * 64 + low → b * 64 + high < 15328 → IsLed kind low high 1 t → IsTargeted kind 1 (b ∷ t)
lead_low kind b low high t b_least b_most low_high high_low least most =
    lead_three kind b low high t (omega arith) low_high
    (λ c d text c_least c_most d_least d_most u. three_low b c d text b_least b_most (omega arith) (omega arith) d_least d_most (omega arith) (omega arith) u)

lead_high : (kind : Kind) (b : ℕ) (t : List ℕ) → 238 ≤ b → b ≤ 239 → IsLed kind 128 191 1 t → IsTargeted kind 1 (b ∷ t)
lead_high kind b t b_least b_most =
    lead_three kind b 128 191 t (omega arith) (lit≤ tt)
    (λ c d text c_least c_most d_least d_most u. three_high b c d text b_least b_most c_least c_most d_least d_most u)

lead_long : (kind : Kind) (b low high : ℕ) (t : List ℕ) → 240 ≤ b → b ≤ 244 → 128 ≤ low → high ≤ 191 → 15504 ≤ b * 64 + low → b * 64 + high < 15760 → IsLed kind low high 2 t → IsTargeted kind 1 (b ∷ t)
lead_long kind b low high t b_least b_most low_high high_low least most =
    lead_four kind b low high t (omega arith) low_high
    (λ c d e text c_least c_most d_least d_most e_least e_most u. four_bytes b c d e text b_least b_most (omega arith) (omega arith) d_least d_most e_least e_most (omega arith) (omega arith) u)

lead_test : (kind : Kind) (next other : Spot) (test : Bool) (b : ℕ) (t : List ℕ) → (test ≡ true → Leads kind b t next) → Leads kind b t other → Leads kind b t (cond test next other)
lead_test kind next other test b t f g = cond_both test next other (Leads kind b t) f (λ _. g)

small_byte : (b : ℕ) → nat_le b 127 ≡ true → b < 128
small_byte b is = grind (arith, nat_tests)

lead : (kind : Kind) (b : ℕ) (t : List ℕ) → is_uri_byte b ≡ true → Leads kind b t (target_after b)
lead kind b t is =
    let after4 : Spot = cond (b == 244) spot.TargetF4 spot.TargetBroken in
    let after3 : Spot = cond (is_in_range 241 243 b) spot.TargetThree after4 in
    let after0 : Spot = cond (b == 240) spot.TargetF0 after3 in
    let after_high : Spot = cond (is_in_range 238 239 b) spot.TargetTwo after0 in
    let after_ed : Spot = cond (b == 237) spot.TargetEd after_high in
    let after_low : Spot = cond (is_in_range 225 236 b) spot.TargetTwo after_ed in
    let after_e0 : Spot = cond (b == 224) spot.TargetE0 after_low in
    let after_two : Spot = cond (is_in_range 194 223 b) spot.TargetOne after_e0 in
    lead_test kind spot.Target after_two (nat_le b 127) b t (λ e. lead_one kind b t is (small_byte b e))
    (lead_test kind spot.TargetOne after_e0 (is_in_range 194 223 b) b t (λ e. let r = in_range 194 223 b e in lead_two kind b t r.0 r.1)
    (lead_test kind spot.TargetE0 after_low (b == 224) b t (λ e. let r = is_eq b 224 e in lead_low kind b 160 191 t (omega (arith, r)) (omega (arith, r)) (lit≤ tt) (lit≤ tt) (omega (arith, r)) (omega (arith, r)))
    (lead_test kind spot.TargetTwo after_ed (is_in_range 225 236 b) b t (λ e. let r = in_range 225 236 b e in lead_low kind b 128 191 t (omega (arith, r.0)) (omega (arith, r.1)) (lit≤ tt) (lit≤ tt) (omega (arith, r.0)) (omega (arith, r.1)))
    (lead_test kind spot.TargetEd after_high (b == 237) b t (λ e. let r = is_eq b 237 e in lead_low kind b 128 159 t (omega (arith, r)) (omega (arith, r)) (lit≤ tt) (lit≤ tt) (omega (arith, r)) (omega (arith, r)))
    (lead_test kind spot.TargetTwo after0 (is_in_range 238 239 b) b t (λ e. let r = in_range 238 239 b e in lead_high kind b t r.0 r.1)
    (lead_test kind spot.TargetF0 after3 (b == 240) b t (λ e. let r = is_eq b 240 e in lead_long kind b 144 191 t (omega (arith, r)) (omega (arith, r)) (lit≤ tt) (lit≤ tt) (omega (arith, r)) (omega (arith, r)))
    (lead_test kind spot.TargetThree after4 (is_in_range 241 243 b) b t (λ e. let r = in_range 241 243 b e in lead_long kind b 128 191 t (omega (arith, r.0)) (omega (arith, r.1)) (lit≤ tt) (lit≤ tt) (omega (arith, r.0)) (omega (arith, r.1)))
    (lead_test kind spot.TargetF4 spot.TargetBroken (b == 244) b t (λ e. let r = is_eq b 244 e in lead_long kind b 128 143 t (omega (arith, r)) (omega (arith, r)) (lit≤ tt) (lit≤ tt) (omega (arith, r)) (omega (arith, r)))
    (λ x. absurd x)))))))))

lead_any : (kind : Kind) (b : ℕ) (t : List ℕ) → is_uri_byte b ≡ true → Follows kind (target_after b) t → IsTargeted kind 0 (b ∷ t)
lead_any kind b t is x = let y = lead kind b t is x in (y.0, y.1, omega arith, y.3, y.4, y.5, y.6)

-- a later byte of a character
character_step : (kind : Kind) (at next : Spot) (low high n b : ℕ) (t : List ℕ) → (IsLed kind low high n (b ∷ t) → Follows kind at (b ∷ t)) → (Follows kind next t → IsContinued kind n t)
    → Goes kind at b t (character_after low high next b)
character_step kind at next low high n b t f g =
    class_step kind at (cond (is_in_range low high b) next spot.TargetBroken) spot.Unknown (is_uri_byte b) b t
    (λ _. class_step kind at next spot.TargetBroken (is_in_range low high b) b t (λ e x. let r = in_range low high b e in f (b, t, r.0, r.1, g x, refl)) (λ x. absurd x))
    (nowhere kind at b t)

-- ---- the other parts

version_more : (kind : Kind) (c : ℕ) (left t : List ℕ) → IsVersion kind left t → IsVersion kind (c ∷ left) (c ∷ t)
version_more kind c left t x = (x.0, x.1, x.2, x.3, ap (λ (r : List ℕ). c ∷ r) x.4)

code_more : (n b : ℕ) (t : List ℕ) → is_ascii_digit b ≡ true → IsCoded n t → IsCoded (suc n) (b ∷ t)
code_more n b t is x = (b ∷ x.0, x.1, omega (arith, x.2), All-cons (λ b. is_ascii_digit b ≡ true) b x.0 is x.3, x.4, ap (λ (r : List ℕ). b ∷ r) x.5)

code_last : (b : ℕ) (t : List ℕ) → is_ascii_digit b ≡ true → IsReasoned t → IsCoded 1 (b ∷ t)
code_last b t is x = (b ∷ [], t, refl, All-cons (λ b. is_ascii_digit b ≡ true) b [] is (All-nil (λ b. is_ascii_digit b ≡ true)), x, refl)

value_more : (b : ℕ) (t : List ℕ) → is_value_byte b ≡ true → IsValued t → IsValued (b ∷ t)
value_more b t is x = (b ∷ x.0, x.1, All-cons (λ b. is_value_byte b ≡ true) b x.0 is x.2, x.3, ap (λ (r : List ℕ). b ∷ r) x.4)

value_none : (t : List ℕ) → IsEnded t → IsValued t
value_none t x = ([], t, All-nil (λ b. is_value_byte b ≡ true), x, refl)

name_more : (b : ℕ) (t : List ℕ) → is_token_byte b ≡ true → IsNamed t → IsNamed (b ∷ t)
name_more b t is x = (b ∷ x.0, x.1, All-cons (λ b. is_token_byte b ≡ true) b x.0 is x.2, x.3, ap (λ (r : List ℕ). b ∷ r) x.4)

-- a field's text before that of more fields
field_before : (name raw : List ℕ) (end : LineEnd) (fields : List Field) (last : LineEnd)
    → name ++ 58 ∷ (raw ++ (print_end end ++ print_section fields last)) ≡ print_section (record { name = name; raw = raw; end = end } ∷ fields) last
field_before name raw end fields last =
    let f : Field = record { name = name; raw = raw; end = end } in
    sym (append_assoc name (58 ∷ raw) (print_end end ++ print_section fields last))
    ∙ sym (append_assoc (name ++ 58 ∷ raw) (print_end end) (print_section fields last))
    ∙ sym (append_assoc (print_field f) (flat_map print_field fields) (print_end last))
    ∙ ap (λ (x : List ℕ). x ++ print_end last) (sym (flat_map-cons print_field f fields))

section_more : (b : ℕ) (t : List ℕ) → is_token_byte b ≡ true → IsNamed t → IsSection (b ∷ t)
section_more b t is x =
    let v = x.3 in
    let e = v.3 in
    let s = e.2 in
    let f : Field = record { name = b ∷ x.0; raw = v.0; end = e.0 } in
    let name : (0 < length (b ∷ x.0)) × AllPass is_token_byte (b ∷ x.0) = (omega arith, All-cons (λ b. is_token_byte b ≡ true) b x.0 is x.2) in (
      f ∷ s.0,
      s.1,
      All-cons IsField f s.0 (record { name = name; raw = v.2 }) s.2,
      ap (λ (r : List ℕ). b ∷ r) x.4 ∙ ap (λ (r : List ℕ). b ∷ (x.0 ++ 58 ∷ r)) v.4 ∙ ap (λ (r : List ℕ). b ∷ (x.0 ++ 58 ∷ (v.0 ++ r))) e.3
          ∙ ap (λ (r : List ℕ). b ∷ (x.0 ++ 58 ∷ (v.0 ++ (print_end e.0 ++ r)))) s.3 ∙ field_before (b ∷ x.0) v.0 e.0 s.0 s.1,
    )

version_last : (kind : Kind) (minor : ℕ) (t : List ℕ) → minor ≤ 1 → Follows kind (behind_version kind) t → IsVersion kind [] ((48 + minor) ∷ t)
version_last Request minor t few x = (minor, t, few, x, refl)
version_last Reply minor t few x = (minor, t, few, x, refl)

first_step : (kind : Kind) (b : ℕ) (t : List ℕ) → Goes kind spot.Empty b t (first_after kind b)
first_step Request b t =
    class_step Request spot.Empty spot.Method spot.Unknown (is_token_byte b) b t (λ e x. ([], b ∷ t, method_more Request 1 b t e x (lit≤ tt), refl)) (nowhere Request spot.Empty b t)
first_step Reply b t =
    on_step Reply spot.Empty spot.Version1 spot.Unknown b 72 t (λ x. ([], 72 ∷ t, version_more Reply 72 (codes "TTP/1.") t x, refl)) (nowhere Reply spot.Empty b t)

pub steps : (kind : Kind) (at : Spot) (b : ℕ) (t : List ℕ) → Follows kind (spot_after kind at b) t → Follows kind at (b ∷ t)
steps kind spot.Empty b t =
    on_step kind spot.Empty spot.Empty (cond (b == 13) spot.EmptyReturn (first_after kind b)) b 10 t (begun_line kind t)
    (on_step kind spot.Empty spot.EmptyReturn (first_after kind b) b 13 t (begun_return kind t) (first_step kind b t))
steps kind spot.EmptyReturn b t = on_step kind spot.EmptyReturn spot.Empty spot.Unknown b 10 t (λ x. (t, x, refl)) (nowhere kind spot.EmptyReturn b t)
steps kind spot.Method b t =
    class_step kind spot.Method spot.Method (cond (b == 32) spot.TargetStart spot.Unknown) (is_token_byte b) b t (λ e x. method_more kind 0 b t e x (lit≤ tt))
    (on_step kind spot.Method spot.TargetStart spot.Unknown b 32 t (λ x. ([], t, lit≤ tt, All-nil (λ b. is_token_byte b ≡ true), x, refl)) (nowhere kind spot.Method b t))
steps kind spot.TargetStart b t = class_step kind spot.TargetStart (target_after b) spot.Unknown (is_uri_byte b) b t (λ e. lead kind b t e) (nowhere kind spot.TargetStart b t)
steps kind spot.Target b t =
    class_step kind spot.Target (target_after b) (cond (b == 32) spot.Version0 spot.Unknown) (is_uri_byte b) b t (λ e. lead_any kind b t e)
    (on_step kind spot.Target spot.Version0 spot.Unknown b 32 t (λ x. ([], t, lit≤ tt, uri_none, IsUtf8-nil, x, refl)) (nowhere kind spot.Target b t))
steps kind spot.TargetOne b t = character_step kind spot.TargetOne spot.Target 128 191 0 b t (λ x. x) (λ x. x)
steps kind spot.TargetTwo b t = character_step kind spot.TargetTwo spot.TargetOne 128 191 1 b t (λ x. x) (λ x. x)
steps kind spot.TargetThree b t = character_step kind spot.TargetThree spot.TargetTwo 128 191 2 b t (λ x. x) (λ x. x)
steps kind spot.TargetE0 b t = character_step kind spot.TargetE0 spot.TargetOne 160 191 1 b t (λ x. x) (λ x. x)
steps kind spot.TargetEd b t = character_step kind spot.TargetEd spot.TargetOne 128 159 1 b t (λ x. x) (λ x. x)
steps kind spot.TargetF0 b t = character_step kind spot.TargetF0 spot.TargetTwo 144 191 2 b t (λ x. x) (λ x. x)
steps kind spot.TargetF4 b t = character_step kind spot.TargetF4 spot.TargetTwo 128 143 2 b t (λ x. x) (λ x. x)
steps kind spot.TargetBroken b t = class_step kind spot.TargetBroken spot.TargetBroken spot.Unknown (is_uri_byte b) b t (λ e x. absurd x) (nowhere kind spot.TargetBroken b t)
steps kind spot.Version0 b t = on_step kind spot.Version0 spot.Version1 spot.Unknown b 72 t (version_more kind 72 (codes "TTP/1.") t) (nowhere kind spot.Version0 b t)
steps kind spot.Version1 b t = on_step kind spot.Version1 spot.Version2 spot.Unknown b 84 t (version_more kind 84 (codes "TP/1.") t) (nowhere kind spot.Version1 b t)
steps kind spot.Version2 b t = on_step kind spot.Version2 spot.Version3 spot.Unknown b 84 t (version_more kind 84 (codes "P/1.") t) (nowhere kind spot.Version2 b t)
steps kind spot.Version3 b t = on_step kind spot.Version3 spot.Version4 spot.Unknown b 80 t (version_more kind 80 (codes "/1.") t) (nowhere kind spot.Version3 b t)
steps kind spot.Version4 b t = on_step kind spot.Version4 spot.Version5 spot.Unknown b 47 t (version_more kind 47 (codes "1.") t) (nowhere kind spot.Version4 b t)
steps kind spot.Version5 b t = on_step kind spot.Version5 spot.Version6 spot.Unknown b 49 t (version_more kind 49 (codes ".") t) (nowhere kind spot.Version5 b t)
steps kind spot.Version6 b t = on_step kind spot.Version6 spot.Version7 spot.Unknown b 46 t (version_more kind 46 [] t) (nowhere kind spot.Version6 b t)
steps kind spot.Version7 b t =
    on_step kind spot.Version7 (behind_version kind) (cond (b == 49) (behind_version kind) spot.Unknown) b 48 t (version_last kind 0 t (lit≤ tt))
    (on_step kind spot.Version7 (behind_version kind) spot.Unknown b 49 t (version_last kind 1 t (lit≤ tt)) (nowhere kind spot.Version7 b t))
steps kind spot.Status b t = on_step kind spot.Status spot.Code0 spot.Unknown b 32 t (λ x. (t, x, refl)) (nowhere kind spot.Status b t)
steps kind spot.Code0 b t = class_step kind spot.Code0 spot.Code1 spot.Unknown (is_ascii_digit b) b t (λ e x. code_more 2 b t e x) (nowhere kind spot.Code0 b t)
steps kind spot.Code1 b t = class_step kind spot.Code1 spot.Code2 spot.Unknown (is_ascii_digit b) b t (λ e x. code_more 1 b t e x) (nowhere kind spot.Code1 b t)
steps kind spot.Code2 b t = class_step kind spot.Code2 spot.Code3 spot.Unknown (is_ascii_digit b) b t (λ e x. code_last b t e x) (nowhere kind spot.Code2 b t)
steps kind spot.Code3 b t =
    on_step kind spot.Code3 spot.Value (line_after b spot.Unknown) b 32 t (λ x. inr (t, x, refl))
    (line_step kind spot.Code3 spot.Unknown b t (λ x. inl (ended_line t x)) (λ x. inl (ended_return t x)) (nowhere kind spot.Code3 b t))
steps kind spot.LineEnd b t = line_step kind spot.LineEnd spot.Unknown b t (ended_line t) (ended_return t) (nowhere kind spot.LineEnd b t)
steps kind spot.Return b t = on_step kind spot.Return spot.Line spot.Unknown b 10 t (λ x. (t, x, refl)) (nowhere kind spot.Return b t)
steps kind spot.Line b t =
    class_step kind spot.Line spot.Name (cond (b == 13) spot.EndReturn spot.Unknown) (is_token_byte b) b t (λ e x. section_more b t e x)
    (on_step kind spot.Line spot.EndReturn spot.Unknown b 13 t (λ x. ([], crlf, All-nil IsField, ap (λ (r : List ℕ). 13 ∷ r) x)) (nowhere kind spot.Line b t))
steps kind spot.Name b t =
    class_step kind spot.Name spot.Name (cond (b == 58) spot.Value spot.Unknown) (is_token_byte b) b t (λ e x. name_more b t e x)
    (on_step kind spot.Name spot.Value spot.Unknown b 58 t (λ x. ([], t, All-nil (λ b. is_token_byte b ≡ true), x, refl)) (nowhere kind spot.Name b t))
steps kind spot.Value b t =
    class_step kind spot.Value spot.Value (line_after b spot.Unknown) (is_value_byte b) b t (λ e x. value_more b t e x)
    (line_step kind spot.Value spot.Unknown b t (λ x. value_none (10 ∷ t) (ended_line t x)) (λ x. value_none (13 ∷ t) (ended_return t x)) (nowhere kind spot.Value b t))
steps kind spot.EndReturn b t = nowhere kind spot.EndReturn b t
steps kind spot.Unknown b t = nowhere kind spot.Unknown b t

walk : (kind : Kind) (at : Spot) (piece t : List ℕ) → Follows kind (spot_of kind at piece) t → Follows kind at (piece ++ t)
walk kind at [] t x = x
walk kind at (b ∷ piece) t x = steps kind at b (piece ++ t) (walk kind (spot_after kind at b) piece t x)

pub spots_append : (kind : Kind) (at : Spot) (a b : List ℕ) → spot_of kind at (a ++ b) ≡ spot_of kind (spot_of kind at a) b
spots_append kind at [] b = refl
spots_append kind at (c ∷ a) b = spots_append kind (spot_after kind at c) a b

pub goes_on : (kind : Kind) (at : Spot) (held piece : List ℕ) → EndsAtSpot kind at held → EndsAtSpot kind (spot_of kind at piece) (held ++ piece)
goes_on kind at held piece ends = spots_append kind spot.Empty held piece ∙ ap (λ (s : Spot). spot_of kind s piece) ends

pub begins : (kind : Kind) → EndsAtSpot kind spot.Empty []
begins kind = refl

-- ---- at the beginning

request_begun : (t : List ℕ) → IsBegun Request t → (h : RequestHead) × Reads (syntax_of Request) t h []
request_begun t x =
    let m = x.2 in
    let u = m.4 in
    let v = u.5 in
    let e = v.3 in
    let s = e.2 in
    let h : RequestHead = record { blank = x.0; method = m.0; target = u.0; minor = v.0; line_end = e.0; fields = s.0; last = s.1 } in (
      h,
      (
        record {
          method = (m.2, m.3);
          target = (u.2, u.3);
          target_text = u.4;
          minor = v.2;
          fields = s.2;
        },
        x.3 ∙ ap (λ (r : List ℕ). print_blank x.0 ++ r) m.5 ∙ ap (λ (r : List ℕ). print_blank x.0 ++ (m.0 ++ 32 ∷ r)) u.6
            ∙ ap (λ (r : List ℕ). print_blank x.0 ++ (m.0 ++ 32 ∷ (u.0 ++ 32 ∷ r))) v.4
            ∙ ap (λ (r : List ℕ). print_blank x.0 ++ (m.0 ++ 32 ∷ (u.0 ++ 32 ∷ (print_version v.0 ++ r)))) e.3
            ∙ ap (λ (r : List ℕ). print_blank x.0 ++ (m.0 ++ 32 ∷ (u.0 ++ 32 ∷ (print_version v.0 ++ (print_end e.0 ++ r))))) (s.3 ∙ sym (append-nil (print_section s.0 s.1)))
            ∙ sym (print_request-append h []),
      ),
    )

reply_by : (t : List ℕ) (blank : List LineEnd) (minor : ℕ) (digits rest : List ℕ) → minor ≤ 1 → length digits ≡ 3 → AllPass is_ascii_digit digits
    → t ≡ print_blank blank ++ (print_version minor ++ 32 ∷ (digits ++ rest)) → IsReasoned rest → (h : ResponseHead) × Reads (syntax_of Reply) t h []
reply_by t blank minor digits rest few three all front (inl e) =
    let s = e.2 in
    let h : ResponseHead = record { blank = blank; minor = minor; digits = digits; reason = None; line_end = e.0; fields = s.0; last = s.1 } in (
      h,
      (
        record { minor = few; digits = (three, all); reason = All-nil (λ b. is_value_byte b ≡ true); fields = s.2 },
        front ∙ ap (λ (r : List ℕ). print_blank blank ++ (print_version minor ++ 32 ∷ (digits ++ r))) e.3
            ∙ ap (λ (r : List ℕ). print_blank blank ++ (print_version minor ++ 32 ∷ (digits ++ (print_end e.0 ++ r)))) (s.3 ∙ sym (append-nil (print_section s.0 s.1)))
            ∙ sym (print_response-append h []),
      ),
    )
reply_by t blank minor digits rest few three all front (inr x) =
    let v = x.1 in
    let e = v.3 in
    let s = e.2 in
    let h : ResponseHead = record { blank = blank; minor = minor; digits = digits; reason = Some v.0; line_end = e.0; fields = s.0; last = s.1 } in (
      h,
      (
        record { minor = few; digits = (three, all); reason = v.2; fields = s.2 },
        front ∙ ap (λ (r : List ℕ). print_blank blank ++ (print_version minor ++ 32 ∷ (digits ++ r))) x.2
            ∙ ap (λ (r : List ℕ). print_blank blank ++ (print_version minor ++ 32 ∷ (digits ++ (32 ∷ r)))) v.4
            ∙ ap (λ (r : List ℕ). print_blank blank ++ (print_version minor ++ 32 ∷ (digits ++ (32 ∷ (v.0 ++ r))))) e.3
            ∙ ap (λ (r : List ℕ). print_blank blank ++ (print_version minor ++ 32 ∷ (digits ++ (32 ∷ (v.0 ++ (print_end e.0 ++ r)))))) (s.3 ∙ sym (append-nil (print_section s.0 s.1)))
            ∙ sym (print_response-append h []),
      ),
    )

reply_begun : (t : List ℕ) → IsBegun Reply t → (h : ResponseHead) × Reads (syntax_of Reply) t h []
reply_begun t x =
    let v = x.2 in
    let k = v.3 in
    let d = k.1 in
    let front = x.3 ∙ ap (λ (r : List ℕ). print_blank x.0 ++ r) v.4 ∙ ap (λ (r : List ℕ). print_blank x.0 ++ (print_version v.0 ++ r)) k.2
    ∙ ap (λ (r : List ℕ). print_blank x.0 ++ (print_version v.0 ++ 32 ∷ r)) d.5
    in
    reply_by t x.0 v.0 d.0 d.1 v.2 d.2 d.3 front d.4

begun : (kind : Kind) (t : List ℕ) → IsBegun kind t → (h : (syntax_of kind).Head) × Reads (syntax_of kind) t h []
begun Request t x = request_begun t x
begun Reply t x = reply_begun t x

-- whatever may follow there makes a head of the bytes
makes : (kind : Kind) (at : Spot) (bytes t : List ℕ) → EndsAtSpot kind at bytes → Follows kind at t → (h : (syntax_of kind).Head) × Reads (syntax_of kind) (bytes ++ t) h []
makes kind at bytes t ends x = begun kind (bytes ++ t) (walk kind spot.Empty bytes t (subst (λ (s : Spot). Follows kind s t) (sym ends) x))

-- ---- an open head

section_text : IsSection (codes "\r\n")
section_text = ([], crlf, All-nil IsField, refl)

ended_text : IsEnded (codes "\r\n\r\n")
ended_text = (crlf, codes "\r\n", section_text, refl)

digits_pass : (n : ℕ) → AllPass is_ascii_digit (replicate n 48)
digits_pass zero = All-nil (λ b. is_ascii_digit b ≡ true)
digits_pass (suc n) = All-cons (λ b. is_ascii_digit b ≡ true) 48 (replicate n 48) refl (digits_pass n)

coded_text : (n : ℕ) → IsCoded n (replicate n 48 ++ codes "\r\n\r\n")
coded_text n = (replicate n 48, codes "\r\n\r\n", length-replicate n 48, digits_pass n, inl ended_text, refl)

-- bytes that may follow, or what waits for the end of a target
abbrev More : Kind → Spot → Type 0
More kind at = ((t : List ℕ) × Follows kind at t × (0 < length t)) ⊎ ((kind ≡ Request) × (at ≡ spot.TargetBroken))

behind : (kind : Kind) → (r : List ℕ) × IsBehind kind r
behind Request = (codes "\r\n\r\n", ended_text)
behind Reply = (32 ∷ (replicate 3 48 ++ codes "\r\n\r\n"), (replicate 3 48 ++ codes "\r\n\r\n", coded_text 3, refl))

version_text : (kind : Kind) (left : List ℕ) → (t : List ℕ) × IsVersion kind left t × (0 < length t)
version_text kind left =
    let b = behind kind in
    (left ++ 48 ∷ b.0, (0, b.0, lit≤ tt, b.1, refl), omega (arith, length-append left (48 ∷ b.0)))

target_text : (kind : Kind) → (t : List ℕ) × IsTargeted kind 1 t × (0 < length t)
target_text kind =
    let v = version_text kind (codes "HTTP/1.") in
    (codes "/" ++ 32 ∷ v.0, (codes "/", v.0, lit≤ tt, uri_more 47 [] refl uri_none, one_byte 47 [] (lit< tt) IsUtf8-nil, v.1, refl), omega arith)

target_rest : (kind : Kind) → (t : List ℕ) × IsTargeted kind 0 t × (0 < length t)
target_rest kind = let u = target_text kind in (u.0, (u.1.0, u.1.1, omega arith, u.1.3, u.1.4, u.1.5, u.1.6), u.2)

continued_text : (kind : Kind) (n : ℕ) → (t : List ℕ) × IsContinued kind n t
continued_text kind zero = let u = target_rest kind in (u.0, u.1)
continued_text kind (suc n) = let x = continued_text kind n in (128 ∷ x.0, (128, x.0, lit≤ tt, lit≤ tt, x.1, refl))

led_text : (kind : Kind) (low high n : ℕ) → low ≤ high → (t : List ℕ) × IsLed kind low high n t × (0 < length t)
led_text kind low high n some = let x = continued_text kind n in (low ∷ x.0, (low, x.0, omega arith, some, x.1, refl), omega arith)

method_text : (kind : Kind) → (t : List ℕ) × IsMethod kind 0 t × (0 < length t)
method_text kind = let u = target_text kind in (32 ∷ u.0, ([], u.0, lit≤ tt, All-nil (λ b. is_token_byte b ≡ true), u.1, refl), omega arith)

token_byte : is_token_byte 71 ≡ true
unfolding is_token_byte
token_byte = refl

first_text : (kind : Kind) → (t : List ℕ) × IsBegun kind t × (0 < length t)
first_text Request = let m = method_text Request in (71 ∷ m.0, ([], 71 ∷ m.0, method_more Request 1 71 m.0 token_byte m.1 (lit≤ tt), refl), omega arith)
first_text Reply = let v = version_text Reply (codes "HTTP/1.") in (v.0, ([], v.0, v.1, refl), v.2)

is_asked : (kind : Kind) → is_request kind ≡ true → kind ≡ Request
is_asked Request is = refl
is_asked Reply is = absurd cc

more : (kind : Kind) (at : Spot) → is_known kind at ≡ true → More kind at
more kind spot.Empty known = inl (first_text kind)
more kind spot.EmptyReturn known = inl (let f = first_text kind in (10 ∷ f.0, (f.0, f.1, refl), omega arith))
more kind spot.Method known = inl (method_text kind)
more kind spot.TargetStart known = inl (target_text kind)
more kind spot.Target known = inl (target_rest kind)
more kind spot.TargetOne known = inl (led_text kind 128 191 0 (lit≤ tt))
more kind spot.TargetTwo known = inl (led_text kind 128 191 1 (lit≤ tt))
more kind spot.TargetThree known = inl (led_text kind 128 191 2 (lit≤ tt))
more kind spot.TargetE0 known = inl (led_text kind 160 191 1 (lit≤ tt))
more kind spot.TargetEd known = inl (led_text kind 128 159 1 (lit≤ tt))
more kind spot.TargetF0 known = inl (led_text kind 144 191 2 (lit≤ tt))
more kind spot.TargetF4 known = inl (led_text kind 128 143 2 (lit≤ tt))
more kind spot.TargetBroken known = inr (is_asked kind known, refl)
more kind spot.Version0 known = inl (version_text kind (codes "HTTP/1."))
more kind spot.Version1 known = inl (version_text kind (codes "TTP/1."))
more kind spot.Version2 known = inl (version_text kind (codes "TP/1."))
more kind spot.Version3 known = inl (version_text kind (codes "P/1."))
more kind spot.Version4 known = inl (version_text kind (codes "/1."))
more kind spot.Version5 known = inl (version_text kind (codes "1."))
more kind spot.Version6 known = inl (version_text kind (codes "."))
more kind spot.Version7 known = inl (version_text kind [])
more kind spot.Status known = inl (32 ∷ (replicate 3 48 ++ codes "\r\n\r\n"), (replicate 3 48 ++ codes "\r\n\r\n", coded_text 3, refl), lit< tt)
more kind spot.Code0 known = inl (replicate 3 48 ++ codes "\r\n\r\n", coded_text 3, lit< tt)
more kind spot.Code1 known = inl (replicate 2 48 ++ codes "\r\n\r\n", coded_text 2, lit< tt)
more kind spot.Code2 known = inl (replicate 1 48 ++ codes "\r\n\r\n", coded_text 1, lit< tt)
more kind spot.Code3 known = inl (codes "\r\n\r\n", inl ended_text, lit< tt)
more kind spot.LineEnd known = inl (codes "\r\n\r\n", ended_text, lit< tt)
more kind spot.Return known = inl (codes "\n\r\n", (codes "\r\n", section_text, refl), lit< tt)
more kind spot.Line known = inl (codes "\r\n", section_text, lit< tt)
more kind spot.Name known = inl (codes ":\r\n\r\n", ([], codes "\r\n\r\n", All-nil (λ b. is_token_byte b ≡ true), value_none (codes "\r\n\r\n") ended_text, refl), lit< tt)
more kind spot.Value known = inl (codes "\r\n\r\n", value_none (codes "\r\n\r\n") ended_text, lit< tt)
more kind spot.EndReturn known = inl (codes "\n", refl, lit< tt)
more kind spot.Unknown known = absurd cc

open_by : (kind : Kind) (at : Spot) (bytes : List ℕ) → EndsAtSpot kind at bytes → More kind at → HasNoHead (syntax_of kind) bytes × MayBecomeHead (syntax_of kind) bytes
open_by kind at bytes ends (inl m) =
    let x = makes kind at bytes m.0 ends m.1 in (
      λ h rest reads.
          let same = (plain kind).unique (bytes ++ m.0) h x.0 (rest ++ m.0) [] (reads_more (syntax_of kind) bytes h rest m.0 reads) x.1 in
          omega (arith, ap length same.1, length-append rest m.0, m.2),
      inl (m.0, x.0, x.1),
    )
open_by kind at bytes ends (inr m) =
    let e : EndsAtSpot Request spot.TargetBroken bytes = subst (λ (k : Kind). EndsAtSpot k spot.TargetBroken bytes) m.0 (ends ∙ m.1) in
    subst (λ (k : Kind). HasNoHead (syntax_of k) bytes × MayBecomeHead (syntax_of k) bytes) (sym m.0) (broken_none bytes e, inr (broken_waits bytes e))

-- no head is whole there, and more bytes may make one
pub open_there : (kind : Kind) (at : Spot) (bytes : List ℕ) → EndsAtSpot kind at bytes → is_known kind at ≡ true → HasNoHead (syntax_of kind) bytes × MayBecomeHead (syntax_of kind) bytes
open_there kind at bytes ends known = open_by kind at bytes ends (more kind at known)

pub no_message : (s : Syntax) (bytes : List ℕ) → HasNoHead s bytes → HasNoMessage s bytes
no_message s bytes none front rest e x =
    none x.head (x.body ++ rest) (subst (λ b. Reads s b x.head (x.body ++ rest)) (sym e) (reads_more s front x.head x.body rest x.begins.reads))
