-- What the parts say: the bytes end inside a target exactly where the last part is one.
use Rattle.std.proofs.Common.{true≢false, ◌≡◌, ℕ, Bool, true, false, ◌==◌, List, [], ◌∷◌, ◌++◌, refl, sym, ap, subst, ◌∙◌, arith, append_assoc, IsTrue, if◌then◌else◌}
use Rattle.std.proofs.lemmas.Bool.Decides.{nat_tests}
use Rattle.std.proofs.lemmas.List.Concat.{flat_map-cons}
use Rattle.std.proofs.lemmas.List.Elements.{All-nil, All-cons, All-head, All-tail}
use Rattle.httparse.specs.Grammar.{LineEnd, crlf, lf, print_end, print_blank, print_version, print_section, IsToken, AllPass, is_token_byte, is_uri_byte, EndsInTarget, HasNoRequest}
use Rattle.httparse.proofs.GrammarLemmas.{print_request-append}
use Rattle.gd_frame.specs.declared.target.Part.{Part}
use Rattle.gd_frame.specs.declared.target.Part.TheVariants.{Blank, Return, Method, Target, Other}
use Rattle.gd_frame.specs.Targets.{part_after, part_of}

other_stays : (bytes : List ℕ) → part_of Other bytes ≡ Target → ⊥
other_stays [] e = absurd cc
other_stays (b ∷ bytes) e = other_stays bytes e

is_eq : (b k : ℕ) → (b == k) ≡ true → b ≡ k
is_eq b k e = grind (arith, nat_tests)

uri_step : (b : ℕ) (bytes : List ℕ) → (part_of Target bytes ≡ Target → AllPass is_uri_byte bytes) → (t : Bool) → is_uri_byte b ≡ t → part_of (if t then Target else Other) bytes ≡ Target → AllPass is_uri_byte (b ∷ bytes)
uri_step b bytes ih true is e = All-cons (λ x. IsTrue (is_uri_byte x)) b bytes is (ih e)
uri_step b bytes ih false is e = absurd (other_stays bytes e)

uri : (bytes : List ℕ) → part_of Target bytes ≡ Target → AllPass is_uri_byte bytes
uri [] e = All-nil (λ x. IsTrue (is_uri_byte x))
uri (b ∷ bytes) e = uri_step b bytes (uri bytes) (is_uri_byte b) refl e

-- a method's bytes, a blank and a target's
abbrev AreParts : List ℕ → Type 0
AreParts bytes = (m : List ℕ) × (t : List ℕ) × AllPass is_token_byte m × AllPass is_uri_byte t × (bytes ≡ m ++ 32 ∷ t)

method_step : (b : ℕ) (bytes : List ℕ) → (part_of Method bytes ≡ Target → AreParts bytes) → (t : Bool) → is_token_byte b ≡ t → (s : Bool) → (b == 32) ≡ s
    → part_of (if t then Method else (if s then Target else Other)) bytes ≡ Target → AreParts (b ∷ bytes)
method_step b bytes ih true is s blank e =
    let r = ih e in
    (b ∷ r.0, r.1, All-cons (λ x. IsTrue (is_token_byte x)) b r.0 is r.2, r.3, ap (λ (x : List ℕ). b ∷ x) r.4)
method_step b bytes ih false is true blank e = ([], bytes, All-nil (λ x. IsTrue (is_token_byte x)), uri bytes e, ap (λ (x : ℕ). x ∷ bytes) (is_eq b 32 blank))
method_step b bytes ih false is false blank e = absurd (other_stays bytes e)

method : (bytes : List ℕ) → part_of Method bytes ≡ Target → AreParts bytes
method [] e = absurd cc
method (b ∷ bytes) e = method_step b bytes (method bytes) (is_token_byte b) refl (b == 32) refl e

first : (b : ℕ) (bytes : List ℕ) → is_token_byte b ≡ true → part_of Method bytes ≡ Target → EndsInTarget (b ∷ bytes)
first b bytes is e =
    let r = method bytes e in
    ([], b ∷ r.0, r.1, (omega arith, All-cons (λ x. IsTrue (is_token_byte x)) b r.0 is r.2), r.3, ap (λ (x : List ℕ). b ∷ x) r.4)

after_end : (end : LineEnd) (bytes : List ℕ) → EndsInTarget bytes → EndsInTarget (print_end end ++ bytes)
after_end end bytes x =
    let rest : List ℕ = 32 ∷ x.2 in (
      end ∷ x.0,
      x.1,
      x.2,
      x.3,
      x.4,
      ap (λ (t : List ℕ). print_end end ++ t) x.5
          ∙ sym (append_assoc (print_end end) (print_blank x.0 ++ x.1) rest)
          ∙ ap (λ (t : List ℕ). t ++ rest) (sym (append_assoc (print_end end) (print_blank x.0) x.1))
          ∙ ap (λ (t : List ℕ). (t ++ x.1) ++ rest) (sym (flat_map-cons print_end end x.0)),
    )

return_step : (b : ℕ) (bytes : List ℕ) → (part_of Blank bytes ≡ Target → EndsInTarget bytes) → (t : Bool) → (b == 10) ≡ t → part_of (if t then Blank else Other) bytes ≡ Target → EndsInTarget (13 ∷ b ∷ bytes)
return_step b bytes ih true is e = rw (is_eq b 10 is) (after_end crlf bytes (ih e))
return_step b bytes ih false is e = absurd (other_stays bytes e)

abbrev Told : List ℕ → Type 0
Told bytes = (part_of Blank bytes ≡ Target → EndsInTarget bytes) × (part_of Return bytes ≡ Target → EndsInTarget (13 ∷ bytes))

blank_step : (b : ℕ) (bytes : List ℕ) → Told bytes → (t : Bool) → (b == 10) ≡ t → (r : Bool) → (b == 13) ≡ r → (m : Bool) → is_token_byte b ≡ m
    → part_of (if t then Blank else (if r then Return else (if m then Method else Other))) bytes ≡ Target → EndsInTarget (b ∷ bytes)
blank_step b bytes ih true is r is_r m is_m e = rw (is_eq b 10 is) (after_end lf bytes (ih.0 e))
blank_step b bytes ih false is true is_r m is_m e = rw (is_eq b 13 is_r) (ih.1 e)
blank_step b bytes ih false is false is_r true is_m e = first b bytes is_m e
blank_step b bytes ih false is false is_r false is_m e = absurd (other_stays bytes e)

told : (bytes : List ℕ) → Told bytes
told [] = (λ e. absurd cc, λ e. absurd cc)
told (b ∷ bytes) =
    let ih = told bytes in
    (λ e. blank_step b bytes ih (b == 10) refl (b == 13) refl (is_token_byte b) refl e, λ e. return_step b bytes ih.0 (b == 10) refl e)

pub ends : (bytes : List ℕ) → part_of Blank bytes ≡ Target → EndsInTarget bytes
ends bytes e = (told bytes).0 e

pub blank_none : is_token_byte 32 ≡ false
unfolding is_token_byte
blank_none = refl

feed_none : is_token_byte 10 ≡ false
unfolding is_token_byte
feed_none = refl

pub return_none : is_token_byte 13 ≡ false
unfolding is_token_byte
return_none = refl

differs : (b k : ℕ) (t : Bool) → (b == k) ≡ t → is_token_byte b ≡ true → is_token_byte k ≡ false → t ≡ false
differs b k true is token other = absurd (true≢false (sym token ∙ ap is_token_byte (is_eq b k is) ∙ other))
differs b k false is token other = refl

pub token_differs : (b : ℕ) → is_token_byte b ≡ true → ((b == 10) ≡ false) × ((b == 13) ≡ false)
token_differs b is = (differs b 10 (b == 10) refl is feed_none, differs b 13 (b == 13) refl is return_none)

uri_back : (t : List ℕ) → AllPass is_uri_byte t → part_of Target t ≡ Target
uri_back [] all = refl
uri_back (b ∷ t) all =
    let h : is_uri_byte b ≡ true = All-head (λ x. IsTrue (is_uri_byte x)) b t all in
    rw h (uri_back t (All-tail (λ x. IsTrue (is_uri_byte x)) b t all))

method_back : (m t : List ℕ) → AllPass is_token_byte m → AllPass is_uri_byte t → part_of Method (m ++ 32 ∷ t) ≡ Target
method_back [] t m_all all = subst (λ (k : Bool). part_of (if k then Method else (if 32 == 32 then Target else Other)) t ≡ Target) (sym blank_none) (uri_back t all)
method_back (b ∷ m) t m_all all =
    let h : is_token_byte b ≡ true = All-head (λ x. IsTrue (is_token_byte x)) b m m_all in
    subst (λ (k : Bool). part_of (if k then Method else (if b == 32 then Target else Other)) (m ++ 32 ∷ t) ≡ Target) (sym h)
    (method_back m t (All-tail (λ x. IsTrue (is_token_byte x)) b m m_all) all)

first_back : (m t : List ℕ) → IsToken m → AllPass is_uri_byte t → part_of Blank (m ++ 32 ∷ t) ≡ Target
first_back [] t token all = absurd (omega (arith, token.0))
first_back (b ∷ m) t token all =
    let h : is_token_byte b ≡ true = All-head (λ x. IsTrue (is_token_byte x)) b m token.1 in
    let feed : (b == 10) ≡ false = differs b 10 (b == 10) refl h feed_none in
    let back : (b == 13) ≡ false = differs b 13 (b == 13) refl h return_none in
    let rest : List ℕ = m ++ 32 ∷ t in
    subst (λ (k : Bool). part_of (if k then Blank else (if b == 13 then Return else (if is_token_byte b then Method else Other))) rest ≡ Target) (sym feed)
    (subst (λ (k : Bool). part_of (if k then Return else (if is_token_byte b then Method else Other)) rest ≡ Target) (sym back)
    (subst (λ (k : Bool). part_of (if k then Method else Other) rest ≡ Target) (sym h) (method_back m t (All-tail (λ x. IsTrue (is_token_byte x)) b m token.1) all)))

blank_back : (blank : List LineEnd) (m t : List ℕ) → IsToken m → AllPass is_uri_byte t → part_of Blank ((print_blank blank ++ m) ++ 32 ∷ t) ≡ Target
blank_back [] m t token all = first_back m t token all
blank_back (lf ∷ blank) m t token all = blank_back blank m t token all
blank_back (crlf ∷ blank) m t token all = blank_back blank m t token all

pub ended : (bytes : List ℕ) → EndsInTarget bytes → part_of Blank bytes ≡ Target
ended bytes x = ap (part_of Blank) x.5 ∙ blank_back x.0 x.1 x.2 x.3 x.4

pub elsewhere : (bytes : List ℕ) (at : Part) → at ≡ part_of Blank bytes → (at ≡ Target → ⊥) → EndsInTarget bytes → ⊥
elsewhere bytes at is other x = other (is ∙ ended bytes x)

parts_append : (at : Part) (a b : List ℕ) → part_of at (a ++ b) ≡ part_of (part_of at a) b
parts_append at [] b = refl
parts_append at (c ∷ a) b = parts_append (part_after at c) a b

-- behind a head's target the bytes end inside none
past_target : (blank : List LineEnd) (m u tail : List ℕ) → IsToken m → AllPass is_uri_byte u → part_of Blank (print_blank blank ++ (m ++ 32 ∷ (u ++ 32 ∷ tail))) ≡ Target → ⊥
past_target blank m u tail token all e =
    let front : List ℕ = (print_blank blank ++ m) ++ 32 ∷ u in
    let whole : front ++ 32 ∷ tail ≡ print_blank blank ++ (m ++ 32 ∷ (u ++ 32 ∷ tail)) =
    append_assoc (print_blank blank ++ m) (32 ∷ u) (32 ∷ tail) ∙ append_assoc (print_blank blank) m (32 ∷ (u ++ 32 ∷ tail))
    in
    let there : part_of Blank (front ++ 32 ∷ tail) ≡ part_of Target (32 ∷ tail) =
    parts_append Blank front (32 ∷ tail) ∙ ap (λ (at : Part). part_of at (32 ∷ tail)) (blank_back blank m u token all)
    in
    other_stays tail (sym there ∙ ap (part_of Blank) whole ∙ e)

pub no_head : (bytes : List ℕ) → part_of Blank bytes ≡ Target → HasNoRequest bytes
no_head bytes e h rest reads =
    past_target h.blank h.method h.target (print_version h.minor ++ (print_end h.line_end ++ (print_section h.fields h.last ++ rest))) reads.0.method reads.0.target.1
    (sym (ap (part_of Blank) (reads.1 ∙ print_request-append h rest)) ∙ e)
