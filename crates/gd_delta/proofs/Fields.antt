-- The fields of a text, and the text cut at its first dot.
use Rattle.std.proofs.Common.{◌≡◌, ℕ, List, [], ◌∷◌, ◌++◌, nat_eq, Some, None, refl, sym, ap, ◌∙◌, inl, inr, append_assoc, append-nil}
use Rattle.std.proofs.lemmas.Bool.{cases_Bool}
use Rattle.gd_item.specs.Tokens.{fields_from, token_of_fields}
use Rattle.gd_delta.specs.Cuts.{cut_from, cut}

pub cut_fields : (current text : List ℕ) (parts : List ℕ × List ℕ) → cut_from current text ≡ Some parts → fields_from current text ≡ parts.0 ∷ fields_from [] parts.1
cut_fields current [] parts is = cc
cut_fields current (b ∷ text) parts is = elim (cases_Bool (nat_eq b 46)) [
  | inr no_dot ↦
      let is' : cut_from (current ++ b ∷ []) text ≡ Some parts = rw no_dot at is in
      rw no_dot (cut_fields (current ++ b ∷ []) text parts is')
  | inl dot ↦
      let is' : Some (current, text) ≡ Some parts = rw dot at is in
      let same : (current, text) ≡ parts = cc in
      rw dot (ap (λ (p : List ℕ × List ℕ). p.0 ∷ fields_from [] p.1) same)
]

some_none : {X : Type 0} (x : X) → Some x ≡ None → ⊥
some_none x is = cc

pub uncut_fields : (current text : List ℕ) → cut_from current text ≡ None → fields_from current text ≡ (current ++ text) ∷ []
uncut_fields current [] is = ap (λ (l : List ℕ). l ∷ []) (sym (append-nil current))
uncut_fields current (b ∷ text) is = elim (cases_Bool (nat_eq b 46)) [
  | inr no_dot ↦
      let is' : cut_from (current ++ b ∷ []) text ≡ None = rw no_dot at is in
      rw no_dot (uncut_fields (current ++ b ∷ []) text is' ∙ ap (λ (l : List ℕ). l ∷ []) (append_assoc current (b ∷ []) text))
  | inl dot ↦ absurd (some_none (current, text) (rw dot at is))
]

-- four fields or more are no token
fields_begin : (a b c : List ℕ) (fields : List (List ℕ)) → (fields ≡ [] → ⊥) → token_of_fields (a ∷ b ∷ c ∷ fields) ≡ None
fields_begin a b c [] some = absurd (some refl)
fields_begin a b c (d ∷ fields) some = refl

fields_some : (current text : List ℕ) → fields_from current text ≡ [] → ⊥
fields_some current [] is = cc
fields_some current (b ∷ text) is = elim (cases_Bool (nat_eq b 46)) [
  | inl dot ↦
      let is' : (current ∷ fields_from [] text) ≡ [] = rw dot at is in
      cc
  | inr no_dot ↦
      let is' : fields_from (current ++ b ∷ []) text ≡ [] = rw no_dot at is in
      fields_some (current ++ b ∷ []) text is'
]

-- a text without a dot, with one, with two, and with more
pub no_dot : (text : List ℕ) → cut text ≡ None → token_of_fields (fields_from [] text) ≡ None
no_dot text is = rw (uncut_fields [] text is)

pub one_dot : (text first others : List ℕ) → cut text ≡ Some (first, others) → cut others ≡ None → token_of_fields (fields_from [] text) ≡ None
one_dot text first others is none = rw (cut_fields [] text (first, others) is, uncut_fields [] others none)

pub three_dots : (text first others second third : List ℕ) (rest : List ℕ × List ℕ) → cut text ≡ Some (first, others) → cut others ≡ Some (second, third) → cut third ≡ Some rest
    → token_of_fields (fields_from [] text) ≡ None
three_dots text first others second third rest is is2 is3 =
    rw (cut_fields [] text (first, others) is, cut_fields [] others (second, third) is2, cut_fields [] third rest is3) (fields_begin first second rest.0 (fields_from [] rest.1) (fields_some [] rest.1))

pub two_dots : (text first others second third : List ℕ) → cut text ≡ Some (first, others) → cut others ≡ Some (second, third) → cut third ≡ None
    → fields_from [] text ≡ first ∷ second ∷ third ∷ []
two_dots text first others second third is is2 none =
    rw (cut_fields [] text (first, others) is, cut_fields [] others (second, third) is2, uncut_fields [] third none)
