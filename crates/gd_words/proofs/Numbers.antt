-- The number that is read of the matches.
use Rattle.std.proofs.Common.{◌≡◌, ◌^◌, ℕ, Bool, true, false, List, [], ◌∷◌, length, Option, Some, None, Result, Ok, Err, refl, sym, ap, ◌∙◌, nat_lt, lt-ltb, ltb-true}
use Rattle.std.specs.Prelude.{option_and_then}
use Rattle.std.specs.Char.{digit_value}
use Rattle.std.specs.List.{list_all}
use Rattle.std.specs.Str.Parse.{AllDigits, ParsesUnsigned, digits_value, without_leading_plus}
use Rattle.std.proofs.lemmas.Bool.{and_parts}
use Rattle.clap.specs.Matches.{ReadsOne, one_text}
use Rattle.clap.specs.Words.{Text, rows_of}
use Rattle.clap.specs.declared.parser.matches.Found.{Found}
use Rattle.clap.proofs.WalkLemmas.{one_text-rows}
use Rattle.gd_words.specs.Found.{is_number, number_in, number_of}

digits_pass : (ds : List ℕ) → AllDigits 10 ds → list_all (λ d. nat_lt (digit_value d) 10) ds ≡ true
digits_pass [] h = refl
digits_pass (d ∷ ds) h = rw (lt-ltb (digit_value d) 10 h.0) (digits_pass ds h.1)

digits_from : (ds : List ℕ) → list_all (λ d. nat_lt (digit_value d) 10) ds ≡ true → AllDigits 10 ds
digits_from [] e = tt
digits_from (d ∷ ds) e =
    let parts = and_parts _ _ e in
    (ltb-true _ _ parts.0, digits_from ds parts.1)

parsed : (E : Type 0) (width : ℕ) (text : Text) (n : ℕ) → ParsesUnsigned {E = E} width 10 text (Ok n) → Some n ≡ number_of width text
parsed E width text n h =
    let ds = without_leading_plus text in
    rw (lt-ltb 0 (length ds) h.0.0.0, digits_pass ds h.0.0.1, lt-ltb (digits_value 10 ds) (2 ^ width) h.0.1) (ap (λ (x : ℕ). Some x) h.1)

not_parsed : {E : Type 0} (width : ℕ) (text : Text) (e : E) → ParsesUnsigned width 10 text (Err e) → None ≡ number_of width text
not_parsed width text e h = go (is_number width (without_leading_plus text)) refl
  where
    go : (b : Bool) → is_number width (without_leading_plus text) ≡ b → None ≡ number_of width text
    go false t = rw t refl
    go true t =
        let outer = and_parts _ _ t in
        let inner = and_parts _ _ outer.0 in
        absurd (h ((ltb-true _ _ inner.0, digits_from (without_leading_plus text) inner.1), ltb-true _ _ outer.1))

module _ {E : Type 0} (width : ℕ) (G : List ℕ → Result ℕ E → Type 0) (parses : (text : Text) (r : Result ℕ E) → G text r → ParsesUnsigned width 10 text r) where
  reads : (text : Text) (result : Option ℕ) → ReadsOne G text result → result ≡ number_of width text
  reads text (Some n) given = parsed E width text n (parses text (Ok n) given)
  reads text None given = not_parsed width text given.0 (parses text (Err given.0) given.1)

  pub read_number : (f : Found) (id : Text) (result : Option ℕ) → (one_text f id ≡ None → result ≡ None)
      → ((text : Text) → one_text f id ≡ Some text → ReadsOne G text result) → result ≡ number_in width id (rows_of f)
  read_number f id result none value = go (one_text f id) refl
    where
      there : (o : Option Text) → one_text f id ≡ o → option_and_then (number_of width) o ≡ number_in width id (rows_of f)
      there o is = ap (option_and_then (number_of width)) (sym is ∙ one_text-rows f id)

      go : (o : Option Text) → one_text f id ≡ o → result ≡ number_in width id (rows_of f)
      go None is = none is ∙ there None is
      go (Some text) is = reads text result (value text is) ∙ there (Some text) is
