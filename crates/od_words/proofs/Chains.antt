-- From what was found to the command.
use Rattle.std.proofs.Common.{◌≡◌, List, Option, Some, None, Result, Err, IfOk, subst, refl, sym, ap, ◌∙◌}
use Rattle.std.specs.Prelude.{option_and_then, IsErrOf}
use Rattle.std.proofs.lemmas.Result.{IfOk-weaker}
use Rattle.clap.specs.Words.{App, Row, Text}
use Rattle.od_words.specs.Found.{found_in}

module _ {B : Type 0} (f : List Row → Option B) (app made : App) (words : List Text) (is : made ≡ app) where
  found_then : (rows : List Row) → found_in made words ≡ Some rows → option_and_then f (found_in app words) ≡ f rows
  found_then rows found = ap (λ (a : App). option_and_then f (found_in a words)) (sym is) ∙ ap (option_and_then f) found

  pub not_found : found_in made words ≡ None → option_and_then f (found_in app words) ≡ None
  not_found found = ap (λ (a : App). option_and_then f (found_in a words)) (sym is) ∙ ap (option_and_then f) found

  pub done : {E : Type 0} (rows : List Row) (r : Result B E) → found_in made words ≡ Some rows → IfOk r (λ b. f rows ≡ Some b)
      → IfOk r (λ b. option_and_then f (found_in app words) ≡ Some b)
  done rows r found gives = IfOk-weaker r _ _ (λ b h. found_then rows found ∙ h) gives

  pub refused : {E : Type 0} (rows : List Row) (r : Result B E) (usage : E) → found_in made words ≡ Some rows → (IsErrOf r usage → f rows ≡ None)
      → IsErrOf r usage → option_and_then f (found_in app words) ≡ None
  refused rows r usage found gives is_usage = found_then rows found ∙ gives is_usage

-- a fault is that of a result of any type
pub same_fault : (A B E : Type 0) (x y : E) → IsErrOf {T = A} (Err x) y → IsErrOf {T = B} (Err x) y
same_fault A B E x y is =
    let same : x ≡ y = cc in
    let P : E → Type 0 = λ z. IsErrOf {T = B} (Err x) z in
    subst P same refl
