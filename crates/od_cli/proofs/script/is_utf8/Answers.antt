use Rattle.std.proofs.Common.{◌≡◌, List, ℕ, Result, Ok, Err, MatchResult, sym, ◌∙◌}
use Rattle.std.specs.Result.{is_ok}
use Rattle.std.specs.Str.{IsUtf8, is_utf8}
use Rattle.std.proofs.lemmas.Bool.{false_from_ne_true}
use Rattle.std.proofs.lemmas.Str.{is_utf8-from_IsUtf8, IsUtf8-from_is_utf8}
use Rattle.od_cli.proofs.script.is_utf8.Goals as goal

as_test : {T E : Type 0} (r : Result T E) (text : List ℕ) (P : T → Type 0) (Q : E → Type 0) → MatchResult r (λ s. P s × IsUtf8 text) (λ e. ¬ (IsUtf8 text) × Q e) → is_ok r ≡ is_utf8 text
as_test (Ok s) text P Q cases = sym (is_utf8-from_IsUtf8 text cases.1)
as_test (Err e) text P Q cases = sym (false_from_ne_true (is_utf8 text) (λ is. cases.0 (IsUtf8-from_is_utf8 text is)))

pub returns : goal.returns
returns c = c.is_ok.ensures.value ∙ as_test c.from_utf8.result c.args.text.now _ _ c.from_utf8.ensures.cases
