-- A token has a written form.
use Rattle.std.proofs.Common.{rules, ◌≡◌, ℕ, ◌^◌, ◌<◌, Bool, true, false, ◌||◌, nat_eq, List, [], ◌∷◌, ◌++◌, length, codes, decimal, Option, Some, None, refl, sym, subst, arith}
use Rattle.std.specs.Char.{is_ascii_digit}
use Rattle.std.specs.List.{AllByRecursion}
use Rattle.std.specs.Str.{all_ascii_digits}
use Rattle.std.proofs.lemmas.Bool.{and_parts}
use Rattle.std.proofs.lemmas.Fmt.{digits_decimal}
use Rattle.std.proofs.lemmas.List.Elements.{All-from_recursion}
use Rattle.std.proofs.lemmas.Str.Parse.{IsNumeralModel, numerals_by_fold, tells_all_ascii_digits}
use Rattle.gd_names.specs.Escapes.{is_between}
use Rattle.gd_item.specs.Tokens.{digits_value, token_text}
use Rattle.gd_item.specs.Written.{IsWritten, IsWrittenToken, is_token_byte}
use Rattle.gd_item.specs.declared.request.Request.TheVariants.{Delta}
use Rattle.gd_item.specs.declared.token.Token.{Token}
use Rattle.gd_item.proofs.ReadTokens.{token-exact}
use Rattle.od_run.specs.Good.{IsToken}

third-true : (x y z w : Bool) → z ≡ true → (x || y || z || w) ≡ true
third-true true y z w is = refl
third-true false true z w is = refl
third-true false false true w is = refl
third-true false false false w is = absurd (cc is)

digit-byte : (b : ℕ) → is_ascii_digit b ≡ true → is_token_byte b ≡ true
digit-byte b is = third-true (is_between 65 90 b) (is_between 97 122 b) (is_between 48 57 b) (nat_eq b 46) is

abbrev AreTokenBytes : List ℕ → Type 0
AreTokenBytes text = AllByRecursion (λ b. is_token_byte b ≡ true) text

digits-written : (digits : List ℕ) → all_ascii_digits digits ≡ true → AreTokenBytes digits
digits-written [] are = tt
digits-written (d ∷ digits) are = let parts = and_parts (is_ascii_digit d) (all_ascii_digits digits) are in (digit-byte d parts.0, digits-written digits parts.1)

both-written : (xs ys : List ℕ) → AreTokenBytes xs → AreTokenBytes ys → AreTokenBytes (xs ++ ys)
both-written [] ys first second = second
both-written (x ∷ xs) ys first second = (first.0, both-written xs ys first.1 second)

own : IsNumeralModel (λ ds. all_ascii_digits ds ≡ true) (digits_value 0)
own = numerals_by_fold (λ ds. all_ascii_digits ds ≡ true) tells_all_ascii_digits digits_value (search rules)

number-written : (n : ℕ) → n < 2 ^ 64 → AreTokenBytes (decimal n)
number-written n fits = digits-written (decimal n) (digits_decimal own n fits)

text-written : (token : Token) → token.epoch < 2 ^ 64 → token.position < 2 ^ 64 → token.start < 2 ^ 64 → AreTokenBytes (token_text token)
text-written token epoch position start =
    both-written (codes "t" ++ decimal token.epoch ++ codes "." ++ decimal token.position ++ codes ".") (decimal token.start)
    (both-written (codes "t" ++ decimal token.epoch ++ codes "." ++ decimal token.position) (codes ".")
    (both-written (codes "t" ++ decimal token.epoch ++ codes ".") (decimal token.position)
    (both-written (codes "t" ++ decimal token.epoch) (codes ".") (both-written (codes "t") (decimal token.epoch) (refl, tt) (number-written token.epoch epoch)) (refl, tt))
    (number-written token.position position)) (refl, tt))
    (number-written token.start start)

some-text : (token : Token) → 0 < length (token_text token)
some-text token = omega arith

pub token-written : (token : Option (List ℕ)) → IsToken token → IsWritten (Delta token)
token-written None is = tt
token-written (Some text) is =
    let exact = token-exact text is.0 is.1 in
    subst IsWrittenToken (sym exact.0)
    (some-text is.0, All-from_recursion (λ b. is_token_byte b ≡ true) (token_text is.0) (text-written is.0 exact.1 exact.2 exact.3))
