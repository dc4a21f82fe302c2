-- From a text to its value, and from a written value to its text and back.
use Rattle.std.proofs.Common.{◌≡◌, ℕ, ◌≤◌, Bool, true, false, List, Option, Some, None, Result, Ok, Err, refl, sym, ap, subst, ◌∙◌, ⊎_elim, arith}
use Rattle.std.specs.Prelude.{IfOk}
use Rattle.std.specs.Str.{IsUtf8, is_utf8}
use Rattle.std.proofs.lemmas.Bool.{cases_Bool}
use Rattle.std.proofs.lemmas.Str.{is_utf8-from_IsUtf8, IsUtf8-from_is_utf8}
use Rattle.serde_json.specs.Data.{Data, depth}
use Rattle.serde_json.specs.Read.{read}
use Rattle.serde_json.specs.Written.{compact_text, has_float}
use Rattle.gd_json.specs.declared.fault.JsonFault.{JsonFault}
use Rattle.gd_json.specs.declared.fault.JsonFault.TheVariants.{NotJson, Lacks, BadMember, Memory}
use Rattle.gd_json.specs.Faults.{◌>>=◌, Fails, Gives}
use Rattle.gd_json.specs.Bodies.{value_at, text_at, body, JsonBody}
use Rattle.gd_json.proofs.Plain.{IsPlain}

abbrev pub any : Data → Result Data JsonFault
any d = Ok d

pub body_read : (bytes : List ℕ) (d : Data) → IsUtf8 bytes → read bytes ≡ Some d → body any bytes ≡ Ok d
body_read bytes d utf8 e = ap (λ b. text_at any b bytes) (is_utf8-from_IsUtf8 bytes utf8) ∙ ap (value_at any) e

pub body_none : (bytes : List ℕ) → (IsUtf8 bytes → read bytes ≡ None) → body any bytes ≡ Err NotJson
body_none bytes none =
    ⊎_elim
    (λ utf8. ap (λ b. text_at any b bytes) utf8 ∙ ap (value_at any) (none (IsUtf8-from_is_utf8 bytes utf8)))
    (λ other. ap (λ b. text_at any b bytes) other)
    (cases_Bool (is_utf8 bytes))

module _ {A : Type 0} (at : Data → Result A JsonFault) where
  value_then : (found : Option Data) → value_at at found ≡ (value_at any found >>= at)
  value_then None = refl
  value_then (Some d) = refl

  text_then : (b : Bool) (bytes : List ℕ) → text_at at b bytes ≡ (text_at any b bytes >>= at)
  text_then false bytes = refl
  text_then true bytes = value_then (read bytes)

  body_then : (bytes : List ℕ) → body at bytes ≡ (body any bytes >>= at)
  body_then bytes = text_then (is_utf8 bytes) bytes

  pub body_of : (bytes : List ℕ) (d : Data) → body any bytes ≡ Ok d → body at bytes ≡ at d
  body_of bytes d e = body_then bytes ∙ ap (λ r. r >>= at) e

  pub body_fails : (e : JsonFault) (bytes : List ℕ) → Fails e (body any bytes) → Fails e (body at bytes)
  body_fails Memory bytes h = tt
  body_fails NotJson bytes h = body_then bytes ∙ ap (λ r. r >>= at) h
  body_fails (Lacks m) bytes h = body_then bytes ∙ ap (λ r. r >>= at) h
  body_fails (BadMember m) bytes h = body_then bytes ∙ ap (λ r. r >>= at) h

  -- what was read of the value is what the body is
  pub gives : (result : Result A JsonFault) (bytes : List ℕ) (d : Data) → body any bytes ≡ Ok d → Gives (λ x. x) result (at d) → Gives (λ x. x) result (body at bytes)
  gives result bytes d e h = subst (Gives (λ x. x) result) (sym (body_of bytes d e)) h

-- a written value is read again
pub again : {A : Type 0} (at : Data → Result A JsonFault) (x : A) (b : List ℕ) (n : ℕ) (d written : Data) → d ≡ written → IsPlain n written → n ≤ 127
    → (depth d ≤ 127 → body any b ≡ Ok d) → at written ≡ Ok x → JsonBody at x b
again at x b n d written same plain low back reads =
    let shallow : depth d ≤ 127 = rw same (omega (arith, plain.shallow)) in
    body_of at b d (back shallow) ∙ ap at same ∙ reads

-- and its text is the one
pub text_is : (b : List ℕ) (n : ℕ) (d written : Data) → d ≡ written → IsPlain n written → (has_float d ≡ false → b ≡ compact_text d) → b ≡ compact_text written
text_is b n d written same plain text = text (ap has_float same ∙ plain.exact) ∙ ap compact_text same

-- a fact of what a call gives, from another one
pub map_ok : {T E : Type 0} (P Q : T → Type 0) (r : Result T E) → ((x : T) → P x → Q x) → IfOk r P → IfOk r Q
map_ok P Q (Ok x) f h = f x h
map_ok P Q (Err e) f h = tt

pub gives_again : {A E : Type 0} (at : Data → Result A JsonFault) (x : A) (n : ℕ) (d written : Data) (r : Result (List ℕ) E) → d ≡ written → IsPlain n written → n ≤ 127
    → at written ≡ Ok x → IfOk r (λ b. depth d ≤ 127 → body any b ≡ Ok d) → IfOk r (JsonBody at x)
gives_again at x n d written r same plain low reads back =
    map_ok (λ b. depth d ≤ 127 → body any b ≡ Ok d) (JsonBody at x) r (λ b h. again at x b n d written same plain low h reads) back

pub gives_again_if : {A E : Type 0} (P : Type 0) (at : Data → Result A JsonFault) (x : A) (n : ℕ) (d written : Data) (r : Result (List ℕ) E) → d ≡ written → IsPlain n written → n ≤ 127
    → (P → at written ≡ Ok x) → IfOk r (λ b. depth d ≤ 127 → body any b ≡ Ok d) → IfOk r (λ b. P → JsonBody at x b)
gives_again_if P at x n d written r same plain low reads back =
    map_ok (λ b. depth d ≤ 127 → body any b ≡ Ok d) (λ b. P → JsonBody at x b) r (λ b h p. again at x b n d written same plain low h (reads p)) back

pub gives_text : {E : Type 0} (n : ℕ) (d written : Data) (r : Result (List ℕ) E) → d ≡ written → IsPlain n written → IfOk r (λ b. has_float d ≡ false → b ≡ compact_text d) → IfOk r (λ b. b ≡ compact_text written)
gives_text n d written r same plain text =
    map_ok (λ b. has_float d ≡ false → b ≡ compact_text d) (λ b. b ≡ compact_text written) r (λ b h. text_is b n d written same plain h) text
