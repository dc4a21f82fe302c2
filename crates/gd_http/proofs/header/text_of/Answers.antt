use Rattle.std.proofs.Common.{refl}
use Rattle.std.specs.Str.{is_utf8}
use Rattle.std.proofs.lemmas.Bool.{false_from_ne_true}
use Rattle.std.proofs.lemmas.Str.{is_utf8-from_IsUtf8, IsUtf8-from_is_utf8}
use Rattle.gd_http.proofs.header.text_of.Goals as goal

pub returns-in-Ok : goal.returns-in-Ok
returns-in-Ok c = rw (is_utf8-from_IsUtf8 c.args.value.now c.in-Ok.ensures.ok.1, c.in-Ok.ensures.ok.0) refl

pub returns-in-Err-NotUtf8 : goal.returns-in-Err-NotUtf8
returns-in-Err-NotUtf8 c =
    rw (false_from_ne_true (is_utf8 c.args.value.now) (λ is_text. c.in-Err-NotUtf8.ensures.not_utf8 (rw c.in-Err-NotUtf8.field-0-is refl) (IsUtf8-from_is_utf8 c.args.value.now is_text))) refl
