use Rattle.std.proofs.Common.{List, ℕ, Result, Err, sym, ap}
use Rattle.gd_names.specs.declared.text.TextFault.{TextFault}
use Rattle.gd_json.proofs.Spelt.{token_text}
use Rattle.gd_json.proofs.link.token_in.Goals as goal

abbrev refused : TextFault → Result (List ℕ) TextFault
refused fault = Err fault

pub returns-in-Err-NotUtf8 : goal.returns-in-Err-NotUtf8
returns-in-Err-NotUtf8 c =
    absurd (c.in-Err-NotUtf8.ensures.not_utf8 (ap refused c.in-Err-NotUtf8.field-0-is) (token_text c.args.rest.now (sym c.if-not-is_token.ensures)))
