use Rattle.std.proofs.Common.{List, ℕ, Result, Err, sym, ap}
use Rattle.gd_names.specs.declared.text.TextFault.{TextFault}
use Rattle.gd_json.proofs.Spelt.{base_text}
use Rattle.gd_json.proofs.wire.Wire.read.Goals as goal

abbrev refused : TextFault → Result (List ℕ) TextFault
refused fault = Err fault

pub returns-in-Err-NotUtf8 : goal.returns-in-Err-NotUtf8
returns-in-Err-NotUtf8 c =
    absurd (c.in-Err-NotUtf8.ensures.not_utf8 (ap refused c.in-Err-NotUtf8.field-0-is) (base_text c.args.text.now (sym c.if-not-is_base.ensures)))
