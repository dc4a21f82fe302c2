use Rattle.std.proofs.Common.{sym}
use Rattle.gd_json.proofs.Spelt.{no_number, not_text, no_plus, number_parsed, number_refused}
use Rattle.gd_target.proofs.number.number_of.Goals as goal

pub returns-in-Err : goal.returns-in-Err
returns-in-Err c = not_text c.args.digits.now c.in-Err.ensures.cases.0

pub returns-then-begins_with_plus : goal.returns-then-begins_with_plus
returns-then-begins_with_plus c = no_number c.args.digits.now (λ h. no_plus c.args.digits.now (sym c.if-begins_with_plus.ensures) h.0)

pub returns-in-Ok-parse : goal.returns-in-Ok-parse
returns-in-Ok-parse c =
    number_parsed c.args.digits.now c.in-Ok.text.now c.parse.result c.in-Ok.ensures.cases.0 (sym c.if-begins_with_plus.ensures) c.parse.ensures.value.0 c.in-Ok-parse.number c.in-Ok-parse.is

pub returns-in-Err-parse : goal.returns-in-Err-parse
returns-in-Err-parse c =
    number_refused c.args.digits.now c.in-Ok.text.now c.parse.result c.in-Ok.ensures.cases.0 (sym c.if-begins_with_plus.ensures) c.parse.ensures.value.0 c.in-Err-parse.field-0 c.in-Err-parse.is
