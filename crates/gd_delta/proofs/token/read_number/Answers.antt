use Rattle.std.proofs.Common.{sym}
use Rattle.gd_delta.proofs.Decimals.{not_text, led, not_read, read}
use Rattle.gd_delta.proofs.token.read_number.Goals as goal

pub returns-in-Err : goal.returns-in-Err
returns-in-Err c = sym (not_text c.args.digits.now c.in-Err.ensures.cases.0)

pub returns-then-has_more_before : goal.returns-then-has_more_before
returns-then-has_more_before c = sym (led c.args.digits.now (sym c.if-has_more_before.ensures))

pub returns-in-Ok-parse : goal.returns-in-Ok-parse
returns-in-Ok-parse c =
    sym (read c.args.digits.now c.in-Ok.text.now c.parse.result c.in-Ok.ensures.cases.0 c.parse.ensures.value.0 c.in-Ok-parse.number c.in-Ok-parse.is (sym c.if-has_more_before.ensures))

pub returns-in-Err-parse : goal.returns-in-Err-parse
returns-in-Err-parse c =
    sym (not_read c.args.digits.now c.in-Ok.text.now c.parse.result c.in-Ok.ensures.cases.0 c.parse.ensures.value.0 c.in-Err-parse.field-0 c.in-Err-parse.is)
