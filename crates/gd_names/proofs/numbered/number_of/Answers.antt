use Rattle.std.proofs.Common.{sym}
use Rattle.gd_names.proofs.Decimals.{not_text, not_begun, not_read, read, read-range}
use Rattle.gd_names.proofs.numbered.number_of.Goals as goal

pub returns-in-Err-clause-numbers : goal.returns-in-Err-clause-numbers
returns-in-Err-clause-numbers c = λ n some small. not_text c.args.digits.now c.in-Err.ensures.cases.0 n small

pub returns-then-not-begins_with_count-clause-numbers : goal.returns-then-not-begins_with_count-clause-numbers
returns-then-not-begins_with_count-clause-numbers c = not_begun c.args.digits.now (sym c.if-not-begins_with_count.ensures)

pub returns-in-Ok-parse-clause-numbers : goal.returns-in-Ok-parse-clause-numbers
returns-in-Ok-parse-clause-numbers c = λ n some small.
    read c.args.digits.now c.in-Ok.text.now c.parse.result c.in-Ok.ensures.cases.0 c.parse.ensures.value.0 c.in-Ok-parse.number c.in-Ok-parse.is (sym c.if-not-begins_with_count.ensures) n small

pub returns-in-Ok-parse-clause-range : goal.returns-in-Ok-parse-clause-range
returns-in-Ok-parse-clause-range c =
    read-range c.args.digits.now c.in-Ok.text.now c.parse.result c.in-Ok.ensures.cases.0 c.parse.ensures.value.0 c.in-Ok-parse.number c.in-Ok-parse.is (sym c.if-not-begins_with_count.ensures)

pub returns-in-Err-parse-clause-numbers : goal.returns-in-Err-parse-clause-numbers
returns-in-Err-parse-clause-numbers c = λ n some small.
    not_read c.args.digits.now c.in-Ok.text.now c.parse.result c.in-Ok.ensures.cases.0 c.parse.ensures.value.0 c.in-Err-parse.field-0 c.in-Err-parse.is n small
