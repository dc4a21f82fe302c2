use Rattle.std.proofs.Common.{sym}
use Rattle.gd_json.proofs.Spelt.{no_text_port, port_parsed, port_refused}
use Rattle.gd_json.proofs.wire.is_port.Goals as goal

pub returns-in-Err : goal.returns-in-Err
returns-in-Err c = no_text_port c.args.text.now c.in-Err.ensures.cases.0

pub returns-in-Ok-parse : goal.returns-in-Ok-parse
returns-in-Ok-parse c =
    port_parsed c.args.text.now c.in-Ok.digits.now c.parse.result c.in-Ok.ensures.cases.0 (sym c.if-not-begins_with_count.ensures) c.parse.ensures.value.0 c.in-Ok-parse.field-0 c.in-Ok-parse.is

pub returns-in-Err-parse : goal.returns-in-Err-parse
returns-in-Err-parse c =
    port_refused c.args.text.now c.in-Ok.digits.now c.parse.result c.in-Ok.ensures.cases.0 (sym c.if-not-begins_with_count.ensures) c.parse.ensures.value.0 c.in-Err-parse.field-0 c.in-Err-parse.is
