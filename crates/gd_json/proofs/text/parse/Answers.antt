use Rattle.std.proofs.lemmas.Bool.{false≢true}
use Rattle.gd_json.proofs.Through.{body_read, body_none}
use Rattle.gd_json.proofs.text.parse.Goals as goal

pub returns-in-Ok : goal.returns-in-Ok
returns-in-Ok c = body_read c.args.bytes.now _ c.in-Ok.ensures.ok.0 c.in-Ok.ensures.ok.1

pub returns-else-is_memory : goal.returns-else-is_memory
returns-else-is_memory c = body_none c.args.bytes.now (c.in-Err.ensures.err (λ memory. false≢true (c.if-is_memory.ensures.1 memory)))
