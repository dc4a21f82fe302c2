use Rattle.std.proofs.Common.{sym, arith}
use Rattle.gd_names.proofs.CaselessParts.{end_is, end_is_not}
use Rattle.gd_names.proofs.caseless.strip_caseless_end.Goals as goal

pub returns-then-equal_bytes-clause-rest : goal.returns-then-equal_bytes-clause-rest
returns-then-equal_bytes-clause-rest c = end_is c.args.text.now _ _ c.split_at.ensures.by_index.0 c.args.end.now (omega arith) (sym c.if-equal_bytes.ensures)

pub returns-else-equal_bytes-clause-rest : goal.returns-else-equal_bytes-clause-rest
returns-else-equal_bytes-clause-rest c = end_is_not c.args.text.now _ _ c.split_at.ensures.by_index.0 c.args.end.now (omega arith) (sym c.if-equal_bytes.ensures)
