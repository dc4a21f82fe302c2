use Rattle.std.proofs.Common.{sym}
use Rattle.gd_names.proofs.CaselessParts.{front_is, front_is_not}
use Rattle.gd_names.proofs.caseless.strip_caseless_front.Goals as goal

pub returns-then-equal_bytes-clause-rest : goal.returns-then-equal_bytes-clause-rest
returns-then-equal_bytes-clause-rest c = front_is c.args.text.now _ _ c.split_at.ensures.by_index.0 c.args.front.now c.split_at.ensures.front_len (sym c.if-equal_bytes.ensures)

pub returns-else-equal_bytes-clause-rest : goal.returns-else-equal_bytes-clause-rest
returns-else-equal_bytes-clause-rest c = front_is_not c.args.text.now _ _ c.split_at.ensures.by_index.0 c.args.front.now c.split_at.ensures.front_len (sym c.if-equal_bytes.ensures)
