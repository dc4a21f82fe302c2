use Rattle.std.proofs.Common.{Some, ap, ◌∙◌, arith}
use Rattle.gd_api.proofs.Calls.{last-by-index}
use Rattle.gd_api.proofs.reads.last_name_of.Goals as goal

pub returns : goal.returns
returns c = ap Some c.in_ok-name.ensures.cases ∙ last-by-index c.args.items.now c.last-item.result (omega (arith, c.in-len1-up.len_at_least)) c.last-item.is
