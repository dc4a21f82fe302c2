use Rattle.std.proofs.Common.{Some, ap, ◌∙◌, arith}
use Rattle.gd_item.specs.Refused.{is_unlike}
use Rattle.gd_item.specs.Targets.{name_in_path}
use Rattle.gd_api.proofs.Calls.{last-in-path}
use Rattle.gd_api.proofs.uploads.is_unlike_last.Goals as goal

pub returns : goal.returns
returns c =
    c.ne.ensures
    ∙ ap (is_unlike (Some c.args.name.now)) (last-in-path c.names.result.now c.last-item.result (omega (arith, c.in-len1-up.len_at_least)) c.last-item.is ∙ ap name_in_path c.names.ensures)
